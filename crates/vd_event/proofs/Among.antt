-- The test of a packed range, position by position, says whether one of its positions has the place and wrap.
use Rattle.std.proofs.Common.{◌≡◌, ℕ, zero, suc, ◌+◌, ◌-◌, ◌/◌, ◌%◌, ◌<◌, ◌≤◌, ◌⊎◌, ◌==◌, ◌&&◌, ◌||◌, Bool, true, false, refl, sym, subst, arith, inl, inr}
use Rattle.std.proofs.lemmas.Bool.Decides.{nat_tests}
use Rattle.vd_bits.specs.Lanes.{is_even}
use Rattle.vd_event.specs.Words.{offset_of, wrap_of, flags_of}
use Rattle.vd_event.specs.declared.rule.EventRule.{EventRule}
use Rattle.vd_event.specs.declared.rule.EventRule.TheVariants.{Packed}
use Rattle.vd_event.specs.Rings.{HasPlace, is_at, is_among, Rings, RingsPacked}

at_says : (size p place : ℕ) (wrap : Bool) → is_at size p place wrap ≡ true → (p % size ≡ place) × (is_even (p / size) ≡ wrap)
at_says size p place true is = grind (arith, nat_tests)
at_says size p place false is = grind (arith, nat_tests)

says_at : (size p place : ℕ) (wrap : Bool) → p % size ≡ place → is_even (p / size) ≡ wrap → is_at size p place wrap ≡ true
says_at size p place true is even = grind (arith, nat_tests)
says_at size p place false is even = grind (arith, nat_tests)

either : (a b : Bool) → a || b ≡ true → (a ≡ true) ⊎ (b ≡ true)
either true b is = inl refl
either false b is = inr is

first_so : (a b : Bool) → a ≡ true → a || b ≡ true
first_so true b is = refl
first_so false b is = cc

second_so : (a b : Bool) → b ≡ true → a || b ≡ true
second_so true b is = refl
second_so false b is = is

pub among_says : (size first count place : ℕ) (wrap : Bool) → is_among size first count place wrap ≡ true
    → HasPlace size first (first + count) place wrap
among_says size first zero place wrap is = cc
among_says size first (suc count) place wrap is =
    elim (either (is_at size first place wrap) (is_among size (suc first) count place wrap) is) [
      | inl here ↦ (let a = at_says size first place wrap here in (first, omega arith, omega arith, a.0, a.1))
      | inr there ↦ (let h = among_says size (suc first) count place wrap there in (h.0, omega (arith, h.1), omega (arith, h.2), h.3, h.4))
    ]

later : (a b : ℕ) → a ≤ b → (a ≡ b) ⊎ (suc a ≤ b)
later a b le = grind (arith)

pub says_among : (size first count place : ℕ) (wrap : Bool) (p : ℕ) → first ≤ p → p < first + count → p % size ≡ place
    → is_even (p / size) ≡ wrap → is_among size first count place wrap ≡ true
says_among size first zero place wrap p low high is even = absurd (omega arith)
says_among size first (suc count) place wrap p low high is even = elim (later first p low) [
  | inl same ↦ first_so (is_at size first place wrap) (is_among size (suc first) count place wrap)
      (says_at size first place wrap (subst (λ x. x % size ≡ place) (sym same) is) (subst (λ x. is_even (x / size) ≡ wrap) (sym same) even))
  | inr more ↦ second_so (is_at size first place wrap) (is_among size (suc first) count place wrap)
      (says_among size (suc first) count place wrap p more (omega arith) is even)
]

both : (a b : Bool) → a ≡ true → b ≡ true → a && b ≡ true
both true true x y = refl
both true false x y = cc
both false b x y = cc

each : (a b : Bool) → a && b ≡ true → (a ≡ true) × (b ≡ true)
each true true is = (refl, refl)
each true false is = cc
each false b is = cc

equal : (a b : ℕ) → a ≡ b → (a == b) ≡ true
equal a b is = grind (arith, nat_tests)

same : (a b : ℕ) → (a == b) ≡ true → a ≡ b
same a b is = grind (arith, nat_tests)

-- a range that is not empty wants a signal exactly where it says so in terms of positions
pub packed_rings : (size old new word : ℕ) → old ≤ new → Rings (Packed size) old new word → RingsPacked size old new word
packed_rings size old new word some is =
    elim (either (flags_of word == 0) ((flags_of word == 2) && is_among size old (new - old) (offset_of word) (wrap_of word)) is) [
      | inl on ↦ inl (same (flags_of word) 0 on)
      | inr named ↦ (
          let b = each (flags_of word == 2) (is_among size old (new - old) (offset_of word) (wrap_of word)) named in
          let h = among_says size old (new - old) (offset_of word) (wrap_of word) b.1 in
          inr (same (flags_of word) 2 b.0, (h.0, h.1, omega (arith, h.2), h.3, h.4)))
    ]

pub rings_packed : (size old new word : ℕ) → RingsPacked size old new word → Rings (Packed size) old new word
rings_packed size old new word (inl on) =
    first_so (flags_of word == 0) ((flags_of word == 2) && is_among size old (new - old) (offset_of word) (wrap_of word))
    (equal (flags_of word) 0 on)
rings_packed size old new word (inr named) =
    second_so (flags_of word == 0) ((flags_of word == 2) && is_among size old (new - old) (offset_of word) (wrap_of word))
    (both (flags_of word == 2) (is_among size old (new - old) (offset_of word) (wrap_of word)) (equal (flags_of word) 2 named.0)
    (says_among size old (new - old) (offset_of word) (wrap_of word) named.1.0 named.1.1 (omega (arith, named.1.1, named.1.2)) named.1.3
    named.1.4))

-- the same of a rule that is a packed ring's
pub as_packed : (rule : EventRule) (size old new word : ℕ) → rule ≡ Packed size → old ≤ new → Rings rule old new word
    → RingsPacked size old new word
as_packed rule size old new word is some r = packed_rings size old new word some (subst (λ x. Rings x old new word) is r)

pub of_packed : (rule : EventRule) (size old new word : ℕ) → rule ≡ Packed size → RingsPacked size old new word → Rings rule old new word
of_packed rule size old new word is r = subst (λ x. Rings x old new word) (sym is) (rings_packed size old new word r)
