-- Positions in a ring: lap * size + place.
use Rattle.std.proofs.Common.{◌≡◌, ℕ, suc, ◌+◌, ◌-◌, ◌*◌, ◌/◌, ◌%◌, ◌<◌, ◌≤◌, Bool, true, false, not, refl, sym, ap, ◌∙◌, arith, inl, inr, ◌⊎◌}
use Rattle.std.proofs.Math.Nat.{mul-le-mul_right}
use Rattle.std.proofs.lemmas.Nat.{div-mul-add, mod-mul-add, div-add-mod'}
use Rattle.std.proofs.lemmas.Bool.{cases_lt}
use Rattle.std.proofs.lemmas.Bool.Decides.{nat_tests}
use Rattle.std.proofs.Math.Bool.{beq}
use Rattle.vd_bits.specs.Lanes.{is_even}
use Rattle.vd_event.specs.Rings.{HasPlace}

-- a position by its lap and place
split : (n p : ℕ) → p ≡ p / n * n + p % n
split n p = sym (div-add-mod' p n)

-- positions of one place, at most a lap apart, are one
same_lap : (n k l a o : ℕ) → o < n → a ≤ o → l * n + a ≤ k * n + o → k * n + o < l * n + a + n → k ≡ l
same_lap n k l a o h b low high = elim (cases_lt k l) [
  | inl less ↦ absurd (let m : suc k * n ≤ l * n = mul-le-mul_right n less in omega arith)
  | inr more ↦ elim (cases_lt l k) [
    | inl less ↦ absurd (let m : suc l * n ≤ k * n = mul-le-mul_right n less in omega arith)
    | inr same ↦ omega arith
  ]
]

-- or stand a lap apart
next_lap : (n k l a o : ℕ) → a < n → o < a → l * n + a ≤ k * n + o → k * n + o < l * n + a + n → k ≡ suc l
next_lap n k l a o h b low high = elim (cases_lt k (suc l)) [
  | inl less ↦ absurd (let m : suc k * n ≤ suc l * n = mul-le-mul_right n less in omega arith)
  | inr more ↦ elim (cases_lt (suc l) k) [
    | inl less ↦ absurd (let m : suc (suc l) * n ≤ k * n = mul-le-mul_right n less in omega arith)
    | inr same ↦ omega arith
  ]
]

-- the wrap turns from lap to lap
even-suc : (l : ℕ) → is_even (suc l) ≡ not (is_even l)
even-suc l = grind (arith, nat_tests)

-- laps of one wrap differ by two at least
even_apart : (k l : ℕ) → is_even k ≡ is_even l → k < l → suc (suc k) ≤ l
even_apart k l e h = grind (arith, nat_tests)

-- in a range of at most a lap, the position with a place is in the lap of old
pub here : (n old new o : ℕ) (w : Bool) → o < n → old % n ≤ o → o - old % n < new - old → w ≡ is_even (old / n) → HasPlace n old new o w
here n old new o w h b d e =
    let s = split n old in
    (old / n * n + o, omega arith, omega arith, mod-mul-add (old / n) n o h, ap is_even (div-mul-add (old / n) n o h) ∙ sym e)

-- and it is the only one
pub only_here : (n old new o : ℕ) (w : Bool) → o < n → old % n ≤ o → old < new → new - old ≤ n → HasPlace n old new o w
    → (o - old % n < new - old) × (w ≡ is_even (old / n))
only_here n old new o w h b some near f =
    let s = split n old in
    let p : f.0 ≡ f.0 / n * n + o = split n f.0 ∙ ap (λ (x : ℕ). f.0 / n * n + x) f.3 in
    let k : f.0 / n ≡ old / n = same_lap n (f.0 / n) (old / n) (old % n) o h b (omega (arith, f.1, f.2)) (omega (arith, f.1, f.2)) in
    let m : f.0 / n * n ≡ old / n * n = ap (λ (x : ℕ). x * n) k in
    (omega (arith, f.1, f.2), sym f.4 ∙ ap is_even k)

-- or it is in the next lap, whose wrap is the other
pub next : (n old new o : ℕ) (w : Bool) → o < n → o < old % n → old % n < n → n - old % n + o < new - old → w ≡ not (is_even (old / n))
    → HasPlace n old new o w
next n old new o w h b a d e =
    let s = split n old in (
      suc (old / n) * n + o,
      omega arith,
      omega arith,
      mod-mul-add (suc (old / n)) n o h,
      ap is_even (div-mul-add (suc (old / n)) n o h) ∙ even-suc (old / n) ∙ sym e,
    )

-- and it is the only one
pub only_next : (n old new o : ℕ) (w : Bool) → o < n → o < old % n → old % n < n → old < new → new - old ≤ n → HasPlace n old new o w
    → (n - old % n + o < new - old) × (w ≡ not (is_even (old / n)))
only_next n old new o w h b a some near f =
    let s = split n old in
    let p : f.0 ≡ f.0 / n * n + o = split n f.0 ∙ ap (λ (x : ℕ). f.0 / n * n + x) f.3 in
    let k : f.0 / n ≡ suc (old / n) = next_lap n (f.0 / n) (old / n) (old % n) o a b (omega (arith, f.1, f.2)) (omega (arith, f.1, f.2)) in
    let m : f.0 / n * n ≡ suc (old / n) * n = ap (λ (x : ℕ). x * n) k in
    (omega (arith, f.1, f.2), sym f.4 ∙ ap is_even k ∙ even-suc (old / n))

-- a position outside the range and less than two laps away has not the place and wrap of one in it
pub apart : (n old new s : ℕ) → 0 < n → new ≤ s + 2 * n → s < old + 2 * n → (s < old) ⊎ (new ≤ s)
    → HasPlace n old new (s % n) (is_even (s / n)) → ⊥
apart n old new s z low high side f =
    let t = split n s in
    let p : f.0 ≡ f.0 / n * n + s % n = split n f.0 ∙ ap (λ (x : ℕ). f.0 / n * n + x) f.3 in
    elim side [
      | inl before ↦ elim (cases_lt (s / n) (f.0 / n)) [
        | inl less ↦
            let two : suc (suc (s / n)) ≤ f.0 / n = even_apart (s / n) (f.0 / n) (sym f.4) less in
            let m : suc (suc (s / n)) * n ≤ f.0 / n * n = mul-le-mul_right n two in omega (arith, f.1, f.2)
        | inr not_less ↦ let m : f.0 / n * n ≤ s / n * n = mul-le-mul_right n not_less in omega (arith, f.1, f.2)
      ]
      | inr behind ↦ elim (cases_lt (f.0 / n) (s / n)) [
        | inl less ↦
            let two : suc (suc (f.0 / n)) ≤ s / n = even_apart (f.0 / n) (s / n) f.4 less in
            let m : suc (suc (f.0 / n)) * n ≤ s / n * n = mul-le-mul_right n two in omega (arith, f.1, f.2)
        | inr not_less ↦ let m : s / n * n ≤ f.0 / n * n = mul-le-mul_right n not_less in omega (arith, f.1, f.2)
      ]
    ]

-- what the tests of two wraps say
pub same_wrap : (a b : Bool) → beq a b ≡ true → a ≡ b
same_wrap true true h = refl
same_wrap true false h = cc
same_wrap false true h = cc
same_wrap false false h = refl

pub other_wrap : (a b : Bool) → not (beq a b) ≡ true → a ≡ not b
other_wrap true true h = cc
other_wrap true false h = refl
other_wrap false true h = refl
other_wrap false false h = cc

pub is_same : (a b : Bool) → a ≡ b → beq a b ≡ true
is_same true true h = refl
is_same true false h = sym h
is_same false true h = h
is_same false false h = refl

pub is_other : (a b : Bool) → a ≡ not b → not (beq a b) ≡ true
is_other true true h = sym h
is_other true false h = refl
is_other false true h = refl
is_other false false h = h
