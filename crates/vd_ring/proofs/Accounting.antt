-- The account of a ring whose two sides' lists agree.
use Rattle.std.proofs.Common.{◌≡◌, ℕ, zero, suc, ◌+◌, ◌<◌, ◌≤◌, List, [], ◌∷◌, length, map, take, nat_lt, slice_index, slice_index_or, refl, sym, ap, ◌∙◌, arith, inl, inr}
use Rattle.std.proofs.lemmas.Bool.{cases_eq, cases_lt, eq-eqb, ne_eqb}
use Rattle.std.proofs.lemmas.List.{length-map, get_or_append_left, get_or_push}
use Rattle.std.proofs.lemmas.Grind.{same_number_lists}
use Rattle.vd_ring.specs.declared.frame.Frame.{Frame}
use Rattle.vd_ring.specs.declared.frame.Used.{Used}
use Rattle.vd_ring.specs.declared.driver.DriverDone.{DriverDone}
use Rattle.vd_ring.specs.declared.device.DeviceDone.{DeviceDone}
use Rattle.vd_ring.specs.Account.{Lawful, Ordered, given_len, with_lengths, account_of, Accounts}
use Rattle.vd_ring.specs.History.{offers, takes, gives, numbers, occurs, upto, used_at}
use Rattle.vd_ring.specs.Lists.{Lists}
use Rattle.vd_ring.proofs.Counts.{one_same, one_small, length_upto}
use Rattle.vd_ring.proofs.ListSteps.{number_in, number_at, given_below}

-- ---- numbers in order

upto_at : (n j : ℕ) → j < n → slice_index (upto n) j ≡ j
upto_at zero j h = absurd (omega arith)
upto_at (suc n) j h = elim (cases_lt j n) [
  | inl a ↦ get_or_append_left (upto n) (n ∷ []) 0 j (omega (arith, length_upto n)) ∙ upto_at n j a
  | inr a ↦ (let e : n ≡ j = omega arith in get_or_push (upto n) n 0 j (length_upto n ∙ e) ∙ e)
]

-- a list of entries whose j-th number is j
pub ordered : (us : List Used) → ((j : ℕ) → j < length us → (used_at us j).number ≡ j) → Ordered us
ordered us at =
    let len : length (numbers us) ≡ length us = length-map us (λ (u : Used). u.number) in
    same_number_lists (numbers us) (upto (length us)) (len ∙ sym (length_upto (length us)))
    (λ j h. number_at us j (omega arith) ∙ at j (omega arith) ∙ sym (upto_at (length us) j (omega arith)))

-- ---- lengths

chains_of : {X : Type 0} (g : List Used) (k : ℕ) (cs : List X) → map (λ (x : X × ℕ). x.0) (with_lengths g k cs) ≡ cs
chains_of g k [] = refl
chains_of g k (c ∷ cs) = ap (λ ds. c ∷ ds) (chains_of g (k + 1) cs)

as_many : {X : Type 0} (g : List Used) (k : ℕ) (cs : List X) → length (with_lengths g k cs) ≡ length cs
as_many g k [] = refl
as_many g k (c ∷ cs) = omega (arith, as_many g (k + 1) cs)

length_at : {X : Type 0} (g : List Used) (k : ℕ) (cs : List X) (j : ℕ) (d : X × ℕ) → j < length cs
    → (slice_index_or (with_lengths g k cs) j d).1 ≡ given_len g (k + j)
length_at g k [] j d h = absurd (omega arith)
length_at g k (c ∷ cs) zero d h = let e : k ≡ k + 0 = omega arith in ap (given_len g) e
length_at g k (c ∷ cs) (suc j) d h = let e : k + 1 + j ≡ k + suc j = omega arith in length_at g (k + 1) cs j d (omega arith)
    ∙ ap (given_len g) e

len_of : (us : List Used) (j : ℕ) → j < length us → occurs (used_at us j).number (numbers us) ≤ 1
    → given_len us (used_at us j).number ≡ (used_at us j).len
len_of [] j h once = absurd (omega arith)
len_of (u ∷ us) zero h once = rw (eq-eqb u.number u.number refl) refl
len_of (u ∷ us) (suc j) h once = elim (cases_eq u.number (used_at us j).number) [
  | inl e ↦ absurd (omega (arith, one_same u.number (used_at us j).number e, number_in us j (omega arith)))
  | inr ne ↦ rw (ne_eqb u.number (used_at us j).number ne) (len_of us j (omega arith) (omega arith))
]

-- ---- the account

lawful : (f : Frame) (o : List DriverDone) (s : List DeviceDone) → Lists f o s → Lawful (account_of o s)
lawful f o s l =
    let differ : (k : ℕ) → occurs k (numbers (gives s)) ≤ 1 = λ k. omega (arith, l.given k, one_small (nat_lt k (length (takes s)))) in
    let many : length (with_lengths (gives s) 0 (takes s)) ≡ length (takes s) = as_many (gives s) 0 (takes s) in
    record {
      begun = chains_of (gives s) 0 (takes s) ∙ l.taken ∙ ap (λ n. take n (offers o)) (sym many);
      differ = differ;
      inside = λ j h. omega (arith, given_below f o s j l h, many);
      lengths = λ j d h.
          let k : ℕ = (used_at (gives s) j).number in
          let same : 0 + k ≡ k = omega arith in
          length_at (gives s) 0 (takes s) k d (given_below f o s j l h) ∙ ap (given_len (gives s)) same ∙ len_of (gives s) j h (differ k);
      collected = l.collected;
    }

pub accounts : (f : Frame) (o : List DriverDone) (s : List DeviceDone) → Lists f o s → Accounts f.features.in_order o s
accounts f o s l = record {
  lawful = lawful f o s l;
  ordered = λ on. ordered (gives s) (l.in_order on);
  whole = λ all. record {
    lawful = lawful f o s l;
    begun = omega (arith, as_many (gives s) 0 (takes s), l.some, l.count, l.fewer);
    given = omega (arith, l.some, l.count, l.fewer);
    collected = all;
  };
}
