-- A number by its bits.
use Rattle.std.proofs.Common.{◌≡◌, ℕ, zero, suc, ◌+◌, ◌*◌, ◌/◌, ◌%◌, ◌<◌, ◌≤◌, ◌^◌, ◌==◌, arith, refl, Bool, true, false, cond, ap, sym, ◌∙◌, add-one, inl, inr}
use Rattle.std.proofs.Math.Nat.{pow-suc}
use Rattle.std.specs.Int.{bit_at}
use Rattle.std.proofs.lemmas.Nat.Bits.{bit_at_lowest, bit_at-suc, bit_at-lt, same_from_bits_below}
use Rattle.std.proofs.lemmas.Bool.{eqb-true, eqb-false, cases_Bool}
use Rattle.vd_control.specs.Settings.{has_bit, number_of}

-- 1 where it passes
abbrev pub digit : Bool → ℕ
digit true = 1
digit false = 0

pub number_of-suc : (n : ℕ) (p : ℕ → Bool) → number_of (suc n) p ≡ digit (p 0) + 2 * number_of n (λ place. p (place + 1))
unfolding number_of
number_of-suc n p = elim (p 0) as (λ b. cond b 1 0 + 2 * number_of n (λ place. p (place + 1)) ≡ digit b
    + 2 * number_of n (λ place. p (place + 1))) [ true ↦ refl | false ↦ refl ]

pub number_of-small : (n : ℕ) (p : ℕ → Bool) → number_of n p < 2 ^ n
unfolding number_of
number_of-small zero p = omega arith
number_of-small (suc n) p =
    let small = number_of-small n (λ place. p (place + 1)) in
    let twice = pow-suc 2 n in
    elim (p 0) as (λ b. cond b 1 0 + 2 * number_of n (λ place. p (place + 1)) < 2 ^ suc n) [ true ↦ omega arith | false ↦ omega arith ]

digit-le : (b : Bool) → digit b ≤ 1
digit-le true = omega arith
digit-le false = omega arith

pub bit_of : (n : ℕ) (p : ℕ → Bool) (i : ℕ) → i < n → bit_at (number_of n p) i ≡ digit (p i)
bit_of zero p i h = absurd (omega arith)
bit_of (suc n) p zero h =
    let e = number_of-suc n p in
    let small = digit-le (p 0) in
    let low : number_of (suc n) p % 2 ≡ digit (p 0) = omega arith in
    bit_at_lowest (number_of (suc n) p) ∙ low
bit_of (suc n) p (suc i) h =
    let e = number_of-suc n p in
    let small = digit-le (p 0) in
    let half : number_of (suc n) p / 2 ≡ number_of n (λ place. p (place + 1)) = omega arith in
    let rest : bit_at (number_of n (λ place. p (place + 1))) i ≡ digit (p (i + 1)) = bit_of n (λ place. p (place + 1)) i (omega arith) in
    bit_at-suc (number_of (suc n) p) i ∙ ap (λ (x : ℕ). bit_at x i) half ∙ rest ∙ ap (λ (x : ℕ). digit (p x)) (add-one i)

-- a bit is set exactly where its digit is 1
pub has_digit : (b : Bool) → (digit b == 1) ≡ b
has_digit true = refl
has_digit false = refl

pub digit_has : (number place : ℕ) → digit (has_bit number place) ≡ bit_at number place
digit_has number place =
    let small = bit_at-lt number place in
    elim (cases_Bool (has_bit number place)) [
      | inl on ↦ rw on (sym (eqb-true (bit_at number place) 1 on))
      | inr off ↦ rw off (let none : bit_at number place ≡ 1 → ⊥ = eqb-false (bit_at number place) 1 off in
          let e : bit_at number place ≡ 0 = omega arith in sym e)
    ]

-- the number has the bits that pass
pub has_bit-number_of : (n : ℕ) (p : ℕ → Bool) (i : ℕ) → i < n → has_bit (number_of n p) i ≡ p i
has_bit-number_of n p i h = ap (λ (x : ℕ). x == 1) (bit_of n p i h) ∙ has_digit (p i)

-- a number is the one of its bits
pub number_of_same : (n number : ℕ) (p : ℕ → Bool) → number < 2 ^ n → ((i : ℕ) → i < n → has_bit number i ≡ p i) → number ≡ number_of n p
number_of_same n number p small same =
    same_from_bits_below n number (number_of n p) small (number_of-small n p) (λ i h. sym (digit_has number i) ∙ ap digit (same i h)
    ∙ sym (bit_of n p i h))
