-- A set of VLANs and its words.
use Rattle.std.proofs.Common.{◌≡◌, ◌≢◌, ℕ, ◌+◌, ◌-◌, ◌*◌, ◌/◌, ◌%◌, ◌<◌, ◌^◌, ◌==◌, List, length, arith, refl, Bool, not, ◌&&◌, ◌||◌, ap, sym, ◌∙◌, subst, inl, inr, get_or, set, get_or-set_same, get_or-set_other, bit_or, bit_and, length-set}
use Rattle.std.specs.Int.{w64}
use Rattle.std.proofs.lemmas.List.FromFn.{length-map-range_with_len, get_or-map-range_with_len, fill_by_all}
use Rattle.std.proofs.lemmas.Nat.{or_lt, and_le_l}
use Rattle.std.proofs.lemmas.Nat.Bits.{bit_at_set_same, bit_at_set_other, bit_at_clear_same, bit_at_clear_other}
use Rattle.std.proofs.lemmas.Bool.{cases_eq, eq-eqb, ne_eqb}
use Rattle.vd_control.specs.Settings.{has_bit, has_vlan, number_of, words_of}
use Rattle.vd_control.proofs.Bits.{has_bit-number_of, number_of_same}

-- 64 words of 64 bits
pub record IsWords (words : List ℕ) : Type 0 where
  pub many : length words ≡ 64
  pub small : (k : ℕ) → k < 64 → get_or words k 0 < 2 ^ 64

pub length-words_of : (p : ℕ → Bool) → length (words_of p) ≡ 64
unfolding words_of
length-words_of p = length-map-range_with_len (λ k. number_of 64 (λ place. p (64 * k + place))) 0 64

pub get_or-words_of : (p : ℕ → Bool) (k : ℕ) → k < 64 → get_or (words_of p) k 0 ≡ number_of 64 (λ place. p (64 * k + place))
unfolding words_of
get_or-words_of p k h = get_or-map-range_with_len (λ k. number_of 64 (λ place. p (64 * k + place))) 0 64 k k 0 h (omega arith)

-- the words of a set have the VLANs of the set
pub has_vlan-words_of : (p : ℕ → Bool) (v : ℕ) → v < 4096 → has_vlan (words_of p) v ≡ p v
has_vlan-words_of p v h =
    let place : 64 * (v / 64) + v % 64 ≡ v = omega arith in
    ap (λ (w : ℕ). has_bit w (v % 64)) (get_or-words_of p (v / 64) (omega arith))
    ∙ has_bit-number_of 64 (λ b. p (64 * (v / 64) + b)) (v % 64) (omega arith)
    ∙ ap p place

-- bit i of word k is VLAN 64 * k + i
pub bit_is_vlan : (words : List ℕ) (k i : ℕ) → i < 64 → has_bit (get_or words k 0) i ≡ has_vlan words (64 * k + i)
bit_is_vlan words k i h =
    let quotient : k ≡ (64 * k + i) / 64 = omega arith in
    let rest : i ≡ (64 * k + i) % 64 = omega arith in
    ap (λ (q : ℕ). has_bit (get_or words q 0) i) quotient ∙ ap (λ (r : ℕ). has_bit (get_or words ((64 * k + i) / 64) 0) r) rest

-- words are those of their set
pub words_of_same : (words : List ℕ) (p : ℕ → Bool) → IsWords words → ((v : ℕ) → v < 4096 → has_vlan words v ≡ p v) → words ≡ words_of p
unfolding words_of
words_of_same words p is same =
    fill_by_all (λ k. number_of 64 (λ place. p (64 * k + place))) words 64 0 is.many (λ k below.
    number_of_same 64 (get_or words k 0) (λ place. p (64 * k + place)) (is.small k below) (λ i h.
    bit_is_vlan words k i h ∙ same (64 * k + i) (omega arith)))

-- one word written, in which one bit changes
pub words_written : (words : List ℕ) (vlan w : ℕ) (p : ℕ → Bool) → IsWords words → vlan < 4096 → w < 2 ^ 64 → has_bit w (vlan % 64) ≡ p vlan
    → ((i : ℕ) → i < 64 → i ≢ vlan % 64 → has_bit w i ≡ has_bit (get_or words (vlan / 64) 0) i)
    → ((v : ℕ) → v ≢ vlan → has_vlan words v ≡ p v)
    → set words (vlan / 64) w ≡ words_of p
words_written words vlan w p is low small here beside elsewhere =
    let at : ℕ = vlan / 64 in
    let known = is.many in
    let long = length-set words at w in
    words_of_same (set words at w) p
    (record {
      many = omega arith;
      small = λ k h. elim (cases_eq k at) [
        | inl e ↦ subst (λ (j : ℕ). get_or (set words at w) j 0 < 2 ^ 64) (sym e) (rw (get_or-set_same words at w 0 (omega arith)) small)
        | inr ne ↦ rw (get_or-set_other words at k w 0 ne) (is.small k h)
      ];
    })
    (λ v h. elim (cases_eq (v / 64) at) [
      | inl e ↦ (let got : get_or (set words at w) (v / 64) 0 ≡ w = ap (λ (j : ℕ). get_or (set words at w) j 0) e
          ∙ get_or-set_same words at w 0 (omega arith) in
          elim (cases_eq (v % 64) (vlan % 64)) [
            | inl r ↦ (let same : v ≡ vlan = omega arith in
                ap (λ (x : ℕ). has_bit x (v % 64)) got ∙ ap (λ (j : ℕ). has_bit w j) r ∙ here ∙ ap p (sym same))
            | inr ne ↦ (let other : v ≢ vlan = λ q. ne (ap (λ (x : ℕ). x % 64) q) in
                ap (λ (x : ℕ). has_bit x (v % 64)) got ∙ beside (v % 64) (omega arith) ne
                ∙ ap (λ (j : ℕ). has_bit (get_or words j 0) (v % 64)) (sym e) ∙ elsewhere v other)
          ])
      | inr ne ↦ (let other : v ≢ vlan = λ q. ne (ap (λ (x : ℕ). x / 64) q) in
          ap (λ (x : ℕ). has_bit x (v % 64)) (get_or-set_other words at (v / 64) w 0 ne) ∙ elsewhere v other)
    ])

-- the mask of a VLAN's bit
abbrev pub mask : ℕ → ℕ
mask vlan = 1 * 2 ^ (vlan % 64) % 2 ^ 64

pub words_with : (words : List ℕ) (vlan : ℕ) → IsWords words → vlan < 4096 → mask vlan < 2 ^ 64
    → set words (vlan / 64) (bit_or (get_or words (vlan / 64) 0) (mask vlan)) ≡ words_of (λ v. (v == vlan) || has_vlan words v)
words_with words vlan is h small =
    let old = get_or words (vlan / 64) 0 in
    words_written words vlan (bit_or old (mask vlan)) (λ v. (v == vlan) || has_vlan words v) is h
    (or_lt 64 old (mask vlan) (is.small (vlan / 64) (omega arith)) small)
    (ap (λ (x : ℕ). x == 1) (bit_at_set_same w64 old (vlan % 64) (omega arith))
    ∙ sym (ap (λ (b : Bool). b || has_vlan words vlan) (eq-eqb vlan vlan refl)))
    (λ i low ne. ap (λ (x : ℕ). x == 1) (bit_at_set_other w64 old (vlan % 64) (omega arith) i ne))
    (λ v ne. sym (ap (λ (b : Bool). b || has_vlan words v) (ne_eqb v vlan ne)))

pub words_without : (words : List ℕ) (vlan : ℕ) → IsWords words → vlan < 4096
    → set words (vlan / 64) (bit_and (get_or words (vlan / 64) 0) (18446744073709551615 - mask vlan)) ≡ words_of
    (λ v. not (v == vlan) && has_vlan words v)
words_without words vlan is h =
    let old = get_or words (vlan / 64) 0 in
    let small = is.small (vlan / 64) (omega arith) in
    let less = and_le_l old (18446744073709551615 - mask vlan) in
    words_written words vlan (bit_and old (18446744073709551615 - mask vlan)) (λ v. not (v == vlan) && has_vlan words v) is h
    (omega arith)
    (ap (λ (x : ℕ). x == 1) (bit_at_clear_same w64 old (vlan % 64) (omega arith))
    ∙ sym (ap (λ (b : Bool). not b && has_vlan words vlan) (eq-eqb vlan vlan refl)))
    (λ i low ne. ap (λ (x : ℕ). x == 1) (bit_at_clear_other w64 old (vlan % 64) (omega arith) i low ne))
    (λ v ne. sym (ap (λ (b : Bool). not b && has_vlan words v) (ne_eqb v vlan ne)))
