-- The bits of a number that are set, counted and from the lowest on.
use Rattle.std.proofs.Common.{◌≡◌, ◌≢◌, ℕ, zero, suc, ◌+◌, ◌-◌, ◌*◌, ◌/◌, ◌%◌, ◌<◌, ◌^◌, ◌==◌, List, ◌∷◌, length, arith, refl, Bool, true, false, ap, sym, ◌∙◌, get_or, drop, count_ones, bit_and, slice_get, Some}
use Rattle.std.specs.Int.{w64, trailing_zeros}
use Rattle.std.proofs.lemmas.Nat.Bits.{bit_at_lowest, bit_at-suc, bit_at-trailing_zeros, bit_at_clear_same, bit_at_clear_other}
use Rattle.std.proofs.Math.Nat.{pow-suc}
use Rattle.std.specs.Int.Count.{ones_step, ones-le}
use Rattle.std.proofs.lemmas.List.{length-drop, drop-drop}
use Rattle.vd_control.specs.Settings.{has_bit, has_vlan, passing}
use Rattle.vd_control.proofs.Bits.{digit, digit_has}
use Rattle.vd_control.proofs.Passing.{kept, passing_same, passing_first, passing_within, passing_one, passing-none, length-passing-add, slice_get-drop}
use Rattle.vd_control.proofs.Words.{bit_is_vlan}

length-kept-digit : (b : Bool) (n : ℕ) → length (kept b n) ≡ digit b
length-kept-digit true n = refl
length-kept-digit false n = refl

-- as many bits pass as the number has ones
pub length-bits : (n w : ℕ) → w < 2 ^ n → length (passing (has_bit w) n) ≡ count_ones w
length-bits zero w h =
    let few = ones-le 0 w h in
    let none : 0 ≡ count_ones w = omega arith in
    ap length (passing-none (has_bit w)) ∙ none
length-bits (suc n) w h =
    let next : suc n ≡ 1 + n = omega arith in
    let twice = pow-suc 2 n in
    let half : w / 2 < 2 ^ n = omega arith in
    let shift : passing (λ i. has_bit w (1 + i)) n ≡ passing (has_bit (w / 2)) n =
    passing_same (λ i. has_bit w (1 + i)) (has_bit (w / 2)) n (λ i _. ap (has_bit w) (let e : 1 + i ≡ suc i = omega arith in e)
    ∙ ap (λ (x : ℕ). x == 1) (bit_at-suc w i)) in
    let low : length (passing (has_bit w) 1) ≡ w % 2 = ap length (passing_one (has_bit w)) ∙ length-kept-digit (has_bit w 0) 0
    ∙ digit_has w 0 ∙ bit_at_lowest w in
    let rest = length-bits n (w / 2) half in
    ap (λ (k : ℕ). length (passing (has_bit w) k)) next ∙ length-passing-add (has_bit w) 1 n
    ∙ ap (λ (k : ℕ). k + length (passing (λ i. has_bit w (1 + i)) n)) low
    ∙ ap (λ (k : ℕ). w % 2 + k) (ap length shift ∙ rest) ∙ sym (ones_step w)

-- the number without its lowest bit
abbrev pub without_lowest : ℕ → ℕ
without_lowest w = bit_and w (18446744073709551615 - 1 * 2 ^ trailing_zeros w64 w % 2 ^ 64)

-- the lowest bit, and the bits without it
pub lowest_first : (w : ℕ) → 0 < w → w < 2 ^ 64 → passing (has_bit w) 64 ≡ trailing_zeros w64 w ∷ passing (has_bit (without_lowest w)) 64
lowest_first w some small =
    let t = trailing_zeros w64 w in
    let at = bit_at-trailing_zeros w64 w some small in
    let below : t < 64 = at.0 in
    let whole : t + (1 + (63 - t)) ≡ 64 = omega arith in
    let clear = λ (i : ℕ) (h : i < 64) (ne : i ≢ t). bit_at_clear_other w64 w t below i h ne in
    ap (passing (has_bit w)) (sym whole)
    ∙ passing_first (has_bit w) (has_bit (without_lowest w)) t (63 - t)
    (λ i h. ap (λ (x : ℕ). x == 1) (at.2 i h))
    (ap (λ (x : ℕ). x == 1) at.1)
    (λ i h. ap (λ (x : ℕ). x == 1) (clear i (omega arith) (λ e. absurd (omega arith)) ∙ at.2 i h))
    (ap (λ (x : ℕ). x == 1) (bit_at_clear_same w64 w t below))
    (λ i h g. ap (λ (x : ℕ). x == 1) (sym (clear i (omega arith) (λ e. absurd (omega arith)))))
    ∙ ap (λ (k : ℕ). t ∷ passing (has_bit (without_lowest w)) k) whole

-- where bits are left, the number isn't 0
pub some_left : (first w k : ℕ) → first < 2 ^ 64 → w < 2 ^ 64 → passing (has_bit w) 64 ≡ drop k (passing (has_bit first) 64)
    → k < count_ones first → 0 < w
some_left first zero k all small e h =
    let many = length-bits 64 first all in
    let few = length-bits 64 0 small in
    let none = ones-le 0 0 (let g : 0 < 2 ^ 0 = omega arith in g) in
    let left : length (passing (has_bit 0) 64) ≡ length (passing (has_bit first) 64) - k =
    ap length e ∙ length-drop k (passing (has_bit first) 64) in
    absurd (omega arith)
some_left first (suc w) k all small e h = omega arith

-- one bit less is left
pub one_less_left : (first w k : ℕ) → 0 < w → w < 2 ^ 64 → passing (has_bit w) 64 ≡ drop k (passing (has_bit first) 64)
    → passing (has_bit (without_lowest w)) 64 ≡ drop (k + 1) (passing (has_bit first) 64)
one_less_left first w k some small e =
    ap (drop 1) (sym (lowest_first w some small) ∙ e) ∙ drop-drop 1 k (passing (has_bit first) 64)

-- the lowest bit left is the one in its place
pub next_left : (first w k : ℕ) → 0 < w → w < 2 ^ 64 → passing (has_bit w) 64 ≡ drop k (passing (has_bit first) 64)
    → slice_get (passing (has_bit first) 64) k ≡ Some (trailing_zeros w64 w)
next_left first w k some small e =
    sym (slice_get-drop (passing (has_bit first) 64) k) ∙ ap (λ (xs : List ℕ). slice_get xs 0) (sym e ∙ lowest_first w some small)

-- ---- the VLANs of one word after those of the words before it

word_part : (words : List ℕ) (k : ℕ) → passing (λ i. has_vlan words (64 * k + i)) 64 ≡ passing (has_bit (get_or words k 0)) 64
word_part words k = passing_same (λ i. has_vlan words (64 * k + i)) (has_bit (get_or words k 0)) 64 (λ i h. sym (bit_is_vlan words k i h))

pub length-words-more : (words : List ℕ) (k : ℕ) → get_or words k 0 < 2 ^ 64
    → length (passing (has_vlan words) (64 * (k + 1))) ≡ length (passing (has_vlan words) (64 * k)) + count_ones (get_or words k 0)
length-words-more words k small =
    ap (λ (n : ℕ). length (passing (has_vlan words) n)) (let e : 64 * (k + 1) ≡ 64 * k + 64 = omega arith in e)
    ∙ length-passing-add (has_vlan words) (64 * k) 64
    ∙ ap (λ (n : ℕ). length (passing (has_vlan words) (64 * k)) + n)
    (ap length (word_part words k) ∙ length-bits 64 (get_or words k 0) small)

pub vlan_in_word : (words : List ℕ) (k j bit : ℕ) → k < 64 → slice_get (passing (has_bit (get_or words k 0)) 64) j ≡ Some bit
    → slice_get (passing (has_vlan words) 4096) (length (passing (has_vlan words) (64 * k)) + j) ≡ Some (64 * k + bit)
vlan_in_word words k j bit h e =
    passing_within (has_vlan words) (64 * k) 64 4096 j bit (omega arith) (ap (λ (xs : List ℕ). slice_get xs j) (word_part words k) ∙ e)
