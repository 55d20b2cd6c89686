-- RingPositions and the second words of their laps.
use Rattle.std.proofs.Common.{◌≡◌, ℕ, ◌+◌, ◌-◌, ◌*◌, ◌/◌, ◌%◌, ◌<◌, ◌≤◌, ◌==◌, ◌&&◌, nat_lt, nat_le, Bool, true, false, not, if◌then◌else◌, refl, sym, ap, ◌∙◌, subst, arith, inl, inr}
use Rattle.std.proofs.lemmas.Bool.{cases_lt, le-leb, lt-leb}
use Rattle.std.proofs.lemmas.Nat.{mod_below, div-add-mod', div-mul-add, mod-mul-add}
use Rattle.vd_packed_ring.specs.PackedWords.{wrap_bit, other_bit, second_word, flags_of, is_available, is_used, used_word, packed_word, base_at}
use Rattle.vd_packed_ring.proofs.WordFacts.{both_bits}
use Rattle.vd_packed.specs.declared.ring_position.RingPosition.{RingPosition}
use Rattle.vd_packed.specs.Seconds.{shows_available, shows_used, used_second}
use Rattle.vd_packed.specs.RingPositions.{IsAt, bit, forward, base_word}

-- ---- wraps

not_bit : (b : Bool) → bit b + bit (not b) ≡ 1
not_bit true = refl
not_bit false = refl

bit_same : (b : Bool) (m : ℕ) → bit b ≡ m → bit (not b) + m ≡ 1
bit_same b m e = omega (arith, not_bit b)

-- the other bit of the ring_position's lap
pub other_at : (s : RingPosition) (n q : ℕ) → IsAt s n q → bit (not s.wrap) ≡ other_bit n q
other_at s n q at = omega (arith, bit_same s.wrap (wrap_bit n q) at.wrap, both_bits n q)

pub shows_used_at : (s : RingPosition) (n q w : ℕ) → IsAt s n q → shows_used s.wrap w ≡ is_used n q w
shows_used_at s n q w at = ap (λ (b : ℕ). ((flags_of w / 128) % 2 == b) && ((flags_of w / 32768) % 2 == b)) at.wrap

pub shows_available_at : (s : RingPosition) (n q w : ℕ) → IsAt s n q → shows_available s.wrap w ≡ is_available n q w
shows_available_at s n q w at =
    ap (λ (b : ℕ). ((flags_of w / 128) % 2 == b) && ((flags_of w / 32768) % 2 == bit (not s.wrap))) at.wrap
    ∙ ap (λ (b : ℕ). ((flags_of w / 128) % 2 == wrap_bit n q) && ((flags_of w / 32768) % 2 == b)) (other_at s n q at)

pub used_second_at : (s : RingPosition) (n q id len : ℕ) → IsAt s n q → used_second s.wrap id len ≡ used_word n q id len
used_second_at s n q id len at = ap (λ (b : ℕ). packed_word len id ((if nat_lt 0 len then 2 else 0) + 128 * b + 32768 * b)) at.wrap

-- ---- places

pub ring_position_below : (s : RingPosition) (n q : ℕ) → 0 < n → IsAt s n q → s.place < n
ring_position_below s n q pos at = omega (arith, at.place, mod_below q n pos)

pub second_at : (s : RingPosition) (n q : ℕ) → IsAt s n q → 2 * s.place + 1 ≡ second_word n q
second_at s n q at = ap (λ (k : ℕ). 2 * k + 1) at.place

pub same_at : (s : RingPosition) (n q r : ℕ) → q ≡ r → IsAt s n q → IsAt s n r
same_at s n q r e at = subst (λ (k : ℕ). IsAt s n k) e at

-- ---- going forward

-- place and lap of a position, from those of one before it
further : (n q k : ℕ) → 0 < n → q % n + k < n → ((q + k) % n ≡ q % n + k) × ((q + k) / n ≡ q / n)
further n q k pos low =
    let e : q + k ≡ (q / n) * n + (q % n + k) = omega (arith, div-add-mod' q n) in
    (ap (λ (x : ℕ). x % n) e ∙ mod-mul-add (q / n) n (q % n + k) low, ap (λ (x : ℕ). x / n) e ∙ div-mul-add (q / n) n (q % n + k) low)

turns : (n q k : ℕ) → 0 < n → k ≤ n → n ≤ q % n + k → ((q + k) % n ≡ q % n + k - n) × ((q + k) / n ≡ q / n + 1)
turns n q k pos few high =
    let low : q % n + k - n < n = omega (arith, mod_below q n pos) in
    let e : q + k ≡ (q / n + 1) * n + (q % n + k - n) = omega (arith, div-add-mod' q n) in (
      ap (λ (x : ℕ). x % n) e ∙ mod-mul-add (q / n + 1) n (q % n + k - n) low,
      ap (λ (x : ℕ). x / n) e ∙ div-mul-add (q / n + 1) n (q % n + k - n) low,
    )

same_wrap : (n q r : ℕ) → r / n ≡ q / n → wrap_bit n r ≡ wrap_bit n q
same_wrap n q r e = ap (λ (k : ℕ). (k + 1) % 2) e

next_wrap : (n q r : ℕ) (b : Bool) → r / n ≡ q / n + 1 → bit b ≡ wrap_bit n q → bit (not b) ≡ wrap_bit n r
next_wrap n q r b e h = omega (arith, not_bit b)

pub forward_at : (s : RingPosition) (n q k : ℕ) → 0 < n → k ≤ n → IsAt s n q → IsAt (forward s k n) n (q + k)
forward_at s n q k pos few at = elim (cases_lt (s.place + k) n) [
  | inl h ↦ (
      let same = further n q k pos (omega (arith, at.place)) in
      let off : nat_le n (s.place + k) ≡ false = lt-leb n (s.place + k) h in
      record {
        place = ap (λ (b : Bool). if b then s.place + k - n else s.place + k) off ∙ (ap (λ (p : ℕ). p + k) at.place ∙ sym same.0);
        wrap = ap (λ (b : Bool). bit (if b then not s.wrap else s.wrap)) off ∙ (at.wrap ∙ sym (same_wrap n q (q + k) same.1));
      }
      )
  | inr h ↦ (
      let over = turns n q k pos few (omega (arith, at.place)) in
      let on : nat_le n (s.place + k) ≡ true = le-leb n (s.place + k) h in
      record {
        place = ap (λ (b : Bool). if b then s.place + k - n else s.place + k) on ∙ (ap (λ (p : ℕ). p + k - n) at.place ∙ sym over.0);
        wrap = ap (λ (b : Bool). bit (if b then not s.wrap else s.wrap)) on ∙ next_wrap n q (q + k) s.wrap over.1 at.wrap;
      }
      )
]

-- ---- bases

half_bit : (b : Bool) → (if b then 32768 else 0) ≡ 32768 * bit b
half_bit true = refl
half_bit false = refl

pub base_at_ring_position : (s : RingPosition) (n q : ℕ) → 0 < n → n ≤ 32768 → IsAt s n q → base_word s ≡ base_at n q
base_at_ring_position s n q pos few at =
    let low = ring_position_below s n q pos at in
    omega (arith, half_bit s.wrap, at.place, at.wrap, low)
