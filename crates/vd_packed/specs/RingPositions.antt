-- Where positions stand: places and wraps that run round the ring, and the areas behind the descriptors.
use Rattle.std.specs.Prelude.{◌≡◌, ℕ, ◌+◌, ◌-◌, ◌*◌, ◌%◌, nat_le, Bool, not, if◌then◌else◌}
use Rattle.vd_packed_ring.specs.PackedWords.{wrap_bit}
use Rattle.vd_packed.specs.declared.ring_position.RingPosition.{RingPosition}

abbrev pub bit : Bool → ℕ
bit b = if b then 1 else 0

-- the ring_position is that of position q in a ring of n places
pub record IsAt (s : RingPosition) (n q : ℕ) : Type 0 where
  pub place : s.place ≡ q % n
  pub wrap : bit s.wrap ≡ wrap_bit n q

-- the ring_position k positions later in a ring of n places
abbrev pub forward : RingPosition → ℕ → ℕ → RingPosition
forward s k n = record {
  place = if nat_le n (s.place + k) then s.place + k - n else s.place + k;
  wrap =
      if nat_le n (s.place + k) then not s.wrap else s.wrap;
}

-- the base of a ring at rest at this ring_position: place and wrap of the available side, and the same of the used side
abbrev pub base_word : RingPosition → ℕ
base_word s = 65537 * (s.place % 32768 + (if s.wrap then 32768 else 0))

-- the first command word, the first ack word, and the number of words of a ring of n places
abbrev pub commands_area : ℕ → Bool → ℕ
commands_area n indirect = 2 * n + 2 + (if indirect then 32 * n else 0)

abbrev pub acks_area : ℕ → Bool → Bool → ℕ
acks_area n indirect control = commands_area n indirect + (if control then 2 * n else 0)

abbrev pub all_words : ℕ → Bool → Bool → ℕ
all_words n indirect control = acks_area n indirect control + (if control then n else 0) + 2
