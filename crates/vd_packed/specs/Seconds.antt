-- Second words of descriptors in a lap with a given wrap, and the order of an offer's stores.
use Rattle.std.specs.Prelude.{ℕ, ◌+◌, ◌*◌, ◌/◌, ◌%◌, ◌==◌, ◌&&◌, nat_lt, Bool, not, if◌then◌else◌}
use Rattle.vd_model.specs.declared.chain.Piece.{Piece}
use Rattle.vd_packed_ring.specs.PackedWords.{packed_word, flags_of}
use Rattle.vd_packed.specs.declared.driver.DriverStep.{DriverStep}
use Rattle.vd_packed.specs.declared.driver.DriverStep.TheVariants as step
use Rattle.vd_packed.specs.declared.ring_position.RingPosition.{RingPosition}
use Rattle.vd_packed.specs.RingPositions.{bit, forward}

-- of an available descriptor with this id and piece; `more` is 1 where another follows
abbrev pub available_word : Bool → ℕ → Piece → ℕ → ℕ
available_word wrap id x more = packed_word x.len id (more + (if x.write then 2 else 0) + 128 * bit wrap + 32768 * bit (not wrap))

-- of a used descriptor with this id and length
abbrev pub used_second : Bool → ℕ → ℕ → ℕ
used_second wrap id len = packed_word len id ((if nat_lt 0 len then 2 else 0) + 128 * bit wrap + 32768 * bit wrap)

abbrev pub shows_available : Bool → ℕ → Bool
shows_available wrap w = ((flags_of w / 128) % 2 == bit wrap) && ((flags_of w / 32768) % 2 == bit (not wrap))

abbrev pub shows_used : Bool → ℕ → Bool
shows_used wrap w = ((flags_of w / 128) % 2 == bit wrap) && ((flags_of w / 32768) % 2 == bit wrap)

-- the step after store number `at` of an offer of n pieces
abbrev pub described_step : ℕ → ℕ → DriverStep
described_step at n = if nat_lt (at + 2) (2 * n) then step.Describe (at + 1) else step.Publish

-- where the descriptor of the store after number `at` stands, in a ring of n places
abbrev pub ring_position_after : RingPosition → ℕ → ℕ → RingPosition
ring_position_after s at n = if at % 2 == 0 then forward s 1 n else s
