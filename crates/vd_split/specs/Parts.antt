-- Places that run round a ring, copies of an area, and the order of an offer's stores.
use Rattle.std.specs.Prelude.{◌≡◌, ℕ, ◌+◌, ◌*◌, ◌/◌, ◌<◌, ◌==◌, ◌&&◌, nat_lt, Bool, List, [], ◌∷◌, ◌++◌, length, if◌then◌else◌, slice_index}
use Rattle.vd_bits.specs.Lanes.{lane16}
use Rattle.vd_event.specs.declared.rule.EventRule.TheVariants as rule
use Rattle.vd_event.specs.Words.{arm_word}
use Rattle.vd_event.specs.Rings.{wants}
use Rattle.vd_model.specs.declared.chain.Piece.{Piece}
use Rattle.vd_indirect.specs.declared.descriptor.TableKind.TheVariants.{Split}
use Rattle.vd_indirect.specs.Tables.{table_words}
use Rattle.vd_ring.specs.declared.frame.Put.{Put}
use Rattle.vd_split_ring.specs.SplitWords.{put, row}
use Rattle.vd_split.specs.declared.driver.DriverStep.{DriverStep}
use Rattle.vd_split.specs.declared.driver.DriverStep.TheVariants as step

-- the place after this one in a ring of n places
abbrev pub next_place : ℕ → ℕ → ℕ
next_place p n = if p + 1 == n then 0 else p + 1

-- the first word of the device area of a ring of n places
abbrev pub used_area : ℕ → ℕ
used_area n = 2 * n + (n + 6) / 4

-- the first command word, the first ack word, and the number of words of such a ring
abbrev pub commands_area : ℕ → Bool → ℕ
commands_area n indirect = used_area n + n + 1 + (if indirect then 32 * n else 0)

abbrev pub acks_area : ℕ → Bool → Bool → ℕ
acks_area n indirect control = commands_area n indirect + (if control then 2 * n else 0)

abbrev pub all_words : ℕ → Bool → Bool → ℕ
all_words n indirect control = acks_area n indirect control + (if control then n else 0) + 2

-- the place of the device's event word
abbrev pub event_place : ℕ → Bool → ℕ
event_place n event_idx = if event_idx then used_area n + n else used_area n

-- whether this event word asks for a signal for a range, by the rule of EVENT_IDX or of the flags
abbrev pub wanted : Bool → ℕ → ℕ → ℕ → Bool
wanted event_idx old new event = if event_idx then wants rule.SplitIndex old new event else wants rule.SplitFlags old new event

-- whether the loaded word with the device's event word does
abbrev pub asks : Bool → ℕ → ℕ → ℕ → Bool
asks event_idx old new word = if event_idx then wants rule.SplitIndex old new (lane16 word 2) else wants rule.SplitFlags old new
    (lane16 word 0)

-- how far behind the device area's first word the device's event word stands
abbrev pub event_offset : ℕ → Bool → ℕ
event_offset n event_idx = if event_idx then n else 0

-- its lane there
abbrev pub event_lane : Bool → ℕ
event_lane event_idx = if event_idx then 2 else 0

-- the lane of the driver's own event word, and what it holds of an end that waits for a count
abbrev pub own_lane : ℕ → Bool → ℕ
own_lane n event_idx = if event_idx then n + 2 else 0

abbrev pub own_value : ℕ → Bool → ℕ
own_value count event_idx = if event_idx then arm_word rule.SplitIndex count else arm_word rule.SplitFlags count

-- these are the n words from place `at` on
pub record Copies (area : List ℕ) (at n : ℕ) (stored : List ℕ) : Type 0 where
  pub as_many : length area ≡ n
  pub same : (i : ℕ) → i < n → slice_index area i ≡ slice_index stored (at + i)

-- the first word of the table of head h in a ring of n places
abbrev pub table_place : ℕ → ℕ → ℕ
table_place n h = used_area n + n + 1 + 32 * h

-- the stores of a chain that stands in a table at place t, for the head h: the table's words, then those of the descriptor that names it
abbrev pub tabled : ℕ → ℕ → List Piece → List Put
tabled t h c = row t (table_words Split c) ++ put (2 * h) (8 * t) ∷ put (2 * h + 1) (16 * length c + 17179869184) ∷ []

-- how many places a chain of n pieces takes
abbrev pub needed : Bool → ℕ → ℕ
needed indirect n = if indirect then 1 else n

-- the first step of the offer of a chain of n pieces
abbrev pub first_store : Bool → ℕ → DriverStep
first_store indirect n = if indirect && nat_lt 1 n then step.Table 0 else step.Describe 0

-- the step after word number `at` of the descriptors of n pieces
abbrev pub described_step : ℕ → ℕ → DriverStep
described_step at n = if nat_lt (at + 1) (2 * n) then step.Describe (at + 1) else step.Enter

-- the step after word number `at` of a table of n pieces and of the descriptor that names it
abbrev pub tabled_step : ℕ → ℕ → DriverStep
tabled_step at n = if nat_lt (at + 1) (2 * n + 2) then step.Table (at + 1) else step.Enter
