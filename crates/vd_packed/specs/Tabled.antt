-- The stores of a chain that stands in a table, and of the word with which any chain is made available.
use Rattle.std.specs.Prelude.{ℕ, ◌+◌, ◌*◌, ◌&&◌, nat_lt, Bool, not, List, [], ◌∷◌, ◌++◌, length, if◌then◌else◌, slice_index_or}
use Rattle.vd_model.specs.declared.chain.Piece.{Piece}
use Rattle.vd_model.specs.Chains.{blank}
use Rattle.vd_indirect.specs.declared.descriptor.TableKind.TheVariants.{Packed}
use Rattle.vd_indirect.specs.Tables.{table_words}
use Rattle.vd_ring.specs.declared.frame.Put.{Put}
use Rattle.vd_packed_ring.specs.PackedWords.{packed_word, put}
use Rattle.vd_packed_ring.specs.PackedChains.{standing}
use Rattle.vd_packed.specs.declared.driver.DriverStep.{DriverStep}
use Rattle.vd_packed.specs.declared.driver.DriverStep.TheVariants as step
use Rattle.vd_packed.specs.declared.ring_position.RingPosition.{RingPosition}
use Rattle.vd_packed.specs.Seconds.{available_word}
use Rattle.vd_packed.specs.RingPositions.{bit, forward}

-- whether a chain of n pieces stands in a table
abbrev pub is_tabled : Bool → ℕ → Bool
is_tabled indirect n = indirect && nat_lt 1 n

-- how many places it takes
abbrev pub needed : Bool → ℕ → ℕ
needed indirect n = if indirect then 1 else n

-- the first word of the table of an id in a ring of n places
abbrev pub table_place : ℕ → ℕ → ℕ
table_place n id = 2 * n + 2 + 32 * id

-- the words of the table that begins at word t, then the address of the descriptor at a place
abbrev pub tabled : ℕ → ℕ → List Piece → List Put
tabled t place c = standing t (table_words Packed c) ++ put (2 * place) (8 * t) ∷ []

-- the second word that is stored last
abbrev pub published_word : Bool → Bool → ℕ → List Piece → ℕ
published_word indirect wrap id c =
    if is_tabled indirect (length c)
    then packed_word (16 * length c) id (4 + 128 * bit wrap + 32768 * bit (not wrap))
    else available_word wrap id (slice_index_or c 0 blank) (if nat_lt (0 + 1) (length c) then 1 else 0)

-- the first step of the offer of a chain of n pieces, and the step after store number `at` of one by a table
abbrev pub first_store : Bool → ℕ → DriverStep
first_store indirect n = if is_tabled indirect n then step.Table 0 else step.Describe 0

abbrev pub tabled_step : ℕ → ℕ → DriverStep
tabled_step at n = if nat_lt at (2 * n) then step.Table (at + 1) else step.Publish

-- where the first descriptor stands, or, of a chain by a table, the first after its one
abbrev pub first_at : Bool → ℕ → RingPosition → ℕ → RingPosition
first_at indirect n next size = if is_tabled indirect n then forward next 1 size else next
