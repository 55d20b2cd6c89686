-- Where a guest stands in its script.
use Rattle.std.specs.Prelude.{ℕ, ◌-◌, ◌<◌, Option, List, [], ◌∷◌, ◌++◌, drop, replicate, slice_get}
use Rattle.vd_model.specs.declared.chain.Piece.{Piece}
use Rattle.vd_model.specs.declared.record.Run.{Run}
use Rattle.vd_bus.specs.Scripts.{run_chains}
use Rattle.vd_models.specs.declared.cursor.Cursor.{Cursor}

-- the chains that are left of runs, of whose first one so many are offered
abbrev pub left_of : List Run → ℕ → List (List Piece)
left_of [] used = []
left_of (r ∷ rs) used = replicate (r.count - used) r.chain ++ run_chains rs

abbrev pub left_at : List Run → Cursor → List (List Piece)
left_at runs at = left_of (drop at.run runs) at.used

-- the first of the runs that are left has a chain
abbrev pub HasFirst : List Run → ℕ → Type 0
HasFirst [] used = Unit {0}
HasFirst (r ∷ rs) used = used < r.count

abbrev pub IsSettled : List Run → Cursor → Type 0
IsSettled runs at = HasFirst (drop at.run runs) at.used

abbrev pub next_at : List Run → Cursor → Option (List Piece)
next_at runs at = slice_get (left_at runs at) 0
