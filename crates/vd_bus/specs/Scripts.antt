-- The chains of a script.
use Rattle.std.specs.Prelude.{ℕ, ◌≤◌, List, [], ◌∷◌, ◌++◌, length, replicate}
use Rattle.std.specs.List.{sum_by}
use Rattle.vd_model.specs.declared.chain.Piece.{Piece}
use Rattle.vd_model.specs.declared.record.Run.{Run}
use Rattle.vd_model.specs.declared.record.Script.{Script}

-- each run's chain so many times, one run after the other
abbrev pub run_chains : List Run → List (List Piece)
run_chains [] = []
run_chains (r ∷ rs) = replicate r.count r.chain ++ run_chains rs

abbrev pub chains : Script → List (List Piece)
chains s = run_chains s.runs

-- how many chains
abbrev pub run_count : List Run → ℕ
run_count rs = sum_by (λ r. r.count) rs

-- how many chains or commands a script may have
abbrev pub most_scripted : ℕ
most_scripted = 4000000000

-- how many chains a device may hold at once
abbrev pub most_window : ℕ
most_window = 64

-- no more chains and commands than that
pub record IsScript (s : Script) : Type 0 where
  pub chains : run_count s.runs ≤ most_scripted
  pub commands : length s.commands ≤ most_scripted
