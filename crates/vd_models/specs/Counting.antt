-- How a party's steps are counted, and what they are.
use Rattle.std.specs.Prelude.{ℕ, Bool, true, false}
use Rattle.vd_layout.specs.declared.moves.Move.{Move}
use Rattle.vd_layout.specs.declared.moves.Move.TheVariants as move
use Rattle.vd_models.specs.declared.counts.Turn.{Turn}
use Rattle.vd_models.specs.declared.counts.Turn.TheVariants.{Woke, Slept}

-- 1 for an access that was no look of a sleeper
abbrev pub counted : Turn → ℕ
counted Slept = 0
counted _ = 1

-- 1 for an access that ended a hearing with Awake
abbrev pub woke : Turn → ℕ
woke Woke = 1
woke _ = 0

abbrev pub move_of : Turn → Bool → Move
move_of Slept done = move.Looked
move_of _ true = move.Finished
move_of _ false = move.Worked
