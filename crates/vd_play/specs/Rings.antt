-- How many epochs of a machine are of the mode shadow; each of them has one shadow ring a queue.
use Rattle.std.specs.Prelude.{ℕ, zero, suc, ◌+◌, List, [], ◌∷◌}
use Rattle.vd_model.specs.declared.base.Mode.{Mode}
use Rattle.vd_machine.specs.File.{Plan}
use Rattle.vd_machine.specs.declared.machine.Switch.{Switch}
use Rattle.vd_play.specs.Epochs.{mode_after, mode_at}
use Rattle.vd_play.specs.Journal.{by_mode}

-- one for an epoch of the mode shadow
abbrev pub shadow_count : Mode → ℕ
shadow_count m = by_mode m 0 1

-- the epochs of the mode shadow, where the first of them all has the mode m, and each switch ends one
abbrev pub shadows_from : List Switch → Mode → ℕ
shadows_from [] m = shadow_count m
shadows_from (s ∷ ss) m = shadow_count m + shadows_from ss (mode_after m s.to)

-- those of a machine
abbrev pub shadows : Plan → ℕ
shadows plan = shadows_from plan.switches plan.start

-- those before epoch k
abbrev pub shadows_before : Plan → ℕ → ℕ
shadows_before plan zero = 0
shadows_before plan (suc k) = shadows_before plan k + shadow_count (mode_at plan k)
