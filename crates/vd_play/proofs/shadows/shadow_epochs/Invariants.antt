use Rattle.std.proofs.Common.{◌≤◌, drop}
use Rattle.vd_play.specs.Rings.{shadows_from}
use Rattle.vd_play.proofs.Rings.{IsCounting}
use Rattle.vd_play.proofs.shadows.shadow_epochs.Given as goal

abbrev pub invariant-loop-switch : goal.invariant-loop-switch
invariant-loop-switch l =
    (l.count ≤ l.switch-index) × IsCounting (shadows_from l.fn.switches l.fn.start) l.count l.mode (drop l.switch-index l.switches)
