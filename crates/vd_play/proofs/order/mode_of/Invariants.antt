use Rattle.std.proofs.Common.{◌≡◌}
use Rattle.vd_play.specs.Epochs.{mode_from}
use Rattle.vd_play.proofs.order.mode_of.Given as goal

abbrev pub invariant-loop-i : goal.invariant-loop-i
invariant-loop-i l = l.mode ≡ mode_from l.m.switches l.m.start l.i
