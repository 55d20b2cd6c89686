use Rattle.std.proofs.Common.{◌≡◌, length}
use Rattle.vd_control.specs.Settings.{has_flag, passing}
use Rattle.vd_control.proofs.flags.count.Given as goal

abbrev pub invariant-loop-on : goal.invariant-loop-on
invariant-loop-on l = l.count ≡ length (passing (has_flag l.flags) l.on-index)
