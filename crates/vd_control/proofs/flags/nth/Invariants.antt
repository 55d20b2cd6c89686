use Rattle.std.proofs.Common.{◌≡◌, ◌+◌, length}
use Rattle.vd_control.specs.Settings.{has_flag, passing}
use Rattle.vd_control.proofs.flags.nth.Given as goal

abbrev pub invariant-loop-i : goal.invariant-loop-i
invariant-loop-i l = l.left + length (passing (has_flag l.flags) l.i) ≡ l.nth
