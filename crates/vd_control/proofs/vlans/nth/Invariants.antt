use Rattle.std.proofs.Common.{◌≡◌, ◌+◌, ◌*◌, length}
use Rattle.vd_control.specs.Settings.{has_vlan, passing}
use Rattle.vd_control.proofs.vlans.nth.Given as goal

abbrev pub invariant-loop-i : goal.invariant-loop-i
invariant-loop-i l = l.left + length (passing (has_vlan l.words) (64 * l.i)) ≡ l.nth
