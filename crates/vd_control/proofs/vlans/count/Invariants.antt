use Rattle.std.proofs.Common.{◌≡◌, ◌*◌, length}
use Rattle.vd_control.specs.Settings.{has_vlan, passing}
use Rattle.vd_control.proofs.vlans.count.Given as goal

abbrev pub invariant-loop-word : goal.invariant-loop-word
invariant-loop-word l = l.count ≡ length (passing (has_vlan l.words) (64 * l.word-index))
