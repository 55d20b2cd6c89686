use Rattle.std.proofs.Common.{◌≡◌, drop}
use Rattle.vd_machine.specs.Switches.{are_ascending}
use Rattle.vd_machine.proofs.switches.are_ascending.Given as goal

abbrev pub invariant-loop-switch : goal.invariant-loop-switch
invariant-loop-switch l = are_ascending 0 l.switches ≡ are_ascending l.last (drop l.switch-index l.switches)
