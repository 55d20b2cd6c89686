use Rattle.std.proofs.Common.{Some}
use Rattle.vd_relay.proofs.Marking.{MarkedBelow}
use Rattle.vd_relay.proofs.settle.mark.Given as goal

abbrev pub invariant-loop-head : goal.invariant-loop-head
invariant-loop-head l = MarkedBelow l.number (Some l.later) l.head l.fn.commands l.commands
