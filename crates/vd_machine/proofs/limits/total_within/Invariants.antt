use Rattle.std.proofs.Common.{◌≡◌, ◌≤◌, take, sum_by}
use Rattle.vd_machine.specs.Queues.{chains_of}
use Rattle.vd_machine.proofs.limits.total_within.Given as goal

abbrev pub invariant-loop-script : goal.invariant-loop-script
invariant-loop-script l = record {
  total : l.total ≡ sum_by chains_of (take l.script-index l.queues);
  small : l.total ≤ l.most;
}
