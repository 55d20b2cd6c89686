use Rattle.std.proofs.Common.{◌≡◌, ◌≤◌, ◌*◌, take, sum_by}
use Rattle.vd_model.specs.declared.record.Run.{Run}
use Rattle.vd_machine.proofs.limits.count_runs.Given as goal

abbrev pub invariant-loop-run : goal.invariant-loop-run
invariant-loop-run l = record {
  total : l.total ≡ sum_by (λ (r : Run). r.count) (take l.run-index l.runs);
  small : l.total ≤ l.run-index * 0xffff_ffff;
}
