use Rattle.std.proofs.Common.{◌≡◌, ◌≤◌, ◌*◌, ◌^◌, ◌++◌, take, drop}
use Rattle.vd_machine.specs.File.{view}
use Rattle.vd_runner.specs.Report.{report, all_lens, all_queue_lines, control_lines, drained, drained_line}
use Rattle.vd_runner.proofs.Midway.{Midway}
use Rattle.vd_runner.proofs.reporting.report.Given as goal

abbrev pub invariant-loop-queue : goal.invariant-loop-queue
invariant-loop-queue g l = record {
  midway : Midway (g.K.Sink.held l.fn.sink) (g.K.Sink.held l.sink)
      (report (view l.m) l.brief (all_lens g.V.Device.party (view l.m) l.bench))
      (all_queue_lines (view l.m) l.brief l.queue (drop l.queue (all_lens g.V.Device.party (view l.m) l.bench))
      ++ (control_lines (view l.m) ++ drained_line (drained (all_lens g.V.Device.party (view l.m) l.bench))));
  drained : l.drained ≡ drained (take l.queue (all_lens g.V.Device.party (view l.m) l.bench));
  small : l.drained ≤ l.queue * 2 ^ 60;
  same : g.K.Sink.faults l.sink ≡ g.K.Sink.faults l.fn.sink;
}
