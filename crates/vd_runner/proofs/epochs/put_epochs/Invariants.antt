use Rattle.std.proofs.Common.{◌≡◌, false, drop}
use Rattle.vd_play.specs.Epochs.{epochs_from}
use Rattle.vd_runner.specs.Report.{epoch_lines}
use Rattle.vd_runner.proofs.Midway.{Midway}
use Rattle.vd_runner.proofs.epochs.put_epochs.Given as goal

abbrev pub invariant-loop-epoch : goal.invariant-loop-epoch
invariant-loop-epoch g l = record {
  midway : Midway (g.K.Sink.held l.fn.sink) (g.K.Sink.held l.sink)
      (epoch_lines l.queue 0 (epochs_from 0 l.switches l.fn.start false 0 l.count))
      (epoch_lines l.queue l.epoch (epochs_from l.epoch (drop l.epoch l.switches) l.mode false l.from l.count));
  same : g.K.Sink.faults l.sink ≡ g.K.Sink.faults l.fn.sink;
}
