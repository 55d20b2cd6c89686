use Rattle.std.proofs.Common.{◌≡◌, drop}
use Rattle.vd_bus.specs.Device.{lens_of}
use Rattle.vd_runner.specs.Report.{chain_lines}
use Rattle.vd_runner.proofs.Midway.{Midway}
use Rattle.vd_runner.proofs.writing.put_chains.Given as goal

abbrev pub invariant-loop-chain : goal.invariant-loop-chain
invariant-loop-chain g l = record {
  midway : Midway (g.K.Sink.held l.fn.sink) (g.K.Sink.held l.sink) (chain_lines l.queue 0 (lens_of l.begun))
      (chain_lines l.queue l.chain (lens_of (drop l.chain l.begun)));
  same : g.K.Sink.faults l.sink ≡ g.K.Sink.faults l.fn.sink;
}
