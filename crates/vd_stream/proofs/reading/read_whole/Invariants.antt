use Rattle.std.proofs.Common.{◌≡◌, ◌≤◌, ◌+◌, ◌-◌, length}
use Rattle.std.specs.Io.KnownBytes.{Consumes}
use Rattle.vd_stream.specs.declared.reading.TheConstants.{MOST_BYTES}
use Rattle.vd_stream.proofs.reading.read_whole.Given as goal

abbrev pub invariant-loop-buffer : goal.invariant-loop-buffer
invariant-loop-buffer g l = record {
  taken : Consumes (g.S.Source.left l.fn.source) (g.S.Source.left l.source) l.bytes.items;
  same : g.S.Source.faults l.source ≡ g.S.Source.faults l.fn.source;
  within : length l.bytes.items ≤ MOST_BYTES + 1;
}

abbrev pub decreases-loop-buffer : goal.decreases-loop-buffer
decreases-loop-buffer g l = MOST_BYTES + 1 - length l.bytes.items
