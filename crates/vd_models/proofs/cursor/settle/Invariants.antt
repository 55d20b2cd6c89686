use Rattle.std.proofs.Common.{◌≡◌, length, ◌-◌}
use Rattle.vd_models.specs.Cursors.{left_of, left_at}
use Rattle.vd_models.proofs.cursor.settle.Given as goal

abbrev pub invariant-loop-run : goal.invariant-loop-run
invariant-loop-run l = left_of (Rattle.std.proofs.Common.drop l.run l.runs) l.used ≡ left_at l.runs l.fn.from

abbrev pub decreases-loop-run : goal.decreases-loop-run
decreases-loop-run l = length l.runs - l.run
