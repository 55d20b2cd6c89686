use Rattle.std.proofs.Common.{drop}
use Rattle.vd_machine.specs.Iovas.{are_laid}
use Rattle.vd_machine.proofs.Laid.{IsMidway}
use Rattle.vd_machine.proofs.iovas.are_laid.Given as goal

abbrev pub invariant-loop-region : goal.invariant-loop-region
invariant-loop-region l = IsMidway (are_laid l.fn.iovas.first l.fn.iovas.last l.regions) l.tree (drop l.region-index l.regions)
