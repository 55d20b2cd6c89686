use Rattle.std.proofs.Common.{◌≡◌, true, drop}
use Rattle.vd_machine.proofs.Laid.{IsMidway}
use Rattle.vd_machine.specs.File.{view}
use Rattle.vd_play.proofs.Laying.{IsLaying}
use Rattle.vd_play.proofs.tree.lay.Given as goal

abbrev pub invariant-loop-region : goal.invariant-loop-region
invariant-loop-region l = record {
  midway : IsMidway true l.tree (drop l.region-index l.region-items);
  laying : IsLaying (view l.fn.m) l.tree (drop l.region-index l.region-items);
  first : l.tree.first ≡ l.fn.m.first;
  last : l.tree.last ≡ l.fn.m.last;
}
