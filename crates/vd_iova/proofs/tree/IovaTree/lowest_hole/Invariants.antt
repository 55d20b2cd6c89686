use Rattle.std.proofs.Common.{◌≡◌}
use Rattle.std.specs.List.{AllByRecursion}
use Rattle.vd_iova.specs.Trees.{IsWithin}
use Rattle.vd_iova.specs.Indexes.{page_end}
use Rattle.vd_iova.proofs.Holes.{walk}
use Rattle.vd_iova.proofs.tree.IovaTree.lowest_hole.Given as goal

-- what is left of the walk answers what the whole does
abbrev pub invariant-loop-mapping : goal.invariant-loop-mapping
invariant-loop-mapping l = record {
  same : walk l.self.last l.size l.iova l.mapping-iterator ≡ walk l.self.last l.size (page_end l.self.first) l.self.mappings;
  within : AllByRecursion (IsWithin l.self.first l.self.last) l.mapping-iterator;
}
