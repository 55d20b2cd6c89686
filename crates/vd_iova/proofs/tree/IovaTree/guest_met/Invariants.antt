use Rattle.std.proofs.Common.{◌≡◌}
use Rattle.vd_iova.proofs.Overlaps.{lowest_of}
use Rattle.vd_iova.proofs.tree.IovaTree.guest_met.Given as goal

-- the lowest of what is seen and what is left is the lowest of all
abbrev pub invariant-loop-mapping : goal.invariant-loop-mapping
invariant-loop-mapping l = lowest_of l.lowest l.mapping-iterator ≡ lowest_of l.initial.lowest l.initial.mapping-iterator
