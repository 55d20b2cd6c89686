use Rattle.std.proofs.Common.{◌≡◌, ◌++◌}
use Rattle.vd_iova.proofs.tree.IovaTree.copy_map.Given as goal

-- what is copied and what is left are the mappings
abbrev pub invariant-loop-mapping : goal.invariant-loop-mapping
invariant-loop-mapping l = l.map ++ l.mapping-iterator ≡ l.self.mappings
