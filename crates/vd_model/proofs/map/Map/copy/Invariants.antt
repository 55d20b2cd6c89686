use Rattle.std.proofs.Common.{◌≡◌, take}
use Rattle.vd_model.proofs.map.Map.copy.Given as goal

abbrev pub invariant-loop-mapping : goal.invariant-loop-mapping
invariant-loop-mapping l = l.mappings.items ≡ take l.mapping-index l.mapping-items
