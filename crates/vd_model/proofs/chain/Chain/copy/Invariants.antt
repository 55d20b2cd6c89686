use Rattle.std.proofs.Common.{◌≡◌, take}
use Rattle.vd_model.proofs.chain.Chain.copy.Given as goal

abbrev pub invariant-loop-p : goal.invariant-loop-p
invariant-loop-p l = l.pieces.items ≡ take l.p-index l.p-items
