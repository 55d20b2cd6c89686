use Rattle.std.proofs.Common.{◌≡◌, ◌*◌, ◌≤◌, take}
use Rattle.vd_model.specs.Chains.{writable}
use Rattle.vd_model.proofs.chain.Chain.writable.Given as goal

abbrev pub invariant-loop-p : goal.invariant-loop-p
invariant-loop-p l = (l.sum ≡ writable (take l.p-index l.p-items)) × (l.sum ≤ l.p-index * 4294967295)
