use Rattle.std.proofs.Common.{◌≡◌, ◌*◌, ◌≤◌, take}
use Rattle.vd_model.specs.Chains.{total}
use Rattle.vd_layout.proofs.ring.driver.has_few_bytes.Given as goal

abbrev pub invariant-loop-p : goal.invariant-loop-p
invariant-loop-p l = (l.sum ≡ total (take l.p-index l.p-items)) × (l.sum ≤ l.p-index * 4294967295)
