use Rattle.std.proofs.Common.{◌≡◌}
use Rattle.vd_ring.specs.History.{upto}
use Rattle.vd_packed.proofs.driver.ids.all_ids.Given as goal

abbrev pub invariant-loop-id : goal.invariant-loop-id
invariant-loop-id l = (l.free.items ≡ upto l.id) × (l.free.capacity ≡ l.size)
