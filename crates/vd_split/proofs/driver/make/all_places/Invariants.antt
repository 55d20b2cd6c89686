use Rattle.std.proofs.Common.{◌≡◌}
use Rattle.vd_ring.specs.History.{upto}
use Rattle.vd_split.proofs.driver.make.all_places.Given as goal

abbrev pub invariant-loop-place : goal.invariant-loop-place
invariant-loop-place l = (l.free.items ≡ upto l.place) × (l.free.capacity ≡ l.size)
