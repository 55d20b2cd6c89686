use Rattle.std.proofs.Common.{◌≡◌, ◌≤◌, length, take, filter, not}
use Rattle.vd_bus.specs.BusMap.{is_named}
use Rattle.vd_bus.proofs.bus.message.without.Given as goal

abbrev pub invariant-loop-k : goal.invariant-loop-k
invariant-loop-k l = (l.left ≡ filter (λ k. not (is_named l.m k)) (take l.k-index l.k-items)) × (length l.left ≤ l.k-index)
