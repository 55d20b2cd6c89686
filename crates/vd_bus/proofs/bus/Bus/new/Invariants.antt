use Rattle.std.proofs.Common.{◌≡◌, replicate}
use Rattle.vd_bus.proofs.bus.Bus.new.Given as goal

abbrev pub invariant-loop : goal.invariant-loop
invariant-loop l = l.vrings.items ≡ replicate l.counter l.fresh
