use Rattle.std.proofs.Common.{◌≡◌, drop}
use Rattle.vd_control.specs.Settings.{has_bit, passing}
use Rattle.vd_control.proofs.vlans.nth_bit.Given as goal

abbrev pub invariant-loop : goal.invariant-loop
invariant-loop l = passing (has_bit l.word) 64 ≡ drop l.counter (passing (has_bit l.initial.word) 64)
