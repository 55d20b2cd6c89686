use Rattle.std.proofs.Common.{◌≢◌, ℕ, ◌<◌, Some}
use Rattle.vd_packed.specs.DeviceEnd.{number_at}
use Rattle.vd_packed.proofs.device.running.find_head.Given as goal

abbrev pub invariant-loop-head : goal.invariant-loop-head
invariant-loop-head l = (h : ℕ) → h < l.head → number_at l.running h ≢ Some l.number
