use Rattle.std.proofs.Common.{◌≡◌, ℕ, ◌<◌, ◌≤◌, Some}
use Rattle.vd_packed.specs.DeviceEnd.{number_at}
use Rattle.vd_packed.proofs.device.running.none_below.Given as goal

abbrev pub invariant-loop-number : goal.invariant-loop-number
invariant-loop-number l = (h k : ℕ) → h < l.number-index → number_at l.running h ≡ Some k → l.count ≤ k
