use Rattle.std.proofs.Common.{◌≡◌, ℕ, ◌<◌, None}
use Rattle.vd_packed.specs.DeviceEnd.{number_at}
use Rattle.vd_packed.proofs.device.running.clear.Given as goal

abbrev pub invariant-loop-number : goal.invariant-loop-number
invariant-loop-number l = (h : ℕ) → h < l.number-index → number_at l.running h ≡ None
