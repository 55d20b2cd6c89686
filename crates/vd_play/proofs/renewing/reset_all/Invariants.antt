use Rattle.std.proofs.Common.{◌≡◌, ◌<◌, ◌≤◌, ℕ, Some, slice_get}
use Rattle.std.specs.List.{sum_by}
use Rattle.vd_bus.specs.Device.{IsReset}
use Rattle.vd_play.specs.Each.{HasLanes}
use Rattle.vd_play.specs.Played.{KeepsBench, HasNoFault}
use Rattle.vd_play.proofs.renewing.reset_all.Given as goal

abbrev pub invariant-loop-i : goal.invariant-loop-i
invariant-loop-i g l = record {
  parties : HasLanes l.queues l.bench;
  keeps : KeepsBench g.V.Device.party l.queues l.initial.bench l.bench;
  guests : l.bench.guests ≡ l.initial.bench.guests;
  faults : HasNoFault g.V.Device.party l.initial.bench l.bench;
  counted : sum_by g.V.Device.party.accesses l.bench.devices.items ≡ sum_by g.V.Device.party.accesses l.initial.bench.devices.items;
  reset : (q : ℕ) (x y : _) → q < l.i → slice_get l.initial.bench.devices.items q ≡ Some x → slice_get l.bench.devices.items q ≡ Some y
      → IsReset g.V.Device.party x y;
  same : (q : ℕ) → l.i ≤ q → slice_get l.bench.devices.items q ≡ slice_get l.initial.bench.devices.items q;
}
