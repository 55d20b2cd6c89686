use Rattle.std.proofs.Common.{◌≡◌, ◌<◌, ℕ, Some, slice_get}
use Rattle.vd_machine.specs.File.{view}
use Rattle.vd_play.specs.declared.floor.Lane.{Lane}
use Rattle.vd_play.specs.Setup.{with_vrings, vring_at, base_in, KeepsRings}
use Rattle.vd_play.proofs.setup.set_bases.Given as goal

abbrev pub invariant-loop-q : goal.invariant-loop-q
invariant-loop-q g l = record {
  same : l.bus ≡ with_vrings l.initial.bus l.bus.vrings;
  keeps : KeepsRings (view l.m) l.initial.bus l.bus;
  bases : (k n : ℕ) (lane : Lane _ _ _) → k < l.q → slice_get l.lanes k ≡ Some lane
      → base_in g.L.Device.DeviceEnd.device g.L.Layout.layout.fresh_base l.mode lane.still ≡ Some n
      → (vring_at (view l.m) l.bus k).base ≡ n;
}
