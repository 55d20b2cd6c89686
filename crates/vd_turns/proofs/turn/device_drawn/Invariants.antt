use Rattle.std.proofs.Common.{◌≡◌}
use Rattle.vd_ring.specs.declared.device.DeviceView.{DeviceView}
use Rattle.vd_ring.specs.declared.driver.DriverView.{DriverView}
use Rattle.vd_turns.specs.Turns.{DeviceWay}
use Rattle.vd_turns.proofs.turn.device_drawn.Given as goal

abbrev pub invariant-loop-made : goal.invariant-loop-made
invariant-loop-made g l = record {
  ring : l.words.ring ≡ l.initial.words.ring;
  live : g.V.Device.party.is_done l.device → ⊥;
  way : (v : DriverView) (w : DeviceView) → g.L.Layout.layout.ring l.initial.words.words v w → g.V.Device.party.holds l.initial.device w
      → DeviceWay g.L.Layout.layout g.V.Device.party l.words.words v w l.initial.device l.device l.made;
}
