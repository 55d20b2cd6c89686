use Rattle.std.proofs.Common.{◌≡◌}
use Rattle.vd_ring.specs.declared.device.DeviceView.{DeviceView}
use Rattle.vd_ring.specs.declared.driver.DriverView.{DriverView}
use Rattle.vd_turns.specs.Turns.{GuestWay}
use Rattle.vd_turns.proofs.turn.guest_drawn.Given as goal

abbrev pub invariant-loop-made : goal.invariant-loop-made
invariant-loop-made g l = record {
  ring : l.words.ring ≡ l.initial.words.ring;
  live : g.G.Guest.party.is_done l.guest → ⊥;
  way : (v : DriverView) (w : DeviceView) → g.L.Layout.layout.ring l.initial.words.words v w → g.G.Guest.party.holds l.initial.guest v
      → GuestWay g.L.Layout.layout g.G.Guest.party l.words.words v w l.initial.guest l.guest l.made;
}
