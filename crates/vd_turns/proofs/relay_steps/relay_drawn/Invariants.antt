use Rattle.std.proofs.Common.{◌≡◌, None, false, List, ℕ}
use Rattle.vd_model.specs.declared.chain.Piece.{Piece}
use Rattle.vd_model.specs.declared.record.Begun.{Begun}
use Rattle.vd_ring.specs.declared.device.DeviceView.{DeviceView}
use Rattle.vd_ring.specs.declared.driver.DriverView.{DriverView}
use Rattle.vd_bus.specs.declared.device.Attached.{Attached}
use Rattle.vd_relay.specs.Moving.{Holds}
use Rattle.vd_relay.specs.Stages.{is_rested}
use Rattle.vd_relay.specs.Tie.{Start}
use Rattle.vd_switch.specs.ShadowingLanes.{IsShadowing}
use Rattle.vd_turns.specs.RelayTurns.{RelayWay}
use Rattle.vd_turns.proofs.relay_steps.relay_drawn.Given as goal

abbrev pub invariant-loop-made : goal.invariant-loop-made
invariant-loop-made g l = record {
  ring : l.words.ring ≡ l.initial.words.ring;
  shadow_ring : l.shadow.ring ≡ l.initial.shadow.ring;
  live : is_rested l.lane.relay.state.stage ≡ false;
  plain : l.lane.relay.control ≡ None;
  way : (z : Start) (old : List (List Piece × ℕ)) (begun : List Begun) (by : Attached) (v : DriverView) (w : DeviceView) (sv : DriverView)
      (sw : DeviceView) → l.initial.tree.mappings ≡ z.map
      → IsShadowing g.L.Device.DeviceEnd.device g.L.Driver.DriverEnd.driver g.L.Layout.layout z old l.initial.lane.relay.state begun by
      l.initial.words.words l.initial.shadow.words v w sv sw
      → Holds g.L.Device.DeviceEnd.device g.L.Driver.DriverEnd.driver z l.initial.lane.relay.state l.initial.lane.relay.counts w sv
      → RelayWay g.L.Layout.layout g.L.Device.DeviceEnd.device g.L.Driver.DriverEnd.driver z old begun by l.words.words l.shadow.words v w
      sv sw l.initial.lane.relay.state l.lane.relay.state l.initial.lane.relay.counts l.lane.relay.counts l.made;
}
