use Rattle.std.proofs.Common.{◌≡◌, Some, IsSomeAnd, false, ℕ, List}
use Rattle.vd_model.specs.declared.record.Begun.{Begun}
use Rattle.vd_control.specs.declared.settings.Settings.{Settings}
use Rattle.vd_switch.specs.Controlling.{ControlStart}
use Rattle.vd_ring.specs.declared.device.DeviceView.{DeviceView}
use Rattle.vd_ring.specs.declared.driver.DriverView.{DriverView}
use Rattle.vd_relay.specs.declared.control.Control.{Control}
use Rattle.vd_relay.specs.Stages.{is_rested}
use Rattle.vd_turns.specs.ControlTurns.{IsControlLane, ControlWay}
use Rattle.vd_turns.proofs.control_steps.control_drawn.Given as goal

abbrev pub invariant-loop-made : goal.invariant-loop-made
invariant-loop-made g l = record {
  ring : l.words.ring ≡ l.initial.words.ring;
  shadow_ring : l.shadow.ring ≡ l.initial.shadow.ring;
  live : is_rested l.lane.relay.state.stage ≡ false;
  way : (k : Control) → l.initial.lane.relay.control ≡ Some k → IsSomeAnd l.lane.relay.control (λ k'. (x : ControlStart) (begun : List Begun) (now : Settings) (v : DriverView)
      (w : DeviceView) (sv : DriverView) (sw : DeviceView)
      → IsControlLane g.L.Layout.layout g.L.Device.DeviceEnd.device g.L.Driver.DriverEnd.driver x begun now l.initial.words.words
      l.initial.shadow.words v w sv sw l.initial.lane.relay.state k l.initial.lane.relay.settings l.initial.lane.relay.counts
      → ControlWay g.L.Layout.layout g.L.Device.DeviceEnd.device g.L.Driver.DriverEnd.driver x begun now l.words.words l.shadow.words v w sv sw
      l.initial.lane.relay.state l.lane.relay.state k k' l.initial.lane.relay.settings l.lane.relay.settings
      l.initial.lane.relay.counts l.lane.relay.counts l.made);
}
