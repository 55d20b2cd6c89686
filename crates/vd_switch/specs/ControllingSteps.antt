-- One access of a party of a control lane, whatever its relay does.
use Rattle.std.specs.Prelude.{◌≡◌, ◌⊎◌, ℕ, List, length}
use Rattle.vd_model.specs.declared.record.Begun.{Begun}
use Rattle.vd_words.specs.Model.{PortModel}
use Rattle.vd_ring.specs.declared.driver.DriverView.{DriverView}
use Rattle.vd_ring.specs.declared.device.DeviceView.{DeviceView}
use Rattle.vd_ring.specs.History.{offers, gives}
use Rattle.vd_layout.specs.declared.moves.Move.{Move}
use Rattle.vd_layout.specs.Driver.{DriverModel}
use Rattle.vd_layout.specs.Device.{DeviceModel}
use Rattle.vd_layout.specs.Layout.{LayoutModel}
use Rattle.vd_control.specs.declared.settings.Settings.{Settings}
use Rattle.vd_relay.specs.declared.control.Control.{Control}
use Rattle.vd_relay.specs.declared.control.Mode.{Mode}
use Rattle.vd_relay.specs.declared.counts.Counts.{Counts}
use Rattle.vd_relay.specs.declared.state.State.{State}
use Rattle.vd_relay.specs.Modes.{Opening}
use Rattle.vd_relay.specs.ModeSteps.{OnGuestControl, OnShadowControl}
use Rattle.vd_switch.specs.CommandLanes.{AreAnsweredTo, lane_commands}
use Rattle.vd_switch.specs.CommandSettling.{AcksCount}
use Rattle.vd_switch.specs.Controlling.{ControlStart, IsControlling, start_of}
use Rattle.vd_switch.specs.LaneBag.{MayEndOne}

-- the access of the relay, and the views after it
abbrev pub IsSeen : {P Q E D : Type 0} → PortModel P → PortModel Q → LayoutModel → DeviceModel E → DriverModel D → Opening → P → P → Q → Q
    → Mode → State E D → State E D → Control → Settings → Counts → Counts → DeviceView → DriverView → Move → DeviceView → DriverView
    → Type 0
IsSeen p q l e d z a a' b b' by r r' k' s' c c' w sv said view shadow_view =
    ((t : OnGuestControl p l e d z a a' r r' k' s' c c' w sv said) × (view ≡ e.side.after w t.op t.access t.got) × (shadow_view ≡ sv))
    ⊎ ((t : OnShadowControl q l e d z b b' by r r' k' s' c c' w sv said) × (view ≡ w)
    × (shadow_view ≡ d.side.after sv t.op t.access t.got))

-- the lane after one access of its relay: the ports are the same, onto the words after it; of the lane's bag it is no step, or the end of
-- one chain, and the commands begun are the same. What was answered before is so still
pub record RelayControlled {P Q E D : Type 0} (p : PortModel P) (q : PortModel Q) (l : LayoutModel) (e : DeviceModel E) (d : DriverModel D)
    (x : ControlStart) (a a' : P) (b b' : Q) (by : Mode) (r r' : State E D) (k k' : Control) (s' : Settings) (c c' : Counts)
    (begun : List Begun) (now : Settings) (v : DriverView) (w : DeviceView) (sv : DriverView) (sw : DeviceView) (said : Move)
    : Type 0 where
  pub words : List ℕ
  pub shadow_words : List ℕ
  pub view : DeviceView
  pub shadow_view : DriverView
  pub plain : p.plain a' words
  pub shadow_plain : q.plain b' shadow_words
  pub seen : IsSeen p q l e d x.opening a a' b b' by r r' k' s' c c' w sv said view shadow_view
  pub lane : IsControlling l e d x r' k' s' c' begun now words shadow_words v view shadow_view sw
  pub account : lane_commands (start_of x k') begun ≡ lane_commands (start_of x k) begun
  pub gave : MayEndOne (length (offers v.done)) (length (lane_commands (start_of x k') begun)) (gives w.done) (gives view.done)
  pub answers : AreAnsweredTo (length x.opening.gives) v w → AreAnsweredTo (length x.opening.gives) v view
  -- and the acks that were loaded count still
  pub acks : AcksCount sv.done → AcksCount shadow_view.done
