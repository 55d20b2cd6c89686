-- One access of a party over plain ports: the words after it meet the ring invariant with the other side's view as it was.
use Rattle.std.specs.Prelude.{ℕ, List}
use Rattle.vd_words.specs.Model.{PortModel}
use Rattle.vd_ring.specs.declared.device.DeviceView.{DeviceView}
use Rattle.vd_ring.specs.declared.driver.DriverView.{DriverView}
use Rattle.vd_layout.specs.declared.moves.Move.{Move}
use Rattle.vd_layout.specs.Driver.{DriverModel}
use Rattle.vd_layout.specs.Device.{DeviceModel}
use Rattle.vd_layout.specs.Layout.{LayoutModel}
use Rattle.vd_bus.specs.Device.{DeviceParty, IsDeviceAccess}
use Rattle.vd_bus.specs.Guest.{GuestParty, IsGuestAccess}
use Rattle.vd_relay.specs.declared.counts.Counts.{Counts}
use Rattle.vd_relay.specs.declared.state.State.{State}
use Rattle.vd_relay.specs.Moving.{Holds, IsRelayStep}
use Rattle.vd_relay.specs.Tie.{Start}

pub record GuestOn {P D G : Type 0} (port : PortModel P) (d : DriverModel D) (l : LayoutModel) (g : GuestParty G) (p p' : P)
    (v : DriverView) (w : DeviceView) (x y : G) (said : Move) : Type 0 where
  pub words : List ℕ
  pub same : port.same p p'
  pub plain : port.plain p' words
  pub made : IsGuestAccess port d g p p' v x y said
  pub ring : l.ring words (d.side.after v made.op made.access made.got) w

pub record DeviceOn {P E V C : Type 0} (port : PortModel P) (e : DeviceModel E) (l : LayoutModel) (m : DeviceParty V C) (p p' : P)
    (v : DriverView) (w : DeviceView) (x y : V) (said : Move) : Type 0 where
  pub words : List ℕ
  pub same : port.same p p'
  pub plain : port.plain p' words
  pub made : IsDeviceAccess port e m p p' w x y said
  pub ring : l.ring words v (e.side.after w made.op made.access made.got)

-- one of the two ports is as it was
pub record RelayOn {P Q E D : Type 0} (port : PortModel P) (other : PortModel Q) (e : DeviceModel E) (d : DriverModel D) (l : LayoutModel)
    (z : Start) (p p' : P) (q q' : Q) (v : DriverView) (w : DeviceView) (sv : DriverView) (sw : DeviceView) (r r' : State E D)
    (c c' : Counts) (said : Move) : Type 0 where
  pub words : List ℕ
  pub shadow_words : List ℕ
  pub view : DeviceView
  pub shadow_view : DriverView
  pub same : port.same p p'
  pub plain : port.plain p' words
  pub shadow_same : other.same q q'
  pub shadow_plain : other.plain q' shadow_words
  pub made : IsRelayStep port other e d z p p' q q' w sv r r' c c' said
  pub ring : l.ring words v view
  pub shadow_ring : l.ring shadow_words shadow_view sw
  pub holds : Holds e d z r' c' view shadow_view
