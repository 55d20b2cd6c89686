-- Both parties of a queue on one ring of plain words, as tests have them.
use Rattle.std.specs.Prelude.{◌≡◌, ℕ, ◌+◌, ◌≤◌, false, Option, Some, None, List, length}
use Rattle.vd_words.specs.Model.{PortModel}
use Rattle.vd_ring.specs.declared.device.DeviceView.{DeviceView}
use Rattle.vd_ring.specs.declared.driver.DriverView.{DriverView}
use Rattle.vd_layout.specs.Driver.{DriverModel}
use Rattle.vd_layout.specs.Device.{DeviceModel, IsStill}
use Rattle.vd_layout.specs.Layout.{LayoutModel}
use Rattle.vd_bus.specs.Device.{DeviceParty}
use Rattle.vd_bus.specs.Guest.{GuestParty}

-- the end lies beside the device, which isn't attached
pub record IsBeside {E V C : Type 0} (e : DeviceModel E) (m : DeviceParty V C) (x : V) (y : E) (w : DeviceView) : Type 0 where
  pub stands : e.stands y w
  pub still : IsStill e y
  pub free : m.attached x ≡ None

-- the device holds the end, or it lies beside it
abbrev pub IsAt : {E V C : Type 0} → DeviceModel E → DeviceParty V C → V → Option E → DeviceView → Type 0
IsAt e m x None w = m.holds x w
IsAt e m x (Some y) w = IsBeside e m x y w

-- the guest holds the driver's end; the words meet the ring invariant; the device has room for so many events, and for so many
-- chains since it was made
pub record IsPair {D E G V C : Type 0} (d : DriverModel D) (e : DeviceModel E) (l : LayoutModel) (g : GuestParty G) (m : DeviceParty V C)
    (guest : G) (x : V) (end : Option E) (ws : List ℕ) (n k : ℕ) : Type 0 where
  pub view : DriverView
  pub device_view : DeviceView
  pub ring : l.ring ws view device_view
  pub control : view.frame.control ≡ false
  pub drives : g.holds guest view
  pub at : IsAt e m x end device_view
  pub events : n ≤ m.event_room x
  pub chains : k ≤ m.chain_room x + length (m.begun x)

-- a step of the guest over plain words, with the same view of the device
pub record HasStepped {P X V : Type 0} (port : PortModel P) (at : X → V → Type 0) (meets : List ℕ → V
    → Type 0) (p q : P) (y : X) : Type 0 where
  pub words : List ℕ
  pub view : V
  pub same : port.same p q
  pub plain : port.plain q words
  pub ring : meets words view
  pub holds : at y view
