-- Both ends of a ring, and its plain words.
use Rattle.std.specs.Prelude.{◌≡◌, ◌≢◌, ℕ, Bool, List, Option, None}
use Rattle.vd_model.specs.declared.features.Features.{Features}
use Rattle.vd_model.specs.declared.map.Mapping.{Mapping}
use Rattle.vd_words.specs.Model.{PortModel}
use Rattle.vd_ring.specs.declared.act.DriverAct.{DriverAct}
use Rattle.vd_ring.specs.declared.act.DeviceAct.{DeviceAct}
use Rattle.vd_ring.specs.declared.driver.DriverNow.TheVariants as driver
use Rattle.vd_ring.specs.declared.driver.DriverView.{DriverView}
use Rattle.vd_ring.specs.declared.device.DeviceNow.TheVariants as device
use Rattle.vd_ring.specs.declared.device.DeviceView.{DeviceView}
use Rattle.vd_ring.specs.declared.frame.Frame.{Frame}
use Rattle.vd_layout.specs.Begun.{DriverOp, DeviceOp}
use Rattle.vd_layout.specs.Driver.{DriverModel}
use Rattle.vd_layout.specs.Device.{DeviceModel}
use Rattle.vd_layout.specs.DriverFinish.{DriverLeaves}
use Rattle.vd_layout.specs.DeviceFinish.{DeviceLeaves}
use Rattle.vd_layout.specs.Layout.{LayoutModel}
use Rattle.vd_layout.specs.Run.{Made, IsRun, IsToldAt, written_by}

-- the ends stand for views of a ring made so, which meet the ring invariant with the words
pub record AreOn {D E : Type 0} (d : DriverModel D) (e : DeviceModel E) (l : LayoutModel) (f : Frame) (x : D) (y : E)
    (ws : List ℕ) : Type 0 where
  pub view : DriverView
  pub device_view : DeviceView
  pub ring : l.ring ws view device_view
  pub drives : d.stands x view
  pub serves : e.stands y device_view
  pub framed : view.frame ≡ f

-- a ring with this number, in whose bounds each piece of its chains lies, where it has bounds
abbrev pub plain_frame : LayoutModel → ℕ → ℕ → Features → Bool → Option (List Mapping) → Frame
plain_frame l ring size f control bounds = record {
  ring = ring;
  packed = l.packed;
  size = size;
  features = f;
  control = control;
  bounds = bounds;
}

-- what is left when an operation was finished over a plain port
pub record Finished {P D E : Type 0} (port : PortModel P) (d : DriverModel D) (e : DeviceModel E) (l : LayoutModel) (f : Frame)
    (p q : P) (x : D) (y : E) : Type 0 where
  pub words : List ℕ
  pub plain : port.plain q words
  pub same : port.same p q
  pub on : AreOn d e l f x y words

-- what the device's side knows is what it knew, and by these accesses, the newest first, the driver's side came to its view
pub record DriverBeside {P D E : Type 0} (port : PortModel P) (d : DriverModel D) (e : DeviceModel E) (l : LayoutModel) (f : Frame)
    (p q : P) (ws : List ℕ) (x x' : D) (y : E) (answer : DriverAct) (a : AreOn d e l f x y ws) (z : Finished port d e l f p q x' y)
    : Type 0 where
  pub same_device : z.on.device_view ≡ a.device_view
  pub made : List Made
  pub run : IsRun port d.side made p a.view q z.on.view
  pub words : z.words ≡ written_by made ws
  -- only an arming arms
  pub unarmed : d.begun x ≢ DriverOp.arm → a.view.armed ≡ None → z.on.view.armed ≡ None
  pub leaves : a.view.doing ≡ driver.Idle → DriverLeaves answer a.view.armed z.on.view.armed
  -- the access by which the answer was told
  pub at : IsToldAt port d.side d.act (λ u. u.done ≡ a.view.done) p a.view answer

-- what the driver's side knows is what it knew, and by these accesses, the newest first, the device's side came to its view
pub record DeviceBeside {P D E : Type 0} (port : PortModel P) (d : DriverModel D) (e : DeviceModel E) (l : LayoutModel) (f : Frame)
    (p q : P) (ws : List ℕ) (x : D) (y y' : E) (answer : DeviceAct) (a : AreOn d e l f x y ws) (z : Finished port d e l f p q x y')
    : Type 0 where
  pub same_driver : z.on.view ≡ a.view
  pub made : List Made
  pub run : IsRun port e.side made p a.device_view q z.on.device_view
  pub words : z.words ≡ written_by made ws
  -- only an arming arms
  pub unarmed : e.begun y ≢ DeviceOp.arm → a.device_view.armed ≡ None → z.on.device_view.armed ≡ None
  pub leaves : a.device_view.doing ≡ device.Idle → DeviceLeaves answer a.device_view.armed z.on.device_view.armed
  -- the access by which the answer was told
  pub at : IsToldAt port e.side e.act (λ u. u.done ≡ a.device_view.done) p a.device_view answer
