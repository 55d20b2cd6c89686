-- An operation made to its end over plain words: what is known of both sides' views before and after it.
use Rattle.std.specs.Prelude.{◌≡◌, ◌≢◌, List, ℕ, None}
use Rattle.vd_words.specs.Model.{PortModel}
use Rattle.vd_ring.specs.declared.act.DriverAct.{DriverAct}
use Rattle.vd_ring.specs.declared.act.DriverAct.TheVariants as driver_act
use Rattle.vd_ring.specs.declared.act.DeviceAct.{DeviceAct}
use Rattle.vd_ring.specs.declared.act.DeviceAct.TheVariants as device_act
use Rattle.vd_ring.specs.declared.driver.DriverNow.TheVariants as driver
use Rattle.vd_ring.specs.declared.device.DeviceNow.TheVariants as device
use Rattle.vd_ring.specs.declared.frame.Frame.{Frame}
use Rattle.vd_ring.specs.History.{offers, collects, takes, gives}
use Rattle.vd_layout.specs.Begun.{DriverOp, DeviceOp}
use Rattle.vd_layout.specs.Driver.{DriverModel, DriverSays}
use Rattle.vd_layout.specs.Device.{DeviceModel, DeviceSays}
use Rattle.vd_layout.specs.DriverFinish.{DriverLeaves}
use Rattle.vd_layout.specs.DeviceFinish.{DeviceLeaves}
use Rattle.vd_layout.specs.Layout.{LayoutModel}
use Rattle.vd_layout.specs.Both.{AreOn}

-- of the driver's end: the device's side knows what it knew, the answer is about the driver's views before and after, only an arming
-- arms, an end that was idle is left armed as the answer says, and where it found nothing all that was given was collected
pub record DriverEnded {D E : Type 0} (d : DriverModel D) (e : DeviceModel E) (l : LayoutModel) (f : Frame) (x x' : D) (y : E)
    (ws us : List ℕ) (answer : DriverAct) (a : AreOn d e l f x y ws) : Type 0 where
  pub on : AreOn d e l f x' y us
  pub same_device : on.device_view ≡ a.device_view
  pub says : DriverSays answer (d.begun x) DriverOp.idle a.view.frame a.view.done on.view.done
  pub unarmed : d.begun x ≢ DriverOp.arm → a.view.armed ≡ None → on.view.armed ≡ None
  pub leaves : a.view.doing ≡ driver.Idle → DriverLeaves answer a.view.armed on.view.armed
  pub nothing : answer ≡ driver_act.Nothing → collects a.view.done ≡ gives a.device_view.done

-- of the device's end: the same with the sides exchanged
pub record DeviceEnded {D E : Type 0} (d : DriverModel D) (e : DeviceModel E) (l : LayoutModel) (f : Frame) (x : D) (y y' : E)
    (ws us : List ℕ) (answer : DeviceAct) (a : AreOn d e l f x y ws) : Type 0 where
  pub on : AreOn d e l f x y' us
  pub same_driver : on.view ≡ a.view
  pub says : DeviceSays e.words answer (e.begun y) DeviceOp.idle a.device_view.frame a.device_view.done on.device_view.done
  pub unarmed : e.begun y ≢ DeviceOp.arm → a.device_view.armed ≡ None → on.device_view.armed ≡ None
  pub leaves : a.device_view.doing ≡ device.Idle → DeviceLeaves answer a.device_view.armed on.device_view.armed
  pub nothing : answer ≡ device_act.Nothing → takes a.device_view.done ≡ offers a.view.done

-- the same behind a plain port onto these words
pub record DriverEndedAt {P D E : Type 0} (port : PortModel P) (d : DriverModel D) (e : DeviceModel E) (l : LayoutModel) (f : Frame)
    (p q : P) (x x' : D) (y : E) (ws : List ℕ) (answer : DriverAct) (a : AreOn d e l f x y ws) : Type 0 where
  pub words : List ℕ
  pub plain : port.plain q words
  pub same : port.same p q
  pub ended : DriverEnded d e l f x x' y ws words answer a

pub record DeviceEndedAt {P D E : Type 0} (port : PortModel P) (d : DriverModel D) (e : DeviceModel E) (l : LayoutModel) (f : Frame)
    (p q : P) (x : D) (y y' : E) (ws : List ℕ) (answer : DeviceAct) (a : AreOn d e l f x y ws) : Type 0 where
  pub words : List ℕ
  pub plain : port.plain q words
  pub same : port.same p q
  pub ended : DeviceEnded d e l f x y y' ws words answer a
