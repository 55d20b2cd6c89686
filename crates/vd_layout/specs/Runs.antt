-- An idle end on a port that is its own, and the same after many operations. Any port will do.
use Rattle.std.specs.Prelude.{◌≡◌, false, List}
use Rattle.vd_words.specs.Model.{PortModel}
use Rattle.vd_words.specs.Own.{IsOwn}
use Rattle.vd_ring.specs.declared.device.DeviceView.{DeviceView}
use Rattle.vd_ring.specs.declared.driver.DriverView.{DriverView}
use Rattle.vd_layout.specs.Begun.{DriverOp, DeviceOp}
use Rattle.vd_layout.specs.Driver.{DriverModel}
use Rattle.vd_layout.specs.Device.{DeviceModel}
use Rattle.vd_layout.specs.Run.{Made, IsRun}

-- an idle end stands for the view of which the port is its side's own; the device doesn't rest
pub record DriverOn {P E : Type 0} (port : PortModel P) (d : DriverModel E) (p : P) (v : DriverView) (x : E) : Type 0 where
  pub stands : d.stands x v
  pub idle : d.begun x ≡ DriverOp.idle
  pub own : IsOwn port d.side p v

pub record DeviceOn {P E : Type 0} (port : PortModel P) (e : DeviceModel E) (p : P) (w : DeviceView) (y : E) : Type 0 where
  pub stands : e.stands y w
  pub idle : e.begun y ≡ DeviceOp.idle
  pub own : IsOwn port e.side p w
  pub awake : e.resting y ≡ false

-- accesses that were next led from one port and view to another, at which the end is idle; the ring is the same
pub record DriverRan {P E : Type 0} (port : PortModel P) (d : DriverModel E) (p : P) (v : DriverView) (q : P) (x : E) : Type 0 where
  pub view : DriverView
  pub made : List Made
  pub run : IsRun port d.side made p v q view
  pub framed : view.frame ≡ v.frame
  pub on : DriverOn port d q view x

pub record DeviceRan {P E : Type 0} (port : PortModel P) (e : DeviceModel E) (p : P) (w : DeviceView) (q : P) (y : E) : Type 0 where
  pub view : DeviceView
  pub made : List Made
  pub run : IsRun port e.side made p w q view
  pub framed : view.frame ≡ w.frame
  pub on : DeviceOn port e q view y
