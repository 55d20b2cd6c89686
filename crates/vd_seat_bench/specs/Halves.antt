-- An idle end and the seat's port on which it works.
use Rattle.vd_ring.specs.declared.device.DeviceView.{DeviceView}
use Rattle.vd_ring.specs.declared.driver.DriverView.{DriverView}
use Rattle.vd_layout.specs.Driver.{DriverModel}
use Rattle.vd_layout.specs.Device.{DeviceModel}
use Rattle.vd_layout.specs.Layout.{LayoutModel}
use Rattle.vd_layout.specs.Runs.{DriverOn, DeviceOn}
use Rattle.vd_seats.specs.Open.{IsOpen}
use Rattle.vd_seats.specs.Seat.{SeatState, DrivesAt, ServesAt, port_of}

pub record IsDriverHalf {D E : Type 0} (d : DriverModel D) (e : DeviceModel E) (l : LayoutModel) (x : D) (s : SeatState) : Type 0 where
  pub view : DriverView
  pub at : DrivesAt l s view
  pub on : DriverOn (port_of d e l) d s view x
  pub bare : IsOpen view.frame

pub record IsDeviceHalf {D E : Type 0} (d : DriverModel D) (e : DeviceModel E) (l : LayoutModel) (y : E) (s : SeatState) : Type 0 where
  pub view : DeviceView
  pub at : ServesAt l s view
  pub on : DeviceOn (port_of d e l) e s view y
