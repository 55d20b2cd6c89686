-- What the holder of one seat knows by an answer of its end: how the other side stood at the load that told it. No view of the
-- other side is handed out; there was one.
use Rattle.std.specs.Prelude.{◌≡◌, ℕ, List}
use Rattle.vd_ring.specs.declared.device.DeviceView.{DeviceView}
use Rattle.vd_ring.specs.declared.driver.DriverView.{DriverView}
use Rattle.vd_ring.specs.History.{offers, collects, takes, gives}
use Rattle.vd_ring.specs.Sleep.{DriverWaits, DeviceWaits}
use Rattle.vd_layout.specs.Layout.{LayoutModel}
use Rattle.vd_seats.specs.Closing.{DriverMaySleep, DeviceMaySleep}

-- the driver was told Asleep: at that load it slept without a signal, and nothing lay before it or the device owed it one
pub record DriverSlept (l : LayoutModel) (v : DriverView) : Type 0 where
  pub words : List ℕ
  pub other : DeviceView
  pub met : l.ring words v other
  pub waits : DriverWaits v other
  pub may : DriverMaySleep v other waits.at

-- the device was told Asleep: at that load it slept without a signal, and nothing lay before it or the driver owed it one
pub record DeviceSlept (l : LayoutModel) (w : DeviceView) : Type 0 where
  pub words : List ℕ
  pub other : DriverView
  pub met : l.ring words other w
  pub waits : DeviceWaits other w
  pub may : DeviceMaySleep other w waits.at

-- the driver was told Nothing: at that load all that the device had given was collected
pub record DriverSawAll (l : LayoutModel) (v : DriverView) : Type 0 where
  pub words : List ℕ
  pub other : DeviceView
  pub met : l.ring words v other
  pub all : collects v.done ≡ gives other.done

-- the device was told Nothing: at that load all that the driver had offered was taken
pub record DeviceSawAll (l : LayoutModel) (w : DeviceView) : Type 0 where
  pub words : List ℕ
  pub other : DriverView
  pub met : l.ring words other w
  pub all : takes w.done ≡ offers other.done
