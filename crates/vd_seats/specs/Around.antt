-- How the ring stands right before and right after an access of one seat. The other side's view is the same in both, and is not handed
-- out; there was one.
use Rattle.std.specs.Prelude.{◌≡◌, ℕ, List}
use Rattle.vd_words.specs.declared.access.Access.{Access}
use Rattle.vd_words.specs.Step.{answered, written}
use Rattle.vd_ring.specs.declared.device.DeviceView.{DeviceView}
use Rattle.vd_ring.specs.declared.driver.DriverView.{DriverView}
use Rattle.vd_layout.specs.Layout.{LayoutModel}

-- the driver's access is one step between words that meet the ring invariant, and its answer is that of the words before it
pub record DriverStepped (l : LayoutModel) (v v' : DriverView) (a : Access) (r : ℕ) : Type 0 where
  pub words : List ℕ
  pub other : DeviceView
  pub before : l.ring words v other
  pub answer : r ≡ answered words a
  pub after : l.ring (written words a) v' other

pub record DeviceStepped (l : LayoutModel) (w w' : DeviceView) (a : Access) (r : ℕ) : Type 0 where
  pub words : List ℕ
  pub other : DriverView
  pub before : l.ring words other w
  pub answer : r ≡ answered words a
  pub after : l.ring (written words a) other w'
