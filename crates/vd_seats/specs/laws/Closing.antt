-- Lemmas: what is known of the two views of a ring's table after its seats were joined.
use Rattle.std.proofs.Common.{◌≡◌, ℕ, List, ap, subst}
use Rattle.vd_ring.specs.declared.device.DeviceView.{DeviceView}
use Rattle.vd_ring.specs.declared.driver.DriverView.{DriverView}
use Rattle.vd_ring.specs.Sleep.{RingSignals, DriverWaits, DeviceWaits, driver_idle, device_idle}
use Rattle.vd_layout.specs.Driver.{DriverModel}
use Rattle.vd_layout.specs.Device.{DeviceModel}
use Rattle.vd_layout.specs.Layout.{LayoutModel, IsLawfulLayout}
use Rattle.vd_seats.specs.declared.view.View.{View}
use Rattle.vd_seats.specs.declared.view.View.TheVariants.{Driver, Device}
use Rattle.vd_seats.specs.Rule.{AreMet, Meets}
use Rattle.vd_seats.specs.Closing.{DriverMaySleep, DeviceMaySleep, IsMet}

pub driver_may_sleep : (v : DriverView) (w : DeviceView) → RingSignals v w → (s : DriverWaits v w) → DriverMaySleep v w s.at
driver_may_sleep v w h s = h.calls.sleeps s.at (ap driver_idle s.idle) s.armed s.heard

pub device_may_sleep : (v : DriverView) (w : DeviceView) → RingSignals v w → (s : DeviceWaits v w) → DeviceMaySleep v w s.at
device_may_sleep v w h s = h.kicks.sleeps s.at (ap device_idle s.idle) s.armed s.heard

-- by the layout's law the signals follow from the ring invariant
pub meets : {D E : Type 0} (d : DriverModel D) (e : DeviceModel E) (l : LayoutModel) (law : IsLawfulLayout d e l) (v : DriverView)
    (w : DeviceView) → AreMet l.ring v w → IsMet l.ring v w
meets d e l law v w m =
    let h = law.signals m.0 v w m.1 in
    record { met = m; signals = h; driver = driver_may_sleep v w h; device = device_may_sleep v w h }

-- the joined seat's look, by the two views that it joined
pub meets_at : (ring : List ℕ → DriverView → DeviceView → Type 0) (x y : View) (v : DriverView) (w : DeviceView) → x ≡ Driver v
    → y ≡ Device w → Meets ring x y → AreMet ring v w
meets_at ring x y v w is is' m = subst (λ (z : View). Meets ring z (Device w)) is (subst (λ (z : View). Meets ring x z) is' m)
