-- A control access of the holder of a split ring's end answers that the end moved on.
use Rattle.std.proofs.Common.{◌≡◌, ℕ, [], ◌∷◌, refl}
use Rattle.vd_words.specs.declared.access.Access.{Access}
use Rattle.vd_words.specs.declared.access.Access.TheVariants.{Load, Store}
use Rattle.vd_words.specs.declared.access.Op.TheVariants.{Control}
use Rattle.vd_ring.specs.declared.act.DriverAct.TheVariants as driver_answer
use Rattle.vd_ring.specs.declared.act.DeviceAct.TheVariants as device_answer
use Rattle.vd_ring.specs.declared.driver.DriverNow.{DriverNow}
use Rattle.vd_ring.specs.declared.driver.DriverNow.TheVariants as driver
use Rattle.vd_ring.specs.declared.driver.DriverView.{DriverView}
use Rattle.vd_ring.specs.declared.device.DeviceNow.{DeviceNow}
use Rattle.vd_ring.specs.declared.device.DeviceNow.TheVariants as device
use Rattle.vd_ring.specs.declared.device.DeviceView.{DeviceView}
use Rattle.vd_split_ring.specs.SplitDriver.{DriverNextAt, driver_act_at}
use Rattle.vd_split_ring.specs.SplitDevice.{DeviceNextAt, device_act_at}

pub driver_moves : (d : DriverNow) (v : DriverView) (a : Access) (r : ℕ) → DriverNextAt d v Control a
    → driver_act_at d v Control a r ≡ driver_answer.Moved
driver_moves driver.Idle v (Load p) r n = refl
driver_moves driver.Idle v (Store p x) r n = refl
driver_moves (driver.Collecting []) v a r n = absurd n
driver_moves (driver.Collecting (g ∷ [])) v a r n = absurd n
driver_moves (driver.Collecting (g ∷ w ∷ [])) v a r n = absurd n
driver_moves (driver.Collecting (g ∷ w ∷ x ∷ gs)) v a r n = absurd n
driver_moves _ v a r n = absurd n

pub device_moves : (d : DeviceNow) (w : DeviceView) (a : Access) (r : ℕ) → DeviceNextAt d w Control a
    → device_act_at d w Control a r ≡ device_answer.Moved
device_moves device.Idle w (Load p) r n = refl
device_moves device.Idle w (Store p x) r n = refl
device_moves (device.Taking []) w a r n = absurd n
device_moves (device.Taking (g ∷ [])) w a r n = absurd n
device_moves (device.Taking (g ∷ h ∷ gs)) w a r n = absurd n
device_moves (device.Giving []) w a r n = absurd n
device_moves (device.Giving (g ∷ [])) w a r n = absurd n
device_moves (device.Giving (g ∷ h ∷ [])) w a r n = absurd n
device_moves (device.Giving (g ∷ h ∷ x ∷ gs)) w a r n = absurd n
device_moves _ w a r n = absurd n
