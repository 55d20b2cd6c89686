-- Ends that sleep not: an end whose side isn't armed is not armed, and only an arming changes that.
use Rattle.std.proofs.Common.{◌≡◌, ◌≢◌, Bool, true, false, None, refl}
use Rattle.vd_words.specs.Model.{PortModel}
use Rattle.vd_ring.specs.declared.act.DriverAct.{DriverAct}
use Rattle.vd_ring.specs.declared.act.DeviceAct.{DeviceAct}
use Rattle.vd_ring.specs.declared.driver.DriverView.{DriverView}
use Rattle.vd_ring.specs.declared.device.DeviceView.{DeviceView}
use Rattle.vd_layout.specs.Begun.{DriverOp, DeviceOp}
use Rattle.vd_layout.specs.Driver.{DriverModel, IsDriverStep, IsLawfulDriver}
use Rattle.vd_layout.specs.Device.{DeviceModel, IsDeviceStep, IsLawfulDevice}
use Rattle.vd_layout.specs.laws.DriverFinish as driver
use Rattle.vd_layout.specs.laws.DeviceFinish as device

module _ {D : Type 0} (d : DriverModel D) (law : IsLawfulDriver d) where
  pub driver_unarmed : (x : D) (v : DriverView) → d.stands x v → v.armed ≡ None → d.armed x ≡ false
  driver_unarmed x v stands none = at (d.armed x) refl
    where
      at : (b : Bool) → d.armed x ≡ b → d.armed x ≡ false
      at true is = absurd (let some = law.armed x v stands is in cc (some.1, none))
      at false is = is

  -- a step of another operation leaves it unarmed
  pub driver_stays : {P : Type 0} (port : PortModel P) (p q : P) (v : DriverView) (x x' : D) (answer : DriverAct)
      → d.begun x ≢ DriverOp.arm → v.armed ≡ None → (s : IsDriverStep port d p q v x x' answer)
      → (d.side.after v s.op s.access s.got).armed ≡ None
  driver_stays port p q v x x' answer other none s =
      law.stays_unarmed v s.op s.access s.got (driver.not_arm (d.begun x) s.op s.of_it other) none

module _ {E : Type 0} (e : DeviceModel E) (law : IsLawfulDevice e) where
  pub device_unarmed : (y : E) (w : DeviceView) → e.stands y w → w.armed ≡ None → e.armed y ≡ false
  device_unarmed y w stands none = at (e.armed y) refl
    where
      at : (b : Bool) → e.armed y ≡ b → e.armed y ≡ false
      at true is = absurd (let some = law.armed y w stands is in cc (some.1, none))
      at false is = is

  -- a step of another operation leaves it unarmed
  pub device_stays : {P : Type 0} (port : PortModel P) (p q : P) (w : DeviceView) (y y' : E) (answer : DeviceAct)
      → e.begun y ≢ DeviceOp.arm → w.armed ≡ None → (s : IsDeviceStep port e p q w y y' answer)
      → (e.side.after w s.op s.access s.got).armed ≡ None
  device_stays port p q w y y' answer other none s =
      law.stays_unarmed w s.op s.access s.got (device.not_arm (e.begun y) s.op s.of_it other) none
