-- Exactly when a look, an arming or a hearing answers what it does, by the view before the access and the word that it loaded.
use Rattle.std.specs.Prelude.{◌≡◌, ◌≢◌, ◌⊎◌, ◌↔◌, ℕ, Bool, true, false, None, Some}
use Rattle.vd_words.specs.declared.access.Access.{Access}
use Rattle.vd_words.specs.declared.access.Op.{Op}
use Rattle.vd_words.specs.declared.access.Op.TheVariants as op
use Rattle.vd_words.specs.Own.{SideModel}
use Rattle.vd_ring.specs.declared.act.DriverAct.{DriverAct}
use Rattle.vd_ring.specs.declared.act.DriverAct.TheVariants as driver_act
use Rattle.vd_ring.specs.declared.act.DeviceAct.{DeviceAct}
use Rattle.vd_ring.specs.declared.act.DeviceAct.TheVariants as device_act
use Rattle.vd_ring.specs.declared.driver.DriverNow.TheVariants as driver
use Rattle.vd_ring.specs.declared.driver.DriverView.{DriverView}
use Rattle.vd_ring.specs.declared.device.DeviceNow.TheVariants as device
use Rattle.vd_ring.specs.declared.device.DeviceView.{DeviceView}

-- the driver wakes by this access: the second look of an arming shows an entry, or the bell isn't the one heard last
abbrev pub DriverWakes : (DriverView → ℕ → Bool) → DriverView → ℕ → Op → Type 0
DriverWakes shows v r o = ((o ≡ op.Arm) × (v.doing ≡ driver.Arming) × (shows v r ≡ true)) ⊎ ((o ≡ op.Hear) × (v.doing ≡ driver.Idle)
    × (r ≢ v.heard))

-- a driver's answers, where `shows` says whether the loaded word shows a further used entry. With EVENT_IDX it is awake with the access
-- by which it wakes, without it with the disarming store that follows; a disarming by itself is one access
pub record DriverLooks (side : SideModel DriverView) (act : DriverView → Op → Access → ℕ → DriverAct) (shows : DriverView → ℕ
    → Bool) : Type 0 where
  pub nothing : (v : DriverView) (o : Op) (a : Access) (r : ℕ) → side.next v o a
      → (act v o a r ≡ driver_act.Nothing) ↔ ((o ≡ op.Collect) × (v.doing ≡ driver.Idle) × (shows v r ≡ false))
  pub armed : (v : DriverView) (o : Op) (a : Access) (r : ℕ) → side.next v o a
      → (act v o a r ≡ driver_act.Armed) ↔ ((o ≡ op.Arm) × (v.doing ≡ driver.Arming) × (shows v r ≡ false))
  pub asleep : (v : DriverView) (o : Op) (a : Access) (r : ℕ) → side.next v o a
      → (act v o a r ≡ driver_act.Asleep) ↔ ((o ≡ op.Hear) × (v.doing ≡ driver.Idle) × (r ≡ v.heard))
  pub disarming : (v : DriverView) (o : Op) (a : Access) (r : ℕ) → side.next v o a
      → ((side.after v o a r).doing ≡ driver.Disarming o) ↔ (DriverWakes shows v r o × (v.frame.features.event_idx ≡ false))
  pub awake : (v : DriverView) (o : Op) (a : Access) (r : ℕ) → side.next v o a → (act v o a r ≡ driver_act.Awake)
      ↔ ((DriverWakes shows v r o × (v.frame.features.event_idx ≡ true)) ⊎ (v.doing ≡ driver.Disarming o) ⊎ (o ≡ op.Disarm))

-- the device wakes by this access: the second look of an arming shows a chain, or the bell isn't the one heard last
abbrev pub DeviceWakes : (DeviceView → ℕ → Bool) → DeviceView → ℕ → Op → Type 0
DeviceWakes shows w r o = ((o ≡ op.Arm) × (w.doing ≡ device.Arming) × (shows w r ≡ true)) ⊎ ((o ≡ op.Hear) × (w.doing ≡ device.Idle)
    × (r ≢ w.heard))

-- a device's answers, where `shows` says whether the loaded word shows a further chain
pub record DeviceLooks (side : SideModel DeviceView) (act : DeviceView → Op → Access → ℕ → DeviceAct) (shows : DeviceView → ℕ
    → Bool) : Type 0 where
  pub nothing : (w : DeviceView) (o : Op) (a : Access) (r : ℕ) → side.next w o a
      → (act w o a r ≡ device_act.Nothing) ↔ ((o ≡ op.Take) × (w.doing ≡ device.Idle) × (shows w r ≡ false))
  pub armed : (w : DeviceView) (o : Op) (a : Access) (r : ℕ) → side.next w o a
      → (act w o a r ≡ device_act.Armed) ↔ ((o ≡ op.Arm) × (w.doing ≡ device.Arming) × (shows w r ≡ false))
  pub asleep : (w : DeviceView) (o : Op) (a : Access) (r : ℕ) → side.next w o a
      → (act w o a r ≡ device_act.Asleep) ↔ ((o ≡ op.Hear) × (w.doing ≡ device.Idle) × (r ≡ w.heard))
  pub disarming : (w : DeviceView) (o : Op) (a : Access) (r : ℕ) → side.next w o a
      → ((side.after w o a r).doing ≡ device.Disarming o) ↔ (DeviceWakes shows w r o × (w.frame.features.event_idx ≡ false))
  pub awake : (w : DeviceView) (o : Op) (a : Access) (r : ℕ) → side.next w o a → (act w o a r ≡ device_act.Awake)
      ↔ ((DeviceWakes shows w r o × (w.frame.features.event_idx ≡ true)) ⊎ (w.doing ≡ device.Disarming o) ⊎ (o ≡ op.Disarm))

-- ---- what stays from one access to the next, so that a side that sleeps makes no more accesses than bells wake it

-- a look of a collect or of an arming
abbrev pub DriverLooksNow : DriverView → Op → Type 0
DriverLooksNow v o = ((o ≡ op.Collect) × (v.doing ≡ driver.Idle)) ⊎ ((o ≡ op.Arm) × (v.doing ≡ driver.Arming))

-- the operation goes on, or has ended with Awake
abbrev pub DriverGoes : DriverAct → Type 0
DriverGoes driver_act.Moved = Unit {0}
DriverGoes driver_act.Awake = Unit {0}
DriverGoes _ = ⊥

-- an arming's store arms the side, and Armed leaves it so; a sleeper's look changes nothing; a side that is awake is unarmed; what a look
-- showed stays shown until it is collected, and the next look shows it too
pub record DriverStays (side : SideModel DriverView) (act : DriverView → Op → Access → ℕ → DriverAct) (shows : DriverView → ℕ → Bool)
    : Type 0 where
  pub arms : (v : DriverView) (o : Op) (a : Access) (r : ℕ) → side.next v o a → o ≡ op.Arm → v.doing ≡ driver.Idle
      → ((side.after v o a r).doing ≡ driver.Arming) × (t : ℕ) × ((side.after v o a r).armed ≡ Some t)
  pub armed : (v : DriverView) (o : Op) (a : Access) (r : ℕ) → side.next v o a → act v o a r ≡ driver_act.Armed
      → (side.after v o a r).armed ≡ v.armed
  pub asleep : (v : DriverView) (o : Op) (a : Access) (r : ℕ) → side.next v o a → act v o a r ≡ driver_act.Asleep → side.after v o a r ≡ v
  pub awake : (v : DriverView) (o : Op) (a : Access) (r : ℕ) → side.next v o a → act v o a r ≡ driver_act.Awake
      → (side.after v o a r).armed ≡ None
  pub shown : (v : DriverView) (o : Op) (a : Access) (r : ℕ) → side.next v o a → DriverGoes (act v o a r)
      → (v.shown ≡ true) ⊎ DriverLooksNow v o → (side.after v o a r).shown ≡ true
  pub again : (v : DriverView) (o : Op) (a : Access) (r : ℕ) → side.next v o a → side.tells v o a r → DriverLooksNow v o → v.shown ≡ true
      → shows v r ≡ true

-- a look of a take or of an arming
abbrev pub DeviceLooksNow : DeviceView → Op → Type 0
DeviceLooksNow w o = ((o ≡ op.Take) × (w.doing ≡ device.Idle)) ⊎ ((o ≡ op.Arm) × (w.doing ≡ device.Arming))

abbrev pub DeviceGoes : DeviceAct → Type 0
DeviceGoes device_act.Moved = Unit {0}
DeviceGoes device_act.Awake = Unit {0}
DeviceGoes _ = ⊥

-- the same of a device, and of what it takes
pub record DeviceStays (side : SideModel DeviceView) (act : DeviceView → Op → Access → ℕ → DeviceAct) (shows : DeviceView → ℕ → Bool)
    : Type 0 where
  pub arms : (w : DeviceView) (o : Op) (a : Access) (r : ℕ) → side.next w o a → o ≡ op.Arm → w.doing ≡ device.Idle
      → ((side.after w o a r).doing ≡ device.Arming) × (t : ℕ) × ((side.after w o a r).armed ≡ Some t)
  pub armed : (w : DeviceView) (o : Op) (a : Access) (r : ℕ) → side.next w o a → act w o a r ≡ device_act.Armed
      → (side.after w o a r).armed ≡ w.armed
  pub asleep : (w : DeviceView) (o : Op) (a : Access) (r : ℕ) → side.next w o a → act w o a r ≡ device_act.Asleep → side.after w o a r ≡ w
  pub awake : (w : DeviceView) (o : Op) (a : Access) (r : ℕ) → side.next w o a → act w o a r ≡ device_act.Awake
      → (side.after w o a r).armed ≡ None
  pub shown : (w : DeviceView) (o : Op) (a : Access) (r : ℕ) → side.next w o a → DeviceGoes (act w o a r)
      → (w.shown ≡ true) ⊎ DeviceLooksNow w o → (side.after w o a r).shown ≡ true
  pub again : (w : DeviceView) (o : Op) (a : Access) (r : ℕ) → side.next w o a → side.tells w o a r → DeviceLooksNow w o → w.shown ≡ true
      → shows w r ≡ true
