-- The bells of a ring, by what its two sides know.
use Rattle.std.specs.Prelude.{◌≡◌, ℕ, ◌+◌, ◌-◌, Bool, true, false, if◌then◌else◌, Some, List, [], ◌∷◌, length}
use Rattle.std.specs.List.{sum_by}
use Rattle.vd_model.specs.declared.chain.Piece.{Piece}
use Rattle.vd_model.specs.Chains.{needs}
use Rattle.vd_words.specs.declared.access.Op.{Op}
use Rattle.vd_words.specs.declared.access.Op.TheVariants as op
use Rattle.vd_ring.specs.declared.act.DriverAct.{DriverAct}
use Rattle.vd_ring.specs.declared.act.DriverAct.TheVariants as driver_act
use Rattle.vd_ring.specs.declared.act.DeviceAct.{DeviceAct}
use Rattle.vd_ring.specs.declared.act.DeviceAct.TheVariants as device_act
use Rattle.vd_ring.specs.declared.frame.Frame.{Frame}
use Rattle.vd_ring.specs.declared.frame.Used.{Used}
use Rattle.vd_ring.specs.declared.driver.DriverDone.{DriverDone}
use Rattle.vd_ring.specs.declared.driver.DriverNow.{DriverNow}
use Rattle.vd_ring.specs.declared.driver.DriverNow.TheVariants as driver
use Rattle.vd_ring.specs.declared.driver.DriverView.{DriverView}
use Rattle.vd_ring.specs.declared.device.DeviceDone.{DeviceDone}
use Rattle.vd_ring.specs.declared.device.DeviceDone.TheVariants.{Take, Give, Rest, StoreAck, LoadCommand}
use Rattle.vd_ring.specs.declared.device.DeviceNow.{DeviceNow}
use Rattle.vd_ring.specs.declared.device.DeviceNow.TheVariants as device
use Rattle.vd_ring.specs.declared.device.DeviceView.{DeviceView}
use Rattle.vd_ring.specs.Signals.{Owed, nothing, check, bell, Signals}
use Rattle.vd_ring.specs.History.{offers, collects, takes, gives, chain}

-- ---- each side's part

abbrev pub driver_owed : DriverNow → Owed
driver_owed (driver.Checking old new) = check old new
driver_owed (driver.Ringing old new) = bell old new
driver_owed _ = nothing

abbrev pub device_owed : DeviceNow → Owed
device_owed (device.Checking old new) = check old new
device_owed (device.Ringing old new) = bell old new
device_owed _ = nothing

abbrev pub driver_idle : DriverNow → Bool
driver_idle driver.Idle = true
driver_idle _ = false

abbrev pub device_idle : DeviceNow → Bool
device_idle device.Idle = true
device_idle _ = false

-- how far a chain moves a side: in a packed ring by its descriptors, in a split ring by one
abbrev pub span : Frame → List Piece → ℕ
span f c = if f.packed then needs f.features c else 1

-- the position after these chains, and after these used entries
abbrev pub position : Frame → List (List Piece) → ℕ
position f cs = sum_by (span f) cs

abbrev pub used_position : Frame → List DriverDone → List Used → ℕ
used_position f o us = sum_by (λ u. span f (chain o u.number)) us

-- how many ranges the device has published: one a give
abbrev pub gives_made : List DeviceDone → ℕ
gives_made [] = 0
gives_made (Take c h ∷ s) = gives_made s
gives_made (Give us ∷ s) = gives_made s + 1
gives_made (Rest ∷ s) = gives_made s
gives_made (StoreAck h x ∷ s) = gives_made s
gives_made (LoadCommand k i x ∷ s) = gives_made s

-- both directions
pub record RingSignals (v : DriverView) (w : DeviceView) : Type 0 where
  pub kicks : Signals (record {
    published = position v.frame (offers v.done);
    owed = driver_owed v.doing;
    bells = v.bells;
    ranges =
        length (offers v.done);
  }) (record {
    at = position v.frame (takes w.done);
    idle = device_idle w.doing;
    armed = w.armed;
    heard =
        w.heard;
  })
  pub calls : Signals (record {
    published = used_position v.frame v.done (gives w.done);
    owed = device_owed w.doing;
    bells = w.bells;
    ranges = gives_made w.done;
  }) (record {
    at = used_position v.frame v.done (collects v.done);
    idle = driver_idle v.doing;
    armed =
        v.armed;
    heard = v.heard;
  })

-- ---- asleep

-- the side sleeps and has no signal: it is idle and armed, and the bells that the other side stored are those that it heard
pub record DriverWaits (v : DriverView) (w : DeviceView) : Type 0 where
  pub idle : v.doing ≡ driver.Idle
  pub at : ℕ
  pub armed : v.armed ≡ Some at
  pub heard : v.heard ≡ w.bells

pub record DeviceWaits (v : DriverView) (w : DeviceView) : Type 0 where
  pub idle : w.doing ≡ device.Idle
  pub at : ℕ
  pub armed : w.armed ≡ Some at
  pub heard : w.heard ≡ v.bells

-- ---- bells heard: hearing a bell ends with Awake, at once or after a disarming store

abbrev pub driver_disarming : DriverNow → ℕ
driver_disarming (driver.Disarming op.Hear) = 1
driver_disarming _ = 0

abbrev pub device_disarming : DeviceNow → ℕ
device_disarming (device.Disarming op.Hear) = 1
device_disarming _ = 0

-- as many hearings at least may have ended with Awake
abbrev pub driver_hearings : DriverView → ℕ
driver_hearings v = v.heard - driver_disarming v.doing

abbrev pub device_hearings : DeviceView → ℕ
device_hearings w = w.heard - device_disarming w.doing

-- 1 for an answer that ends a hearing with Awake
abbrev pub driver_woken : Op → DriverAct → ℕ
driver_woken op.Hear driver_act.Awake = 1
driver_woken _ _ = 0

abbrev pub device_woken : Op → DeviceAct → ℕ
device_woken op.Hear device_act.Awake = 1
device_woken _ _ = 0
