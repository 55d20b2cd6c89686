-- The position that a side has seen never goes back.
use Rattle.std.proofs.Common.{None, ℕ, ◌+◌, ◌≤◌, ◌==◌, Bool, true, false, List, [], ◌∷◌, ◌++◌, if◌then◌else◌, arith}
use Rattle.vd_words.specs.declared.access.Access.{Access}
use Rattle.vd_words.specs.declared.access.Access.TheVariants.{Load, Store}
use Rattle.vd_words.specs.declared.access.Op.{Op}
use Rattle.vd_words.specs.declared.access.Op.TheVariants as op
use Rattle.vd_ring.specs.declared.driver.DriverDone.{DriverDone}
use Rattle.vd_ring.specs.declared.driver.DriverDone.TheVariants.{Collect}
use Rattle.vd_ring.specs.declared.driver.DriverNow.{DriverNow}
use Rattle.vd_ring.specs.declared.driver.DriverNow.TheVariants as driver
use Rattle.vd_ring.specs.declared.driver.DriverView.{DriverView}
use Rattle.vd_ring.specs.declared.device.DeviceNow.{DeviceNow}
use Rattle.vd_ring.specs.declared.device.DeviceNow.TheVariants as device
use Rattle.vd_ring.specs.declared.device.DeviceView.{DeviceView}
use Rattle.vd_ring.specs.History.{collected}
use Rattle.vd_packed_ring.specs.PackedWords.{second_word, len_of, id_of, is_used, is_available, put}
use Rattle.vd_packed_ring.specs.PackedChains.{is_whole}
use Rattle.vd_packed_ring.specs.PackedPositions.{offer_position, collect_position, take_position, later}
use Rattle.vd_packed_ring.specs.PackedDriver.{driver_after_at, driver_after, driver_collects, driver_offers, driver_wakes, stores}
use Rattle.vd_packed_ring.specs.PackedDevice.{device_after_at, device_after, device_takes, device_wakes, seen_to}
use Rattle.vd_packed_ring.proofs.Positions.{later_first}

-- ---- the driver

either_driver : (n : ℕ) (v w : DriverView) (b : Bool) → n ≤ v.seen → n ≤ w.seen → n ≤ (if b then v else w).seen
either_driver n v w true x y = x
either_driver n v w false x y = y

driver_at : (now : DriverNow) (v : DriverView) (o : Op) (a : Access) (r : ℕ) → v.seen ≤ (driver_after_at now v o a r).seen
driver_at driver.Idle v op.Collect (Load p) r =
    let o : List DriverDone = Collect (collected v.frame v.done (id_of r) (len_of r)) ∷ v.done in
    either_driver v.seen (driver_collects v r) (record v { seen = later v.seen (collect_position v.frame v.done); shown = false })
    (is_used v.frame.size (collect_position v.frame v.done) r) (later_first v.seen (collect_position v.frame o))
    (later_first v.seen (collect_position v.frame v.done))
driver_at (driver.Offering puts) v op.Offer (Store p x) r =
    either_driver v.seen (driver_offers v puts p x) (stores v p x (driver.Offering (puts ++ put p x ∷ [])))
    (p == second_word v.frame.size (offer_position v.frame v.done)) (omega arith) (omega arith)
driver_at driver.Idle v op.Offer (Store p x) r = omega arith
driver_at driver.Idle v op.Control (Store p x) r = omega arith
driver_at driver.Idle v op.Control (Load p) r = omega arith
driver_at (driver.Checking old new) v op.Offer (Load p) r = omega arith
driver_at (driver.Ringing old new) v op.Offer (Store p x) r = omega arith
driver_at driver.Idle v op.Arm (Store p x) r = omega arith
driver_at driver.Arming v op.Arm (Load p) r =
    let q : ℕ = collect_position v.frame v.done in
    either_driver v.seen (record v { seen = later v.seen (q + 1); shown = true; armed = None; doing = driver_wakes v.frame op.Arm })
    (record v { seen = later v.seen q; shown = false; doing = driver.Idle }) (is_used v.frame.size q r) (later_first v.seen (q + 1))
    (later_first v.seen q)
driver_at (driver.Disarming o) v op.Arm (Store p x) r = omega arith
driver_at (driver.Disarming o) v op.Hear (Store p x) r = omega arith
driver_at driver.Idle v op.Hear (Load p) r =
    either_driver v.seen v (record v { heard = r; armed = None; doing = driver_wakes v.frame op.Hear }) (r == v.heard) (omega arith)
    (omega arith)
driver_at driver.Idle v op.Disarm (Store p x) r = omega arith
driver_at driver.Idle v op.Disarm (Load p) r = omega arith
driver_at _ v _ _ r = omega arith

pub driver_forward : (v : DriverView) (o : Op) (a : Access) (r : ℕ) → v.seen ≤ (driver_after v o a r).seen
driver_forward v o a r = driver_at v.doing v o a r

-- ---- the device

either_device : (n : ℕ) (v w : DeviceView) (b : Bool) → n ≤ v.seen → n ≤ w.seen → n ≤ (if b then v else w).seen
either_device n v w true x y = x
either_device n v w false x y = y

device_at : (now : DeviceNow) (v : DeviceView) (o : Op) (a : Access) (r : ℕ) → v.seen ≤ (device_after_at now v o a r).seen
device_at device.Idle v op.Take (Load p) r =
    let q : ℕ = take_position v.frame v.done in
    either_device v.seen (record v { seen = later v.seen (q + 1); shown = true; doing = device.Taking (r ∷ []) })
    (record v { seen = later v.seen q; shown = false }) (is_available v.frame.size q r) (later_first v.seen (q + 1))
    (later_first v.seen q)
device_at (device.Taking (w ∷ ws)) v op.Take (Load p) r =
    either_device v.seen (device_takes v (w ∷ ws ++ r ∷ [])) (record v { doing = device.Taking (w ∷ ws ++ r ∷ []) })
    (is_whole v.frame (w ∷ ws ++ r ∷ [])) (omega arith) (omega arith)
device_at device.Resting v op.Rest (Load p) r = later_first v.seen (seen_to v r)
device_at device.Idle v op.Rest (Load p) r = omega arith
device_at device.Idle v op.Rest (Store p x) r = omega arith
device_at (device.Checking old new) v op.Give (Load p) r = omega arith
device_at (device.Ringing old new) v op.Give (Store p x) r = omega arith
device_at device.Idle v op.Arm (Store p x) r = omega arith
device_at device.Arming v op.Arm (Load p) r =
    let q : ℕ = take_position v.frame v.done in
    either_device v.seen (record v { seen = later v.seen (q + 1); shown = true; armed = None; doing = device_wakes v.frame op.Arm })
    (record v { seen = later v.seen q; shown = false; doing = device.Idle }) (is_available v.frame.size q r)
    (later_first v.seen (q + 1)) (later_first v.seen q)
device_at (device.Disarming o) v op.Arm (Store p x) r = omega arith
device_at (device.Disarming o) v op.Hear (Store p x) r = omega arith
device_at device.Idle v op.Hear (Load p) r =
    either_device v.seen v (record v { heard = r; armed = None; doing = device_wakes v.frame op.Hear }) (r == v.heard) (omega arith)
    (omega arith)
device_at device.Idle v op.Disarm (Store p x) r = omega arith
device_at device.Idle v op.Disarm (Load p) r = omega arith
device_at device.Idle v op.Give (Store p x) r = omega arith
device_at device.Idle v op.Control (Load p) r = omega arith
device_at device.Idle v op.Control (Store p x) r = omega arith
device_at _ v _ _ r = omega arith

pub device_forward : (v : DeviceView) (o : Op) (a : Access) (r : ℕ) → v.seen ≤ (device_after v o a r).seen
device_forward v o a r = device_at v.doing v o a r
