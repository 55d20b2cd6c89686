-- The index that a side has seen never goes back.
use Rattle.std.proofs.Common.{◌≡◌, ℕ, ◌%◌, ◌≤◌, ◌==◌, Bool, true, false, None, List, [], ◌∷◌, ◌++◌, length, if◌then◌else◌, slice_index, sym, ap, ◌∙◌, subst, arith}
use Rattle.vd_bits.specs.Lanes.{lane16}
use Rattle.vd_words.specs.declared.access.Access.{Access}
use Rattle.vd_words.specs.declared.access.Access.TheVariants.{Load, Store}
use Rattle.vd_words.specs.declared.access.Op.{Op}
use Rattle.vd_words.specs.declared.access.Op.TheVariants as op
use Rattle.vd_words.specs.Step.{answered}
use Rattle.vd_ring.specs.declared.frame.Frame.{Frame}
use Rattle.vd_ring.specs.declared.driver.DriverNow.{DriverNow}
use Rattle.vd_ring.specs.declared.driver.DriverNow.TheVariants as driver
use Rattle.vd_ring.specs.declared.driver.DriverView.{DriverView}
use Rattle.vd_ring.specs.declared.device.DeviceNow.{DeviceNow}
use Rattle.vd_ring.specs.declared.device.DeviceNow.TheVariants as device
use Rattle.vd_ring.specs.declared.device.DeviceView.{DeviceView}
use Rattle.vd_ring.specs.History.{collects, takes, gives}
use Rattle.vd_split_ring.specs.SplitWords.{used_from, shows, shown_from, is_whole}
use Rattle.vd_split_ring.specs.SplitDriver.{driver_wakes, DriverNextAt, DriverNext, driver_after_at, driver_after}
use Rattle.vd_split_ring.specs.SplitDevice.{device_wakes, DeviceNextAt, DeviceNext, device_after_at, device_after, device_takes}
use Rattle.vd_split_ring.specs.SplitRing.{Ring}
use Rattle.vd_split_ring.proofs.DriverCollects.{counts_given}
use Rattle.vd_split_ring.proofs.DriverKeeps.{used_word}
use Rattle.vd_split_ring.proofs.DeviceLooks.{offers_shown}
use Rattle.vd_split_ring.proofs.DeviceKeeping.{index_shown}

-- ---- the driver

either_driver : (n : ℕ) (v w : DriverView) (b : Bool) → n ≤ v.seen → n ≤ w.seen → n ≤ (if b then v else w).seen
either_driver n v w true x y = x
either_driver n v w false x y = y

driver_at : (ws : List ℕ) (d : DriverView) (e : DeviceView) (now : DriverNow) (o : Op) (a : Access)
    → Ring ws (record d { doing = now }) e → DriverNextAt now (record d { doing = now }) o a
    → d.seen ≤ (driver_after_at now (record d { doing = now }) o a (answered ws a)).seen
driver_at ws d e driver.Idle op.Collect (Load p) r h =
    let v : DriverView = record d { doing = driver.Idle } in
    let g : ℕ = slice_index ws p in let m : ℕ = length (collects d.done) in
    let lane : lane16 g 1 ≡ length (gives e.done) % 65536 =
    ap (λ y. lane16 y 1) (used_word ws v e p r (omega (arith, h.1)) (omega (arith, h.1)) ∙ ap (λ q. slice_index e.stored q) h.1)
    ∙ r.device_words.index in
    let later : d.seen ≤ shown_from g m = omega (arith, r.driver_seen, counts_given ws v e g lane r) in
    either_driver d.seen (record v { seen = shown_from g m; shown = false })
    (record v { seen = shown_from g m; shown = true; doing = driver.Collecting (g ∷ []) }) (shows g m) later later
driver_at ws d e driver.Idle op.Offer (Store p x) r h = omega arith
driver_at ws d e driver.Idle op.Control (Store p x) r h = omega arith
driver_at ws d e driver.Idle op.Control (Load p) r h = omega arith
driver_at ws d e (driver.Offering puts) op.Offer (Store p x) r h = omega arith
driver_at ws d e (driver.Entered puts) op.Offer (Store p x) r h = omega arith
driver_at ws d e (driver.Collecting (g ∷ [])) op.Collect (Load p) r h = omega arith
driver_at ws d e (driver.Collecting (g ∷ w ∷ [])) op.Collect (Load p) r h = omega arith
driver_at ws d e (driver.Checking old new) op.Offer (Load p) r h = omega arith
driver_at ws d e (driver.Ringing old new) op.Offer (Store p x) r h = omega arith
driver_at ws d e driver.Idle op.Arm (Store p x) r h = omega arith
driver_at ws d e driver.Arming op.Arm (Load p) r h =
    let v : DriverView = record d { doing = driver.Arming } in
    let g : ℕ = slice_index ws p in let m : ℕ = length (collects d.done) in
    let at : p ≡ used_from d.frame = h in
    let lane : lane16 g 1 ≡ length (gives e.done) % 65536 =
    ap (λ y. lane16 y 1) (used_word ws v e p r (omega arith) (omega arith) ∙ ap (λ q. slice_index e.stored q) at)
    ∙ r.device_words.index in
    let later : d.seen ≤ shown_from g m = omega (arith, r.driver_seen, counts_given ws v e g lane r) in
    either_driver d.seen (record d { seen = shown_from g m; shown = false; doing = driver.Idle })
    (record d { seen = shown_from g m; shown = true; armed = None; doing = driver_wakes d.frame op.Arm }) (shows g m) later later
driver_at ws d e (driver.Disarming o) op.Arm (Store p x) r h = omega arith
driver_at ws d e (driver.Disarming o) op.Hear (Store p x) r h = omega arith
driver_at ws d e driver.Idle op.Hear (Load p) r h =
    let g : ℕ = slice_index ws p in
    either_driver d.seen (record d { doing = driver.Idle })
    (record d { heard = g; armed = None; doing = driver_wakes d.frame op.Hear }) (g == d.heard) (omega arith) (omega arith)
driver_at ws d e driver.Idle op.Disarm (Store p x) r h = omega arith
driver_at ws d e driver.Idle op.Disarm (Load p) r h = omega arith
driver_at ws d e _ _ _ r h = absurd h

pub driver_forward : (ws : List ℕ) (d : DriverView) (e : DeviceView) (o : Op) (a : Access) → Ring ws d e → DriverNext d o a
    → d.seen ≤ (driver_after d o a (answered ws a)).seen
driver_forward ws d e o a r h = driver_at ws d e d.doing o a r h

-- ---- the device

either_device : (n : ℕ) (v w : DeviceView) (b : Bool) → n ≤ v.seen → n ≤ w.seen → n ≤ (if b then v else w).seen
either_device n v w true x y = x
either_device n v w false x y = y

device_at : (ws : List ℕ) (d : DriverView) (e : DeviceView) (now : DeviceNow) (o : Op) (a : Access)
    → Ring ws d (record e { frame = d.frame; doing = now }) → DeviceNextAt now (record e { frame = d.frame; doing = now }) o a
    → e.seen ≤ (device_after_at now (record e { frame = d.frame; doing = now }) o a (answered ws a)).seen
device_at ws d e device.Idle op.Take (Load p) r h =
    let v : DeviceView = record e { frame = d.frame; doing = device.Idle } in
    let g : ℕ = slice_index ws p in let t : ℕ = length (takes e.done) in
    let later : e.seen ≤ shown_from g t = omega (arith, r.device_seen, offers_shown ws d v g (index_shown ws d v p r h.1) r) in
    either_device e.seen (record v { seen = shown_from g t; shown = false })
    (record v { seen = shown_from g t; shown = true; doing = device.Taking (g ∷ []) }) (shows g t) later later
device_at ws d e device.Resting op.Rest (Load p) r h =
    let v : DeviceView = record e { frame = d.frame; doing = device.Resting } in
    omega (arith, r.device_seen, offers_shown ws d v (slice_index ws p) (index_shown ws d v p r h) r)
device_at ws d e device.Idle op.Rest (Store p x) r h = omega arith
device_at ws d e device.Idle op.Rest (Load p) r h = omega arith
device_at ws d e (device.Checking old new) op.Give (Load p) r h = omega arith
device_at ws d e (device.Ringing old new) op.Give (Store p x) r h = omega arith
device_at ws d e device.Idle op.Arm (Store p x) r h = omega arith
device_at ws d e device.Arming op.Arm (Load p) r h =
    let v : DeviceView = record e { frame = d.frame; doing = device.Arming } in
    let g : ℕ = slice_index ws p in let t : ℕ = length (takes e.done) in
    let later : e.seen ≤ shown_from g t = omega (arith, r.device_seen, offers_shown ws d v g (index_shown ws d v p r h) r) in
    either_device e.seen (record v { seen = shown_from g t; shown = false; doing = device.Idle })
    (record v { seen = shown_from g t; shown = true; armed = None; doing = device_wakes d.frame op.Arm }) (shows g t) later later
device_at ws d e (device.Disarming k) op.Arm (Store p x) r h = omega arith
device_at ws d e (device.Disarming k) op.Hear (Store p x) r h = omega arith
device_at ws d e device.Idle op.Hear (Load p) r h =
    let v : DeviceView = record e { frame = d.frame; doing = device.Idle } in
    let g : ℕ = slice_index ws p in either_device e.seen v (record v { heard = g; armed = None; doing = device_wakes d.frame op.Hear })
    (g == e.heard) (omega arith) (omega arith)
device_at ws d e device.Idle op.Disarm (Store p x) r h = omega arith
device_at ws d e device.Idle op.Disarm (Load p) r h = omega arith
device_at ws d e device.Idle op.Give (Store p x) r h = omega arith
device_at ws d e device.Idle op.Control (Load p) r h = omega arith
device_at ws d e device.Idle op.Control (Store p x) r h = omega arith
device_at ws d e (device.Taking (g ∷ [])) op.Take (Load p) r h = omega arith
device_at ws d e (device.Taking (g ∷ w ∷ us)) op.Take (Load p) r h =
    let v : DeviceView = record e { frame = d.frame; doing = device.Taking (g ∷ w ∷ us) } in
    let all : List ℕ = us ++ slice_index ws p ∷ [] in
    either_device e.seen (device_takes v g w all) (record v { doing = device.Taking (g ∷ w ∷ all) }) (is_whole d.frame all)
    (omega arith) (omega arith)
device_at ws d e (device.Giving (a ∷ [])) op.Give (Store p x) r h = omega arith
device_at ws d e (device.Giving (a ∷ b ∷ [])) op.Give (Store p x) r h = omega arith
device_at ws d e _ _ _ r h = absurd h

pub device_forward : (ws : List ℕ) (d : DriverView) (e : DeviceView) (o : Op) (a : Access) → Ring ws d e → DeviceNext e o a
    → e.seen ≤ (device_after e o a (answered ws a)).seen
device_forward ws d e o a r h =
    subst (λ (f : Frame). Ring ws d (record e { frame = f }) → DeviceNext (record e { frame = f }) o a
    → e.seen ≤ (device_after (record e { frame = f }) o a (answered ws a)).seen) (sym r.same) (device_at ws d e e.doing o a) r h
