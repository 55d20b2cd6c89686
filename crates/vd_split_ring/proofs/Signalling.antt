-- Event words and bells in the words of a ring; and who is armed.
use Rattle.std.proofs.Common.{◌≡◌, ◌≢◌, ℕ, ◌+◌, ◌%◌, ◌==◌, Bool, true, false, Option, None, List, [], ◌∷◌, ◌++◌, length, if◌then◌else◌, slice_index, refl, sym, ap, ◌∙◌, subst, arith, inl, inr}
use Rattle.vd_bits.specs.Lanes.{lane16}
use Rattle.vd_words.specs.declared.access.Access.{Access}
use Rattle.vd_words.specs.declared.access.Access.TheVariants.{Load, Store}
use Rattle.vd_words.specs.declared.access.Op.{Op}
use Rattle.vd_words.specs.declared.access.Op.TheVariants as op
use Rattle.vd_ring.specs.declared.act.DeviceAct.{DeviceAct}
use Rattle.vd_ring.specs.declared.act.DeviceAct.TheVariants as act
use Rattle.vd_ring.specs.declared.frame.Frame.{Frame}
use Rattle.vd_ring.specs.declared.driver.DriverNow.{DriverNow}
use Rattle.vd_ring.specs.declared.driver.DriverNow.TheVariants as driver
use Rattle.vd_ring.specs.declared.driver.DriverView.{DriverView}
use Rattle.vd_ring.specs.declared.device.DeviceNow.{DeviceNow}
use Rattle.vd_ring.specs.declared.device.DeviceNow.TheVariants as device
use Rattle.vd_ring.specs.declared.device.DeviceView.{DeviceView}
use Rattle.vd_ring.specs.History.{collects, takes}
use Rattle.vd_split_ring.specs.SplitWords.{used_from, kick_at, call_at, lane_at, lane_word, event_lane, shows, shown_from, is_whole}
use Rattle.vd_split_ring.specs.SplitDriver.{driver_wakes, driver_after_at, driver_after}
use Rattle.vd_split_ring.specs.SplitDevice.{device_wakes, device_after_at, device_after, device_act_at, device_act, device_takes}
use Rattle.vd_split_ring.specs.SplitRing.{Ring, DriverSignals, DeviceSignals, DeviceArmed}
use Rattle.vd_split_ring.proofs.Areas.{lane_inside}

-- ---- the words

pub driver_signals : (ws : List ℕ) (d : DriverView) (e : DeviceView) → Ring ws d e → DriverSignals d.frame d.armed d.bells ws
driver_signals ws d e r =
    let f : Frame = d.frame in let g = r.driver_signals in
    let flags : lane_at f ws 0 ≡ lane_at f d.stored 0 =
    ap (λ w. lane16 w 0) (r.words.drivers (lane_word f 0) (inl (lane_inside f 0 (omega arith)))) in
    let event : lane_at f ws (event_lane f) ≡ lane_at f d.stored (event_lane f) =
    ap (λ w. lane16 w (event_lane f % 4))
    (r.words.drivers (lane_word f (event_lane f)) (inl (lane_inside f (event_lane f) (omega arith)))) in
    record {
      no_flags = λ on. flags ∙ g.no_flags on;
      no_event = λ off. event ∙ g.no_event off;
      bit = omega (arith, flags, g.bit);
      flags = λ s is off. flags ∙ g.flags s is off;
      event = λ s is on. event ∙ g.event s is on;
      bell = r.words.drivers (kick_at f) (inr (inr refl)) ∙ g.bell;
    }

pub device_signals : (ws : List ℕ) (d : DriverView) (e : DeviceView) → Ring ws d e → DeviceSignals d.frame e.armed e.bells ws
device_signals ws d e r =
    let f : Frame = d.frame in let g = r.device_signals in
    let flags : lane16 (slice_index ws (used_from f)) 0 ≡ lane16 (slice_index e.stored (used_from f)) 0 =
    ap (λ w. lane16 w 0) (r.words.devices (used_from f) (inl (omega arith, omega arith))) in
    let event : lane16 (slice_index ws (used_from f + f.size)) 2 ≡ lane16 (slice_index e.stored (used_from f + f.size)) 2 =
    ap (λ w. lane16 w 2) (r.words.devices (used_from f + f.size) (inl (omega arith, omega arith))) in
    record {
      no_flags = λ on. flags ∙ g.no_flags on;
      no_event = λ off. event ∙ g.no_event off;
      bit = omega (arith, flags, g.bit);
      flags = λ s is off. flags ∙ g.flags s is off;
      event = λ s is on. event ∙ g.event s is on;
      bell = r.words.devices (call_at f) (inr (inr refl)) ∙ g.bell;
    }

-- ---- armed

either_driver : (x : Option ℕ) (v w : DriverView) (b : Bool) → v.armed ≡ x → w.armed ≡ x → (if b then v else w).armed ≡ x
either_driver x v w true a c = a
either_driver x v w false a c = c

driver_at : (now : DriverNow) (v : DriverView) (o : Op) (a : Access) (r : ℕ) → o ≢ op.Arm → v.armed ≡ None
    → (driver_after_at now v o a r).armed ≡ None
driver_at driver.Idle v op.Collect (Load p) r other is =
    let m : ℕ = length (collects v.done) in
    either_driver None (record v { seen = shown_from r m; shown = false })
    (record v { seen = shown_from r m; shown = true; doing = driver.Collecting (r ∷ []) }) (shows r m) is is
driver_at driver.Idle v op.Offer (Store p x) r other is = is
driver_at driver.Idle v op.Control (Store p x) r other is = is
driver_at driver.Idle v op.Control (Load p) r other is = is
driver_at (driver.Offering puts) v op.Offer (Store p x) r other is = is
driver_at (driver.Entered puts) v op.Offer (Store p x) r other is = is
driver_at (driver.Collecting []) v o a r other is = is
driver_at (driver.Collecting (g ∷ [])) v op.Collect (Load p) r other is = is
driver_at (driver.Collecting (g ∷ w ∷ [])) v op.Collect (Load p) r other is = is
driver_at (driver.Collecting (g ∷ w ∷ y ∷ us)) v o a r other is = is
driver_at (driver.Checking old new) v op.Offer (Load p) r other is = is
driver_at (driver.Ringing old new) v op.Offer (Store p x) r other is = is
driver_at driver.Idle v op.Arm (Store p x) r other is = absurd (other refl)
driver_at driver.Arming v op.Arm (Load p) r other is = absurd (other refl)
driver_at (driver.Disarming k) v op.Arm (Store p x) r other is = refl
driver_at (driver.Disarming k) v op.Hear (Store p x) r other is = refl
driver_at driver.Idle v op.Hear (Load p) r other is =
    either_driver None v (record v { heard = r; armed = None; doing = driver_wakes v.frame op.Hear }) (r == v.heard) is refl
driver_at driver.Idle v op.Disarm (Store p x) r other is = refl
driver_at driver.Idle v op.Disarm (Load p) r other is = refl
driver_at _ v _ _ r other is = is

-- no access but one of an arming arms
pub driver_unarmed : (v : DriverView) (o : Op) (a : Access) (r : ℕ) → o ≢ op.Arm → v.armed ≡ None → (driver_after v o a r).armed ≡ None
driver_unarmed v o a r other is = driver_at v.doing v o a r other is

either_device : (x : Option ℕ) (v w : DeviceView) (b : Bool) → v.armed ≡ x → w.armed ≡ x → (if b then v else w).armed ≡ x
either_device x v w true a c = a
either_device x v w false a c = c

device_at : (now : DeviceNow) (v : DeviceView) (o : Op) (a : Access) (r : ℕ) → o ≢ op.Arm → v.armed ≡ None
    → (device_after_at now v o a r).armed ≡ None
device_at device.Idle v op.Take (Load p) r other is =
    let t : ℕ = length (takes v.done) in
    either_device None (record v { seen = shown_from r t; shown = false })
    (record v { seen = shown_from r t; shown = true; doing = device.Taking (r ∷ []) }) (shows r t) is is
device_at (device.Taking (g ∷ w ∷ us)) v op.Take (Load p) r other is =
    either_device None (device_takes v g w (us ++ r ∷ [])) (record v { doing = device.Taking (g ∷ w ∷ us ++ r ∷ []) })
    (is_whole v.frame (us ++ r ∷ [])) is is
device_at device.Idle v op.Rest (Load p) r other is = refl
device_at device.Idle v op.Rest (Store p x) r other is = refl
device_at device.Resting v op.Rest (Load p) r other is = is
device_at device.Idle v op.Give (Store p x) r other is = is
device_at device.Idle v op.Control (Load p) r other is = is
device_at device.Idle v op.Control (Store p x) r other is = is
device_at (device.Taking []) v o a r other is = is
device_at (device.Taking (g ∷ [])) v op.Take (Load p) r other is = is
device_at (device.Giving []) v o a r other is = is
device_at (device.Giving (b ∷ [])) v op.Give (Store p x) r other is = is
device_at (device.Giving (b ∷ c ∷ [])) v op.Give (Store p x) r other is = is
device_at (device.Giving (b ∷ c ∷ y ∷ us)) v o a r other is = is
device_at (device.Checking old new) v op.Give (Load p) r other is = is
device_at (device.Ringing old new) v op.Give (Store p x) r other is = is
device_at device.Idle v op.Arm (Store p x) r other is = absurd (other refl)
device_at device.Arming v op.Arm (Load p) r other is = absurd (other refl)
device_at (device.Disarming k) v op.Arm (Store p x) r other is = refl
device_at (device.Disarming k) v op.Hear (Store p x) r other is = refl
device_at device.Idle v op.Hear (Load p) r other is =
    either_device None v (record v { heard = r; armed = None; doing = device_wakes v.frame op.Hear }) (r == v.heard) is refl
device_at device.Idle v op.Disarm (Store p x) r other is = refl
device_at device.Idle v op.Disarm (Load p) r other is = refl
device_at _ v _ _ r other is = is

pub device_unarmed : (v : DeviceView) (o : Op) (a : Access) (r : ℕ) → o ≢ op.Arm → v.armed ≡ None → (device_after v o a r).armed ≡ None
device_unarmed v o a r other is = device_at v.doing v o a r other is

-- a rest leaves the device unarmed
abbrev is_rested : DeviceAct → Bool
is_rested act.Rested = true
is_rested _ = false

not_rested : (x : DeviceAct) → is_rested x ≡ false → x ≡ act.Rested → ⊥
not_rested x off is = let e : false ≡ true = sym off ∙ ap is_rested is in cc

look_no_rest : (b : Bool) → is_rested (if b then act.Nothing else act.Moved) ≡ false
look_no_rest true = refl
look_no_rest false = refl

take_no_rest : (v : DeviceView) (us : List ℕ) (b : Bool)
    → is_rested (if b then act.Taken (length (takes v.done)) (Rattle.vd_split_ring.specs.SplitWords.chain_of v.frame us) else act.Moved)
    ≡ false
take_no_rest v us true = refl
take_no_rest v us false = refl

again_no_rest : (quiet : DeviceAct) (b c : Bool) → is_rested quiet ≡ false
    → is_rested (if b then quiet else (if c then act.Awake else act.Moved)) ≡ false
again_no_rest quiet true c is = is
again_no_rest quiet false true is = refl
again_no_rest quiet false false is = refl

rested_at : (now : DeviceNow) (v : DeviceView) (o : Op) (a : Access) (r : ℕ)
    → DeviceArmed now v.frame v.armed (length (takes v.done)) v.heard → device_act_at now v o a r ≡ act.Rested
    → (device_after_at now v o a r).armed ≡ None
rested_at device.Resting v op.Rest (Load p) r at is = at
rested_at device.Idle v op.Take (Load p) r at is = absurd (not_rested _ (look_no_rest (shows r (length (takes v.done)))) is)
rested_at (device.Taking (g ∷ w ∷ us)) v op.Take (Load p) r at is =
    absurd (not_rested _ (take_no_rest v (us ++ r ∷ []) (is_whole v.frame (us ++ r ∷ []))) is)
rested_at (device.Giving (b ∷ c ∷ [])) v op.Give (Store p x) r at is = absurd (not_rested _ refl is)
rested_at device.Arming v op.Arm (Load p) r at is =
    absurd (not_rested _ (again_no_rest act.Armed (shows r (length (takes v.done))) v.frame.features.event_idx refl) is)
rested_at device.Idle v op.Hear (Load p) r at is =
    absurd (not_rested _ (again_no_rest act.Asleep (r == v.heard) v.frame.features.event_idx refl) is)
rested_at (device.Disarming k) v op.Arm (Store p x) r at is = absurd (not_rested _ refl is)
rested_at (device.Disarming k) v op.Hear (Store p x) r at is = absurd (not_rested _ refl is)
rested_at device.Idle v op.Disarm (Store p x) r at is = absurd (not_rested _ refl is)
rested_at device.Idle v op.Disarm (Load p) r at is = absurd (not_rested _ refl is)
rested_at _ v _ _ r at is = absurd (not_rested _ refl is)

pub rested_unarmed : (ws : List ℕ) (d : DriverView) (v : DeviceView) (o : Op) (a : Access) (r : ℕ) → Ring ws d v
    → device_act v o a r ≡ act.Rested → (device_after v o a r).armed ≡ None
rested_unarmed ws d v o a r ring is =
    rested_at v.doing v o a r (subst (λ (f : Frame). DeviceArmed v.doing f v.armed (length (takes v.done)) v.heard)
    (sym ring.same) ring.device_armed) is
