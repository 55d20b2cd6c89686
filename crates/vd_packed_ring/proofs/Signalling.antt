-- Event words and bells in the words of a ring; and who is armed.
use Rattle.std.proofs.Common.{◌≡◌, ◌≢◌, ℕ, ◌+◌, ◌==◌, Bool, true, false, Option, None, List, [], ◌∷◌, ◌++◌, length, if◌then◌else◌, slice_index, refl, sym, ap, ◌∙◌, subst, inl, inr}
use Rattle.vd_words.specs.declared.access.Access.{Access}
use Rattle.vd_words.specs.declared.access.Access.TheVariants.{Load, Store}
use Rattle.vd_words.specs.declared.access.Op.{Op}
use Rattle.vd_words.specs.declared.access.Op.TheVariants as op
use Rattle.vd_ring.specs.declared.act.DeviceAct.{DeviceAct}
use Rattle.vd_ring.specs.declared.act.DeviceAct.TheVariants as act
use Rattle.vd_ring.specs.declared.frame.Frame.{Frame}
use Rattle.vd_ring.specs.declared.driver.DriverNow.{DriverNow}
use Rattle.vd_ring.specs.declared.driver.DriverNow.TheVariants as driver
use Rattle.vd_ring.specs.declared.driver.DriverView.{DriverView}
use Rattle.vd_ring.specs.declared.device.DeviceNow.{DeviceNow}
use Rattle.vd_ring.specs.declared.device.DeviceNow.TheVariants as device
use Rattle.vd_ring.specs.declared.device.DeviceView.{DeviceView}
use Rattle.vd_ring.specs.History.{takes}
use Rattle.vd_packed_ring.specs.PackedWords.{driver_event, device_event, kick_at, call_at, second_word, is_used, is_available, put}
use Rattle.vd_packed_ring.specs.PackedChains.{is_whole, chain_of}
use Rattle.vd_packed_ring.specs.PackedPositions.{offer_position, collect_position, take_position, later}
use Rattle.vd_packed_ring.specs.PackedDriver.{driver_after_at, driver_after, driver_collects, driver_offers, driver_wakes, stores}
use Rattle.vd_packed_ring.specs.PackedDevice.{device_after_at, device_after, device_act_at, device_act, device_takes, device_wakes}
use Rattle.vd_packed_ring.specs.PackedRing.{Ring, SideSignals, DeviceArmed}

-- ---- the words

signals_of : (f : Frame) (event_at bell_at : ℕ) (armed : Option ℕ) (bells : ℕ) (ws stored : List ℕ)
    → slice_index ws event_at ≡ slice_index stored event_at → slice_index ws bell_at ≡ slice_index stored bell_at
    → SideSignals f event_at bell_at armed bells stored → SideSignals f event_at bell_at armed bells ws
signals_of f event_at bell_at armed bells ws stored event bell g = record {
  flags = λ off. elim (g.flags off) [ inl h ↦ inl (event ∙ h) | inr h ↦ inr (event ∙ h) ];
  names = λ on. elim (g.names on) [ inl h ↦ inl (event ∙ h) | inr h ↦ inr (h.0, event ∙ h.1) ];
  enable = λ q is off. event ∙ g.enable q is off;
  event = λ q is on. event ∙ g.event q is on;
  bell = bell ∙ g.bell;
}

pub driver_signals : (ws : List ℕ) (d : DriverView) (e : DeviceView) → Ring ws d e
    → SideSignals d.frame (driver_event d.frame) (kick_at d.frame) d.armed d.bells ws
driver_signals ws d e r =
    let f : Frame = d.frame in
    signals_of f (driver_event f) (kick_at f) d.armed d.bells ws d.stored (r.words.drivers (driver_event f) (inr (inl refl)))
    (r.words.drivers (kick_at f) (inr (inr (inr refl)))) r.driver_signals

pub device_signals : (ws : List ℕ) (d : DriverView) (e : DeviceView) → Ring ws d e
    → SideSignals d.frame (device_event d.frame) (call_at d.frame) e.armed e.bells ws
device_signals ws d e r =
    let f : Frame = d.frame in
    signals_of f (device_event f) (call_at f) e.armed e.bells ws e.stored (r.words.devices (device_event f) (inl refl))
    (r.words.devices (call_at f) (inr (inr refl))) r.device_signals

-- ---- armed

either_driver : (x : Option ℕ) (v w : DriverView) (b : Bool) → v.armed ≡ x → w.armed ≡ x → (if b then v else w).armed ≡ x
either_driver x v w true a c = a
either_driver x v w false a c = c

driver_at : (now : DriverNow) (v : DriverView) (o : Op) (a : Access) (r : ℕ) → o ≢ op.Arm → v.armed ≡ None
    → (driver_after_at now v o a r).armed ≡ None
driver_at driver.Idle v op.Collect (Load p) r other is =
    either_driver None (driver_collects v r) (record v { seen = later v.seen (collect_position v.frame v.done); shown = false })
    (is_used v.frame.size (collect_position v.frame v.done) r) is is
driver_at (driver.Offering puts) v op.Offer (Store p x) r other is =
    either_driver None (driver_offers v puts p x) (stores v p x (driver.Offering (puts ++ put p x ∷ [])))
    (p == second_word v.frame.size (offer_position v.frame v.done)) is is
driver_at driver.Idle v op.Offer (Store p x) r other is = is
driver_at driver.Idle v op.Control (Store p x) r other is = is
driver_at driver.Idle v op.Control (Load p) r other is = is
driver_at (driver.Checking old new) v op.Offer (Load p) r other is = is
driver_at (driver.Ringing old new) v op.Offer (Store p x) r other is = is
driver_at driver.Idle v op.Arm (Store p x) r other is = absurd (other refl)
driver_at driver.Arming v op.Arm (Load p) r other is = absurd (other refl)
driver_at (driver.Disarming k) v op.Arm (Store p x) r other is = refl
driver_at (driver.Disarming k) v op.Hear (Store p x) r other is = refl
driver_at driver.Idle v op.Hear (Load p) r other is =
    either_driver None v (record v { heard = r; armed = None; doing = driver_wakes v.frame op.Hear }) (r == v.heard) is refl
driver_at driver.Idle v op.Disarm (Store p x) r other is = refl
driver_at driver.Idle v op.Disarm (Load p) r other is = refl
driver_at _ v _ _ r other is = is

-- no access but one of an arming arms
pub driver_unarmed : (v : DriverView) (o : Op) (a : Access) (r : ℕ) → o ≢ op.Arm → v.armed ≡ None → (driver_after v o a r).armed ≡ None
driver_unarmed v o a r other is = driver_at v.doing v o a r other is

either_device : (x : Option ℕ) (v w : DeviceView) (b : Bool) → v.armed ≡ x → w.armed ≡ x → (if b then v else w).armed ≡ x
either_device x v w true a c = a
either_device x v w false a c = c

device_at : (now : DeviceNow) (v : DeviceView) (o : Op) (a : Access) (r : ℕ) → o ≢ op.Arm → v.armed ≡ None
    → (device_after_at now v o a r).armed ≡ None
device_at device.Idle v op.Take (Load p) r other is =
    let q : ℕ = take_position v.frame v.done in
    either_device None (record v { seen = later v.seen (q + 1); shown = true; doing = device.Taking (r ∷ []) })
    (record v { seen = later v.seen q; shown = false }) (is_available v.frame.size q r) is is
device_at (device.Taking (w ∷ ws)) v op.Take (Load p) r other is =
    either_device None (device_takes v (w ∷ ws ++ r ∷ [])) (record v { doing = device.Taking (w ∷ ws ++ r ∷ []) })
    (is_whole v.frame (w ∷ ws ++ r ∷ [])) is is
device_at device.Idle v op.Rest (Load p) r other is = refl
device_at device.Idle v op.Rest (Store p x) r other is = refl
device_at device.Resting v op.Rest (Load p) r other is = is
device_at device.Idle v op.Give (Store p x) r other is = is
device_at device.Idle v op.Control (Load p) r other is = is
device_at device.Idle v op.Control (Store p x) r other is = is
device_at (device.Checking old new) v op.Give (Load p) r other is = is
device_at (device.Ringing old new) v op.Give (Store p x) r other is = is
device_at device.Idle v op.Arm (Store p x) r other is = absurd (other refl)
device_at device.Arming v op.Arm (Load p) r other is = absurd (other refl)
device_at (device.Disarming k) v op.Arm (Store p x) r other is = refl
device_at (device.Disarming k) v op.Hear (Store p x) r other is = refl
device_at device.Idle v op.Hear (Load p) r other is =
    either_device None v (record v { heard = r; armed = None; doing = device_wakes v.frame op.Hear }) (r == v.heard) is refl
device_at device.Idle v op.Disarm (Store p x) r other is = refl
device_at device.Idle v op.Disarm (Load p) r other is = refl
device_at _ v _ _ r other is = is

pub device_unarmed : (v : DeviceView) (o : Op) (a : Access) (r : ℕ) → o ≢ op.Arm → v.armed ≡ None → (device_after v o a r).armed ≡ None
device_unarmed v o a r other is = device_at v.doing v o a r other is

-- a rest leaves the device unarmed
abbrev is_rested : DeviceAct → Bool
is_rested act.Rested = true
is_rested _ = false

not_rested : (x : DeviceAct) → is_rested x ≡ false → x ≡ act.Rested → ⊥
not_rested x off is = let e : false ≡ true = sym off ∙ ap is_rested is in cc

look_no_rest : (b : Bool) → is_rested (if b then act.Moved else act.Nothing) ≡ false
look_no_rest true = refl
look_no_rest false = refl

take_no_rest : (v : DeviceView) (us : List ℕ) (b : Bool)
    → is_rested (if b then act.Taken (length (takes v.done)) (chain_of v.frame us) else act.Moved) ≡ false
take_no_rest v us true = refl
take_no_rest v us false = refl

woken_no_rest : (c : Bool) → is_rested (if c then act.Awake else act.Moved) ≡ false
woken_no_rest true = refl
woken_no_rest false = refl

either_no_rest : (b : Bool) (x y : DeviceAct) → is_rested x ≡ false → is_rested y ≡ false → is_rested (if b then x else y) ≡ false
either_no_rest true x y p q = p
either_no_rest false x y p q = q

rested_at : (now : DeviceNow) (v : DeviceView) (o : Op) (a : Access) (r : ℕ)
    → DeviceArmed now v.frame v.armed (take_position v.frame v.done) v.heard → device_act_at now v o a r ≡ act.Rested
    → (device_after_at now v o a r).armed ≡ None
rested_at device.Resting v op.Rest (Load p) r at is = at
rested_at device.Idle v op.Take (Load p) r at is =
    absurd (not_rested _ (look_no_rest (is_available v.frame.size (take_position v.frame v.done) r)) is)
rested_at (device.Taking (w ∷ ws)) v op.Take (Load p) r at is =
    absurd (not_rested _ (take_no_rest v (w ∷ ws ++ r ∷ []) (is_whole v.frame (w ∷ ws ++ r ∷ []))) is)
rested_at device.Idle v op.Give (Store p x) r at is = absurd (not_rested _ refl is)
rested_at device.Arming v op.Arm (Load p) r at is =
    absurd (not_rested _ (either_no_rest (is_available v.frame.size (take_position v.frame v.done) r)
    (if v.frame.features.event_idx then act.Awake else act.Moved) act.Armed (woken_no_rest v.frame.features.event_idx) refl) is)
rested_at device.Idle v op.Hear (Load p) r at is =
    absurd (not_rested _ (either_no_rest (r == v.heard) act.Asleep (if v.frame.features.event_idx then act.Awake else act.Moved) refl
    (woken_no_rest v.frame.features.event_idx)) is)
rested_at (device.Disarming k) v op.Arm (Store p x) r at is = absurd (not_rested _ refl is)
rested_at (device.Disarming k) v op.Hear (Store p x) r at is = absurd (not_rested _ refl is)
rested_at device.Idle v op.Disarm (Store p x) r at is = absurd (not_rested _ refl is)
rested_at device.Idle v op.Disarm (Load p) r at is = absurd (not_rested _ refl is)
rested_at _ v _ _ r at is = absurd (not_rested _ refl is)

pub rested_unarmed : (ws : List ℕ) (d : DriverView) (v : DeviceView) (o : Op) (a : Access) (r : ℕ) → Ring ws d v
    → device_act v o a r ≡ act.Rested → (device_after v o a r).armed ≡ None
rested_unarmed ws d v o a r ring is =
    rested_at v.doing v o a r (subst (λ (f : Frame). DeviceArmed v.doing f v.armed (take_position f v.done) v.heard)
    (sym ring.same) ring.device_armed) is
