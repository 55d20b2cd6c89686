-- What the ring invariant says of a sleeping device: what Asleep says, and what a hearing adds.
use Rattle.std.proofs.Common.{◌≡◌, ◌≢◌, ℕ, ◌+◌, ◌-◌, ◌≤◌, ◌==◌, ◌++◌, Bool, true, false, None, List, [], ◌∷◌, length, if◌then◌else◌, slice_index, refl, sym, ap, ◌∙◌, subst, arith}
use Rattle.std.proofs.lemmas.Bool.{eqb-true, eqb-false}
use Rattle.vd_model.specs.declared.chain.Piece.{Piece}
use Rattle.vd_words.specs.declared.access.Access.{Access}
use Rattle.vd_words.specs.declared.access.Access.TheVariants.{Load, Store}
use Rattle.vd_words.specs.declared.access.Op.{Op}
use Rattle.vd_words.specs.declared.access.Op.TheVariants as op
use Rattle.vd_words.specs.Step.{answered}
use Rattle.vd_ring.specs.declared.act.DeviceAct.{DeviceAct}
use Rattle.vd_ring.specs.declared.act.DeviceAct.TheVariants as act
use Rattle.vd_ring.specs.declared.frame.Frame.{Frame}
use Rattle.vd_ring.specs.declared.driver.DriverView.{DriverView}
use Rattle.vd_ring.specs.declared.device.DeviceNow.{DeviceNow}
use Rattle.vd_ring.specs.declared.device.DeviceNow.TheVariants.{Idle, Taking, Checking, Ringing, Arming, Disarming, Resting}
use Rattle.vd_ring.specs.declared.device.DeviceView.{DeviceView}
use Rattle.vd_ring.specs.History.{takes}
use Rattle.vd_ring.specs.Sleep.{DeviceWaits, device_disarming, device_hearings, device_woken}
use Rattle.vd_packed_ring.specs.PackedWords.{kick_at, is_available}
use Rattle.vd_packed_ring.specs.PackedChains.{is_whole, chain_of}
use Rattle.vd_packed_ring.specs.PackedSignals.{asks}
use Rattle.vd_packed_ring.specs.PackedPositions.{take_position}
use Rattle.vd_packed_ring.specs.PackedDevice.{DeviceNextAt, DeviceNext, device_after_at, device_after, device_act_at, device_act, device_takes}
use Rattle.vd_packed_ring.specs.PackedRing.{Ring, Woke}
use Rattle.vd_packed_ring.proofs.Bells.{kick_stands}
use Rattle.vd_packed_ring.proofs.DeviceViews.{saw, saw_none, saw_again, sleeps, heard}

-- ---- Asleep

abbrev is_asleep : DeviceAct → Bool
is_asleep act.Asleep = true
is_asleep _ = false

not_asleep : (x : DeviceAct) → is_asleep x ≡ false → x ≡ act.Asleep → ⊥
not_asleep x off is = let e : false ≡ true = sym off ∙ ap is_asleep is in cc

look_no_sleep : (b : Bool) → is_asleep (if b then act.Moved else act.Nothing) ≡ false
look_no_sleep true = refl
look_no_sleep false = refl

take_no_sleep : (k : ℕ) (c : List Piece) (b : Bool) → is_asleep (if b then act.Taken k c else act.Moved) ≡ false
take_no_sleep k c true = refl
take_no_sleep k c false = refl

wakes_no_sleep : (b c : Bool) → is_asleep (if b then (if c then act.Awake else act.Moved) else act.Armed) ≡ false
wakes_no_sleep true true = refl
wakes_no_sleep true false = refl
wakes_no_sleep false c = refl

-- where a hearing answers Asleep, the bell is the one heard last
same_bell : (b c : Bool) → (if b then act.Asleep else (if c then act.Awake else act.Moved)) ≡ act.Asleep → b ≡ true
same_bell true c is = refl
same_bell false true is = absurd (not_asleep act.Awake refl is)
same_bell false false is = absurd (not_asleep act.Moved refl is)

asleep_at : (ws : List ℕ) (d : DriverView) (e : DeviceView) (now : DeviceNow) (o : Op) (a : Access)
    → Ring ws d (record e { frame = d.frame; doing = now }) → DeviceNextAt now (record e { frame = d.frame; doing = now }) o a
    → device_act_at now (record e { frame = d.frame; doing = now }) o a (answered ws a) ≡ act.Asleep
    → (device_after_at now (record e { frame = d.frame; doing = now }) o a (answered ws a) ≡ record e { frame = d.frame; doing = now })
    × DeviceWaits d (record e { frame = d.frame; doing = now })
asleep_at ws d e Idle op.Hear (Load p) r h is =
    let v : DeviceView = record e { frame = d.frame; doing = Idle } in let g : ℕ = slice_index ws p in
    let on : (g == e.heard) ≡ true = same_bell (g == e.heard) d.frame.features.event_idx is in
    let at : p ≡ kick_at d.frame = h.1 in
    let same : g ≡ e.heard = eqb-true g e.heard on in (
      ap (λ (b : Bool). if b then v else heard v g) on,
      record { idle = refl; at = h.0.0; armed = h.0.1; heard = sym same ∙ ap (λ (q : ℕ). slice_index ws q) at ∙ kick_stands ws d v r },
    )
asleep_at ws d e Idle op.Take (Load p) r h is =
    absurd (not_asleep _ (look_no_sleep (is_available d.frame.size (take_position d.frame e.done) (slice_index ws p))) is)
asleep_at ws d e (Taking (w ∷ us)) op.Take (Load p) r h is =
    let vs : List ℕ = w ∷ us ++ slice_index ws p ∷ [] in
    absurd (not_asleep _ (take_no_sleep (length (takes e.done)) (chain_of d.frame vs) (is_whole d.frame vs)) is)
asleep_at ws d e Idle op.Give (Store p x) r h is = absurd (not_asleep _ refl is)
asleep_at ws d e Arming op.Arm (Load p) r h is =
    absurd (not_asleep _ (wakes_no_sleep (is_available d.frame.size (take_position d.frame e.done) (slice_index ws p))
    d.frame.features.event_idx) is)
asleep_at ws d e (Disarming k) op.Arm (Store p x) r h is = absurd (not_asleep _ refl is)
asleep_at ws d e (Disarming k) op.Hear (Store p x) r h is = absurd (not_asleep _ refl is)
asleep_at ws d e Idle op.Disarm (Store p x) r h is = absurd (not_asleep _ refl is)
asleep_at ws d e Idle op.Disarm (Load p) r h is = absurd (not_asleep _ refl is)
asleep_at ws d e Resting op.Rest (Load p) r h is = absurd (not_asleep _ refl is)
asleep_at ws d e _ _ _ r h is = absurd (not_asleep act.Moved refl is)

pub device_asleep : (ws : List ℕ) (d : DriverView) (e : DeviceView) (o : Op) (a : Access) → Ring ws d e → DeviceNext e o a
    → device_act e o a (answered ws a) ≡ act.Asleep → (device_after e o a (answered ws a) ≡ e) × DeviceWaits d e
device_asleep ws d e o a r h is =
    subst (λ (f : Frame). Ring ws d (record e { frame = f }) → DeviceNext (record e { frame = f }) o a
    → device_act (record e { frame = f }) o a (answered ws a) ≡ act.Asleep
    → (device_after (record e { frame = f }) o a (answered ws a) ≡ record e { frame = f }) × DeviceWaits d (record e { frame = f }))
    (sym r.same) (asleep_at ws d e e.doing o a) r h is

-- ---- hearings

woke_otherwise : (b : Bool) → device_disarming (if b then Idle else Disarming op.Arm) ≡ 0
woke_otherwise true = refl
woke_otherwise false = refl

checked : (b : Bool) (old new : ℕ) → device_disarming (if b then Ringing old new else Idle) ≡ 0
checked true old new = refl
checked false old new = refl

either_hears : (n : ℕ) (b : Bool) (v w : DeviceView) → n ≤ device_hearings v → n ≤ device_hearings w
    → n ≤ device_hearings (if b then v else w)
either_hears n true v w x y = x
either_hears n false v w x y = y

heard_more : (e : DeviceView) (g : ℕ) (b c : Bool) → e.heard ≤ g → (g == e.heard) ≡ b
    → e.heard - 0 + device_woken op.Hear (if b then act.Asleep else (if c then act.Awake else act.Moved)) ≤ device_hearings
    (if b then record e { doing = Idle } else record e { heard = g; armed = None; doing = if c then Idle else Disarming op.Hear })
heard_more e g true c le is = omega arith
heard_more e g false true le is = let ne : g ≢ e.heard = eqb-false g e.heard is in omega (arith, ne)
heard_more e g false false le is = let ne : g ≢ e.heard = eqb-false g e.heard is in omega (arith, ne)

hears_at : (ws : List ℕ) (d : DriverView) (e : DeviceView) (now : DeviceNow) (o : Op) (a : Access)
    → Ring ws d (record e { frame = d.frame; doing = now }) → DeviceNextAt now (record e { frame = d.frame; doing = now }) o a
    → device_hearings (record e { frame = d.frame; doing = now })
    + device_woken o (device_act_at now (record e { frame = d.frame; doing = now }) o a (answered ws a)) ≤ device_hearings
    (device_after_at now (record e { frame = d.frame; doing = now }) o a (answered ws a))
hears_at ws d e Idle op.Hear (Load p) r h =
    let v : DeviceView = record e { frame = d.frame; doing = Idle } in let g : ℕ = slice_index ws p in
    let at : p ≡ kick_at d.frame = h.1 in
    let is : g ≡ d.bells = ap (λ (q : ℕ). slice_index ws q) at ∙ kick_stands ws d v r in
    heard_more v g (g == e.heard) d.frame.features.event_idx (omega (arith, r.kicks.heard)) refl
hears_at ws d e (Disarming k) op.Hear (Store p x) r h =
    subst (λ (j : Op). Woke j e.heard → e.heard - device_disarming (Disarming j) + 1 ≤ e.heard - 0) (sym h.0)
    (λ some. omega arith) r.device_armed.2
hears_at ws d e (Disarming k) op.Arm (Store p x) r h = omega arith
hears_at ws d e Arming op.Arm (Load p) r h =
    let v : DeviceView = record e { frame = d.frame; doing = Arming } in
    either_hears (e.heard - 0 + 0) (is_available d.frame.size (take_position d.frame e.done) (slice_index ws p)) (saw_again v)
    (sleeps v) (omega (arith, woke_otherwise d.frame.features.event_idx)) (omega arith)
hears_at ws d e (Checking old new) op.Give (Load p) r h = omega (arith, checked (asks d.frame old new (slice_index ws p)) old new)
hears_at ws d e Idle op.Take (Load p) r h =
    let v : DeviceView = record e { frame = d.frame; doing = Idle } in
    either_hears (e.heard - 0 + 0) (is_available d.frame.size (take_position d.frame e.done) (slice_index ws p))
    (saw v (slice_index ws p)) (saw_none v) (omega arith) (omega arith)
hears_at ws d e (Taking (w ∷ us)) op.Take (Load p) r h =
    let v : DeviceView = record e { frame = d.frame; doing = Taking (w ∷ us) } in let vs : List ℕ = w ∷ us ++ slice_index ws p ∷ [] in
    either_hears (e.heard - 0 + 0) (is_whole d.frame vs) (device_takes v vs) (record v { doing = Taking vs }) (omega arith) (omega arith)
hears_at ws d e Idle op.Give (Store p x) r h = omega arith
hears_at ws d e (Ringing old new) op.Give (Store p x) r h = omega arith
hears_at ws d e Idle op.Arm (Store p x) r h = omega arith
hears_at ws d e Idle op.Disarm (Store p x) r h = omega arith
hears_at ws d e Idle op.Disarm (Load p) r h = omega arith
hears_at ws d e Idle op.Rest (Store p x) r h = omega arith
hears_at ws d e Idle op.Rest (Load p) r h = omega arith
hears_at ws d e Resting op.Rest (Load p) r h = omega arith
hears_at ws d e Idle op.Control (Store p x) r h = omega arith
hears_at ws d e Idle op.Control (Load p) r h = omega arith
hears_at ws d e _ _ _ r h = absurd h

-- a hearing that ends with Awake has heard a bell more
pub device_hears : (ws : List ℕ) (d : DriverView) (e : DeviceView) (o : Op) (a : Access) → Ring ws d e → DeviceNext e o a
    → device_hearings e + device_woken o (device_act e o a (answered ws a)) ≤ device_hearings (device_after e o a (answered ws a))
device_hears ws d e o a r h =
    subst (λ (f : Frame). Ring ws d (record e { frame = f }) → DeviceNext (record e { frame = f }) o a
    → device_hearings (record e { frame = f }) + device_woken o (device_act (record e { frame = f }) o a (answered ws a))
    ≤ device_hearings (device_after (record e { frame = f }) o a (answered ws a)))
    (sym r.same) (hears_at ws d e e.doing o a) r h
