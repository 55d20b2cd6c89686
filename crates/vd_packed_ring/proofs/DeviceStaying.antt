-- What stays from one access of the device to the next: armed, asleep, awake, shown.
use Rattle.std.proofs.Common.{◌≡◌, ℕ, ◌+◌, ◌==◌, Bool, true, false, None, List, [], ◌∷◌, ◌++◌, length, if◌then◌else◌, refl}
use Rattle.vd_words.specs.declared.access.Access.{Access}
use Rattle.vd_words.specs.declared.access.Access.TheVariants.{Load, Store}
use Rattle.vd_words.specs.declared.access.Op.{Op}
use Rattle.vd_words.specs.declared.access.Op.TheVariants as op
use Rattle.vd_ring.specs.declared.act.DeviceAct.{DeviceAct}
use Rattle.vd_ring.specs.declared.act.DeviceAct.TheVariants as act
use Rattle.vd_ring.specs.declared.device.DeviceNow.{DeviceNow}
use Rattle.vd_ring.specs.declared.device.DeviceNow.TheVariants as now
use Rattle.vd_ring.specs.declared.device.DeviceView.{DeviceView}
use Rattle.vd_ring.specs.History.{takes}
use Rattle.vd_ring.specs.Looks.{DeviceStays}
use Rattle.vd_ring.proofs.Looking.{idle, disarming, busy, other}
use Rattle.vd_ring.proofs.Staying.{Kept, quiet, wakes, finds_none, finds_some, second_none, second_wakes, second_some, arms_at, hears_same}
use Rattle.vd_ring.proofs.DeviceLooking.{told, stage, goes, device_stays_by}
use Rattle.vd_packed_ring.specs.PackedChains.{is_whole, chain_of}
use Rattle.vd_packed_ring.specs.PackedPositions.{take_position, later}
use Rattle.vd_packed_ring.specs.PackedDevice.{device_shows, DeviceNextAt, DeviceTells, device_after_at, device_act_at, device_act, device_side, device_takes}

-- what is claimed of an access that is answered `x` and leaves the view `w`
abbrev Claim : DeviceNow → DeviceView → Op → Type 0 → Bool → DeviceAct → DeviceView → Type 0
Claim n v o tells more x w =
    Kept false (stage n) o tells more (told x) (goes x) (record v { doing = n }) w v.armed w.armed v.shown w.shown (stage w.doing)

-- the look of a take: `b` says that it shows a chain
looks : (v : DeviceView) (r n m : ℕ) (tells : Type 0) (b : Bool) → (tells → v.shown ≡ true → b ≡ true)
    → Claim now.Idle v op.Take tells b (if b then act.Moved else act.Nothing)
    (if b then record v { seen = n; shown = true; doing = now.Taking (r ∷ []) } else record v {
      seen = m;
      shown = false;
      doing =
          now.Idle;
    })
looks v r n m tells true t = finds_some false tells true _ _ _ _ _ _ _ (λ g. refl)
looks v r n m tells false t = finds_none false tells _ _ _ _ _ _ _ t

-- the second look of an arming; c is EVENT_IDX
second : (v : DeviceView) (n m : ℕ) (tells : Type 0) (b c : Bool) → (tells → v.shown ≡ true → b ≡ true)
    → Claim now.Arming v op.Arm tells b (if b then (if c then act.Awake else act.Moved) else act.Armed)
    (if b then record v { seen = n; shown = true; armed = None; doing = if c then now.Idle else now.Disarming op.Arm } else record v
    { seen = m; shown = false; doing = now.Idle })
second v n m tells false c t = second_none false tells _ _ _ _ _ _ t
second v n m tells true true t = second_wakes false tells true _ _ _ _ _
second v n m tells true false t = second_some false tells true _ _ _ _ _ _

-- a look at the bell
hears : (v : DeviceView) (r : ℕ) (tells : Type 0) (more b c : Bool)
    → Claim now.Idle v op.Hear tells more (if b then act.Asleep else (if c then act.Awake else act.Moved))
    (if b then record v { doing = now.Idle } else record v {
      heard = r;
      armed = None;
      doing =
          if c then now.Idle else now.Disarming op.Hear;
    })
hears v r tells more true c = hears_same false tells more _ _ _ _
hears v r tells more false true = wakes false idle op.Hear tells more true _ _ _ _ _ refl
hears v r tells more false false = quiet false idle op.Hear tells more other true _ _ _ _ _ _ _ refl refl (λ g. refl)

-- a load of a chain's word
takes_at : (v : DeviceView) (w : ℕ) (ws us : List ℕ) (tells : Type 0) (more b : Bool)
    → Claim (now.Taking (w ∷ us)) v op.Take tells more (if b then act.Taken (length (takes v.done)) (chain_of v.frame ws) else act.Moved)
    (if b then device_takes (record v { doing = now.Taking (w ∷ us) }) ws else record v { doing = now.Taking ws })
takes_at v w ws us tells more true = quiet false busy op.Take tells more other false _ _ _ _ _ _ _ refl refl (λ g. cc g)
takes_at v w ws us tells more false = quiet false busy op.Take tells more other true _ _ _ _ _ _ _ refl refl (λ g. refl)

-- what a look tells
take_shown : (v : DeviceView) (p r : ℕ) → DeviceTells (record v { doing = now.Idle }) op.Take (Load p) r → v.shown ≡ true
    → device_shows v r ≡ true
take_shown v p r (k, (a, (b, c))) s = b s

arm_shown : (v : DeviceView) (p r : ℕ) → DeviceTells (record v { doing = now.Arming }) op.Arm (Load p) r → v.shown ≡ true
    → device_shows v r ≡ true
arm_shown v p r (k, (a, (b, c))) s = b s

-- ---- all accesses

at : (n : DeviceNow) (v : DeviceView) (o : Op) (a : Access) (r : ℕ) → DeviceNextAt n (record v { doing = n }) o a
    → Claim n v o (DeviceTells (record v { doing = n }) o a r) (device_shows v r) (device_act_at n (record v { doing = n }) o a r)
    (device_after_at n (record v { doing = n }) o a r)
at now.Idle v op.Take (Load p) r h = looks v r (later v.seen (take_position v.frame v.done + 1))
    (later v.seen (take_position v.frame v.done)) _ (device_shows v r) (λ t s. take_shown v p r t s)
at now.Arming v op.Arm (Load p) r h = second v (later v.seen (take_position v.frame v.done + 1))
    (later v.seen (take_position v.frame v.done)) _ (device_shows v r) v.frame.features.event_idx (λ t s. arm_shown v p r t s)
at now.Idle v op.Hear (Load p) r h = hears v r _ _ (r == v.heard) v.frame.features.event_idx
at now.Idle v op.Arm (Store p x) r h = arms_at false _ _ true _ _ _ (take_position v.frame v.done) _
at (now.Disarming k) v op.Arm (Store p x) r h = wakes false (disarming k) op.Arm _ _ true _ _ _ _ _ refl
at (now.Disarming k) v op.Hear (Store p x) r h = wakes false (disarming k) op.Hear _ _ true _ _ _ _ _ refl
at now.Idle v op.Disarm (Store p x) r h = wakes false idle op.Disarm _ _ true _ _ _ _ _ refl
at now.Idle v op.Disarm (Load p) r h = wakes false idle op.Disarm _ _ true _ _ _ _ _ refl
at now.Idle v op.Control (Store p x) r h = quiet false idle op.Control _ _ other true _ _ _ _ _ _ _ refl refl (λ g. refl)
at now.Idle v op.Control (Load p) r h = quiet false idle op.Control _ _ other true _ _ _ _ _ _ _ refl refl (λ g. refl)
at now.Idle v op.Rest (Store p x) r h = quiet false idle op.Rest _ _ other true _ _ _ _ _ _ _ refl refl (λ g. refl)
at now.Idle v op.Rest (Load p) r h = quiet false idle op.Rest _ _ other true _ _ _ _ _ _ _ refl refl (λ g. refl)
at now.Resting v op.Rest (Load p) r h = quiet false busy op.Rest _ _ other false _ _ _ _ _ _ _ refl refl (λ g. refl)
at now.Idle v op.Give (Store p x) r h = quiet false idle op.Give _ _ other false _ _ _ _ _ _ _ refl refl (λ g. refl)
at (now.Checking old new) v op.Give (Load p) r h = quiet false busy op.Give _ _ other true _ _ _ _ _ _ _ refl refl (λ g. refl)
at (now.Ringing old new) v op.Give (Store p x) r h = quiet false busy op.Give _ _ other true _ _ _ _ _ _ _ refl refl (λ g. refl)
at (now.Taking (w ∷ us)) v op.Take (Load p) r h = takes_at v w (w ∷ us ++ r ∷ []) us _ _ (is_whole v.frame (w ∷ us ++ r ∷ []))
at _ v _ _ r h = absurd h

pub device_stays : DeviceStays device_side device_act device_shows
device_stays = device_stays_by device_side device_act device_shows (λ v o a r n. at v.doing v o a r n)
