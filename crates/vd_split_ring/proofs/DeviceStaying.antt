-- What stays from one access of the device to the next: armed, asleep, awake, shown.
use Rattle.std.proofs.Common.{◌≡◌, ℕ, ◌==◌, Bool, true, false, not, None, List, [], ◌∷◌, ◌++◌, length, if◌then◌else◌, refl, ap}
use Rattle.vd_words.specs.declared.access.Access.{Access}
use Rattle.vd_words.specs.declared.access.Access.TheVariants.{Load, Store}
use Rattle.vd_words.specs.declared.access.Op.{Op}
use Rattle.vd_words.specs.declared.access.Op.TheVariants as op
use Rattle.vd_ring.specs.declared.act.DeviceAct.{DeviceAct}
use Rattle.vd_ring.specs.declared.act.DeviceAct.TheVariants as act
use Rattle.vd_ring.specs.declared.device.DeviceNow.{DeviceNow}
use Rattle.vd_ring.specs.declared.device.DeviceNow.TheVariants as now
use Rattle.vd_ring.specs.declared.device.DeviceView.{DeviceView}
use Rattle.vd_ring.specs.History.{takes}
use Rattle.vd_ring.specs.Looks.{DeviceStays}
use Rattle.vd_ring.proofs.Looking.{idle, disarming, busy, other}
use Rattle.vd_ring.proofs.Staying.{Kept, quiet, wakes, finds_none, finds_some, second_none, second_wakes, second_some, arms_at, hears_same}
use Rattle.vd_ring.proofs.DeviceLooking.{told, stage, goes, device_stays_by}
use Rattle.vd_split_ring.specs.SplitWords.{shows, shown_from, chain_of, is_whole}
use Rattle.vd_split_ring.specs.SplitDevice.{device_shows, DeviceNextAt, DeviceTells, device_after_at, device_act_at, device_act, device_side, device_takes}

-- what is claimed of an access that is answered `x` and leaves the view `w`
abbrev Claim : DeviceNow → DeviceView → Op → Type 0 → Bool → DeviceAct → DeviceView → Type 0
Claim n v o tells more x w =
    Kept false (stage n) o tells more (told x) (goes x) (record v { doing = n }) w v.armed w.armed v.shown w.shown (stage w.doing)

-- the look of a take: `b` says that it shows nothing
looks : (v : DeviceView) (r n : ℕ) (tells : Type 0) (b : Bool) → (tells → v.shown ≡ true → b ≡ false)
    → Claim now.Idle v op.Take tells (not b) (if b then act.Nothing else act.Moved)
    (if b then record v { seen = n; shown = false; doing = now.Idle } else record v {
      seen = n;
      shown = true;
      doing =
          now.Taking (r ∷ []);
    })
looks v r n tells true t = finds_none false tells _ _ _ _ _ _ _ (λ x s. ap not (t x s))
looks v r n tells false t = finds_some false tells true _ _ _ _ _ _ _ (λ g. refl)

-- the second look of an arming; c is EVENT_IDX
second : (v : DeviceView) (n : ℕ) (tells : Type 0) (b c : Bool) → (tells → v.shown ≡ true → b ≡ false)
    → Claim now.Arming v op.Arm tells (not b) (if b then act.Armed else (if c then act.Awake else act.Moved))
    (if b then record v { seen = n; shown = false; doing = now.Idle } else record v {
      seen = n;
      shown = true;
      armed = None;
      doing =
          if c then now.Idle else now.Disarming op.Arm;
    })
second v n tells true c t = second_none false tells _ _ _ _ _ _ (λ x s. ap not (t x s))
second v n tells false true t = second_wakes false tells true _ _ _ _ _
second v n tells false false t = second_some false tells true _ _ _ _ _ _

-- a look at the bell
hears : (v : DeviceView) (r : ℕ) (tells : Type 0) (more b c : Bool)
    → Claim now.Idle v op.Hear tells more (if b then act.Asleep else (if c then act.Awake else act.Moved))
    (if b then record v { doing = now.Idle } else record v {
      heard = r;
      armed = None;
      doing =
          if c then now.Idle else now.Disarming op.Hear;
    })
hears v r tells more true c = hears_same false tells more _ _ _ _
hears v r tells more false true = wakes false idle op.Hear tells more true _ _ _ _ _ refl
hears v r tells more false false = quiet false idle op.Hear tells more other true _ _ _ _ _ _ _ refl refl (λ g. refl)

-- a load of a chain's word
takes_at : (v : DeviceView) (g w : ℕ) (ws us : List ℕ) (tells : Type 0) (more b : Bool)
    → Claim (now.Taking (g ∷ w ∷ us)) v op.Take tells more
    (if b then act.Taken (length (takes v.done)) (chain_of v.frame ws) else act.Moved)
    (if b then device_takes (record v { doing = now.Taking (g ∷ w ∷ us) }) g w ws else record v { doing = now.Taking (g ∷ w ∷ ws) })
takes_at v g w ws us tells more true = quiet false busy op.Take tells more other false _ _ _ _ _ _ _ refl refl (λ g. cc g)
takes_at v g w ws us tells more false = quiet false busy op.Take tells more other true _ _ _ _ _ _ _ refl refl (λ g. refl)

-- what a look tells
take_shown : (v : DeviceView) (p r : ℕ) → DeviceTells (record v { doing = now.Idle }) op.Take (Load p) r → v.shown ≡ true
    → shows r (length (takes v.done)) ≡ false
take_shown v p r (k, (a, b, c)) s = c s

arm_shown : (v : DeviceView) (p r : ℕ) → DeviceTells (record v { doing = now.Arming }) op.Arm (Load p) r → v.shown ≡ true
    → shows r (length (takes v.done)) ≡ false
arm_shown v p r (k, (a, b, c)) s = c s

-- ---- all accesses

at : (n : DeviceNow) (v : DeviceView) (o : Op) (a : Access) (r : ℕ) → DeviceNextAt n (record v { doing = n }) o a
    → Claim n v o (DeviceTells (record v { doing = n }) o a r) (device_shows v r) (device_act_at n (record v { doing = n }) o a r)
    (device_after_at n (record v { doing = n }) o a r)
at now.Idle v op.Take (Load p) r h =
    looks v r (shown_from r (length (takes v.done))) _ (shows r (length (takes v.done))) (λ t s. take_shown v p r t s)
at now.Arming v op.Arm (Load p) r h =
    second v (shown_from r (length (takes v.done))) _ (shows r (length (takes v.done))) v.frame.features.event_idx
    (λ t s. arm_shown v p r t s)
at now.Idle v op.Hear (Load p) r h = hears v r _ _ (r == v.heard) v.frame.features.event_idx
at now.Idle v op.Arm (Store p x) r h = arms_at false _ _ true _ _ _ (length (takes v.done)) _
at (now.Disarming k) v op.Arm (Store p x) r h = wakes false (disarming k) op.Arm _ _ true _ _ _ _ _ refl
at (now.Disarming k) v op.Hear (Store p x) r h = wakes false (disarming k) op.Hear _ _ true _ _ _ _ _ refl
at now.Idle v op.Disarm (Store p x) r h = wakes false idle op.Disarm _ _ true _ _ _ _ _ refl
at now.Idle v op.Disarm (Load p) r h = wakes false idle op.Disarm _ _ true _ _ _ _ _ refl
at now.Idle v op.Control (Store p x) r h = quiet false idle op.Control _ _ other true _ _ _ _ _ _ _ refl refl (λ g. refl)
at now.Idle v op.Control (Load p) r h = quiet false idle op.Control _ _ other true _ _ _ _ _ _ _ refl refl (λ g. refl)
at now.Idle v op.Rest (Store p x) r h = quiet false idle op.Rest _ _ other true _ _ _ _ _ _ _ refl refl (λ g. refl)
at now.Idle v op.Rest (Load p) r h = quiet false idle op.Rest _ _ other true _ _ _ _ _ _ _ refl refl (λ g. refl)
at now.Resting v op.Rest (Load p) r h = quiet false busy op.Rest _ _ other false _ _ _ _ _ _ _ refl refl (λ g. refl)
at now.Idle v op.Give (Store p x) r h = quiet false idle op.Give _ _ other true _ _ _ _ _ _ _ refl refl (λ g. refl)
at (now.Giving (a ∷ [])) v op.Give (Store p x) r h = quiet false busy op.Give _ _ other true _ _ _ _ _ _ _ refl refl (λ g. refl)
at (now.Giving (a ∷ b ∷ [])) v op.Give (Store p x) r h = quiet false busy op.Give _ _ other false _ _ _ _ _ _ _ refl refl (λ g. refl)
at (now.Checking old new) v op.Give (Load p) r h = quiet false busy op.Give _ _ other true _ _ _ _ _ _ _ refl refl (λ g. refl)
at (now.Ringing old new) v op.Give (Store p x) r h = quiet false busy op.Give _ _ other true _ _ _ _ _ _ _ refl refl (λ g. refl)
at (now.Taking (g ∷ [])) v op.Take (Load p) r h = quiet false busy op.Take _ _ other true _ _ _ _ _ _ _ refl refl (λ g. refl)
at (now.Taking (g ∷ w ∷ us)) v op.Take (Load p) r h = takes_at v g w (us ++ r ∷ []) us _ _ (is_whole v.frame (us ++ r ∷ []))
at _ v _ _ r h = absurd h

pub device_stays : DeviceStays device_side device_act device_shows
device_stays = device_stays_by device_side device_act device_shows (λ v o a r n. at v.doing v o a r n)
