-- Exactly when a step of the device answers Nothing, Armed, Asleep or Awake.
use Rattle.std.proofs.Common.{◌≡◌, ℕ, ◌%◌, ◌==◌, Bool, true, false, not, None, List, [], ◌∷◌, ◌++◌, length, if◌then◌else◌, refl}
use Rattle.vd_words.specs.declared.access.Access.{Access}
use Rattle.vd_words.specs.declared.access.Access.TheVariants.{Load, Store}
use Rattle.vd_words.specs.declared.access.Op.{Op}
use Rattle.vd_words.specs.declared.access.Op.TheVariants as op
use Rattle.vd_bits.specs.Lanes.{lane16}
use Rattle.vd_ring.specs.declared.act.DeviceAct.TheVariants as act
use Rattle.vd_ring.specs.declared.device.DeviceNow.{DeviceNow}
use Rattle.vd_ring.specs.declared.device.DeviceNow.TheVariants as now
use Rattle.vd_ring.specs.declared.device.DeviceView.{DeviceView}
use Rattle.vd_ring.specs.History.{takes}
use Rattle.vd_ring.specs.Looks.{DeviceLooks}
use Rattle.vd_ring.proofs.Looking.{At, idle, arming, busy, quiet, finds_none, finds_some, second_none, second_some, hears_same, hears_new, wakes, disarms, goes_on}
use Rattle.vd_ring.proofs.DeviceLooking.{told, stage, device_looks_by}
use Rattle.vd_split_ring.specs.SplitWords.{shows, shown_from, wants, driver_event_lane, chain_of, is_whole}
use Rattle.vd_split_ring.specs.SplitDevice.{device_shows, DeviceNextAt, device_after_at, device_act_at, device_act, device_side, device_takes}

-- the look of a take
looks : (v : DeviceView) (r n : ℕ) (b same idx : Bool)
    → At false idle op.Take (not b) same idx (told (if b then act.Nothing else act.Moved))
    (stage (if b then record v { doing = now.Idle; seen = n; shown = false } else record v {
      seen = n;
      shown = true;
      doing =
          now.Taking (r ∷ []);
    }).doing)
looks v r n true same idx = finds_none false same idx
looks v r n false same idx = finds_some false same idx busy refl

-- the second look of an arming, and the load of the other side's bell; c is EVENT_IDX
second : (v : DeviceView) (n : ℕ) (b same c : Bool)
    → At false arming op.Arm (not b) same c (told (if b then act.Armed else (if c then act.Awake else act.Moved)))
    (stage (if b then record v { seen = n; shown = false; doing = now.Idle } else record v {
      seen = n;
      shown = true;
      armed = None;
      doing = if c then now.Idle else now.Disarming op.Arm;
    }).doing)
second v n true same c = second_none false same c
second v n false same true = second_some false same true
second v n false same false = second_some false same false

hears : (v : DeviceView) (r : ℕ) (more b c : Bool)
    → At false idle op.Hear more b c (told (if b then act.Asleep else (if c then act.Awake else act.Moved)))
    (stage (if b then record v { doing = now.Idle } else record v {
      heard = r;
      armed = None;
      doing =
          if c then now.Idle else now.Disarming op.Hear;
    }).doing)
hears v r more true c = hears_same false more c
hears v r more false true = hears_new false more true
hears v r more false false = hears_new false more false

checked_on : (old new : ℕ) (b : Bool) → goes_on (stage (if b then now.Ringing old new else now.Idle)) ≡ true
checked_on old new true = refl
checked_on old new false = refl

-- a load of a chain's word
takes_at : (v : DeviceView) (g w : ℕ) (ws : List ℕ) (us : List ℕ) (more same idx b : Bool)
    → At false busy op.Take more same idx (told (if b then act.Taken (length (takes v.done)) (chain_of v.frame ws) else act.Moved))
    (stage (if b then device_takes (record v { doing = now.Taking (g ∷ w ∷ us) }) g w ws else record v {
      doing =
          now.Taking (g ∷ w ∷ ws);
    }).doing)
takes_at v g w ws us more same idx true = quiet false busy op.Take more same idx idle refl refl
takes_at v g w ws us more same idx false = quiet false busy op.Take more same idx busy refl refl

-- ---- all accesses

-- what is claimed of an access from the view `v`
abbrev Looks : DeviceNow → DeviceView → Op → Access → ℕ → Type 0
Looks n v o a r = At false (stage n) o (device_shows v r) (r == v.heard) v.frame.features.event_idx
    (told (device_act_at n (record v { doing = n }) o a r)) (stage (device_after_at n (record v { doing = n }) o a r).doing)

at : (n : DeviceNow) (v : DeviceView) (o : Op) (a : Access) (r : ℕ) → DeviceNextAt n (record v { doing = n }) o a → Looks n v o a r
at now.Idle v op.Take (Load p) r h = looks v r (shown_from r (length (takes v.done))) (shows r (length (takes v.done))) _ _
at now.Arming v op.Arm (Load p) r h =
    second v (shown_from r (length (takes v.done))) (shows r (length (takes v.done))) _ v.frame.features.event_idx
at now.Idle v op.Hear (Load p) r h = hears v r _ (r == v.heard) v.frame.features.event_idx
at (now.Disarming k) v op.Arm (Store p x) r h = wakes false k op.Arm _ _ _ h.0
at (now.Disarming k) v op.Hear (Store p x) r h = wakes false k op.Hear _ _ _ h.0
at now.Idle v op.Disarm (Store p x) r h = disarms false _ _ _
at now.Idle v op.Disarm (Load p) r h = disarms false _ _ _
at now.Idle v op.Arm (Store p x) r h = quiet false idle op.Arm _ _ _ arming refl refl
at now.Idle v op.Control (Store p x) r h = quiet false idle op.Control _ _ _ idle refl refl
at now.Idle v op.Control (Load p) r h = quiet false idle op.Control _ _ _ idle refl refl
at now.Idle v op.Give (Store p x) r h = quiet false idle op.Give _ _ _ busy refl refl
at (now.Giving (a ∷ [])) v op.Give (Store p x) r h = quiet false busy op.Give _ _ _ busy refl refl
at (now.Giving (a ∷ b ∷ [])) v op.Give (Store p x) r h = quiet false busy op.Give _ _ _ busy refl refl
at (now.Checking old new) v op.Give (Load p) r h = quiet false busy op.Give _ _ _ _ refl
    (checked_on old new (wants v.frame old new (lane16 r (driver_event_lane v.frame % 4))))
at (now.Ringing old new) v op.Give (Store p x) r h = quiet false busy op.Give _ _ _ idle refl refl
at now.Idle v op.Rest (Store p x) r h = quiet false idle op.Rest _ _ _ busy refl refl
at now.Idle v op.Rest (Load p) r h = quiet false idle op.Rest _ _ _ busy refl refl
at now.Resting v op.Rest (Load p) r h = quiet false busy op.Rest _ _ _ idle refl refl
at (now.Taking (g ∷ [])) v op.Take (Load p) r h = quiet false busy op.Take _ _ _ busy refl refl
at (now.Taking (g ∷ w ∷ us)) v op.Take (Load p) r h = takes_at v g w (us ++ r ∷ []) us _ _ _ (is_whole v.frame (us ++ r ∷ []))
at _ v _ _ r h = absurd h

pub device_looks : DeviceLooks device_side device_act device_shows
device_looks = device_looks_by device_side device_act device_shows (λ v o a r n. at v.doing v o a r n)
