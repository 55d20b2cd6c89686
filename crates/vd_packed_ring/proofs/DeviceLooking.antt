-- Exactly when a step of the device answers Nothing, Armed, Asleep or Awake.
use Rattle.std.proofs.Common.{◌≡◌, ℕ, ◌+◌, ◌==◌, Bool, true, false, None, List, [], ◌∷◌, ◌++◌, length, if◌then◌else◌, refl}
use Rattle.vd_words.specs.declared.access.Access.{Access}
use Rattle.vd_words.specs.declared.access.Access.TheVariants.{Load, Store}
use Rattle.vd_words.specs.declared.access.Op.{Op}
use Rattle.vd_words.specs.declared.access.Op.TheVariants as op
use Rattle.vd_ring.specs.declared.act.DeviceAct.TheVariants as act
use Rattle.vd_ring.specs.declared.device.DeviceNow.{DeviceNow}
use Rattle.vd_ring.specs.declared.device.DeviceNow.TheVariants as now
use Rattle.vd_ring.specs.declared.device.DeviceView.{DeviceView}
use Rattle.vd_ring.specs.History.{takes}
use Rattle.vd_ring.specs.Looks.{DeviceLooks}
use Rattle.vd_ring.proofs.Looking.{At, idle, arming, busy, quiet, finds_none, finds_some, second_none, second_some, hears_same, hears_new, wakes, disarms, goes_on}
use Rattle.vd_ring.proofs.DeviceLooking.{told, stage, device_looks_by}
use Rattle.vd_packed_ring.specs.PackedChains.{is_whole, chain_of}
use Rattle.vd_packed_ring.specs.PackedSignals.{asks}
use Rattle.vd_packed_ring.specs.PackedPositions.{take_position, later}
use Rattle.vd_packed_ring.specs.PackedDevice.{device_shows, DeviceNextAt, device_after_at, device_act_at, device_act, device_side, device_takes}

-- the look of a take
looks : (v : DeviceView) (r n m : ℕ) (b same idx : Bool) → At false idle op.Take b same idx (told (if b then act.Moved else act.Nothing))
    (stage (if b then record v { seen = n; shown = true; doing = now.Taking (r ∷ []) } else record v {
      doing = now.Idle;
      seen = m;
      shown = false;
    }).doing)
looks v r n m true same idx = finds_some false same idx busy refl
looks v r n m false same idx = finds_none false same idx

-- the second look of an arming, and the load of the other side's bell; c is EVENT_IDX
second : (v : DeviceView) (n m : ℕ) (b same c : Bool)
    → At false arming op.Arm b same c (told (if b then (if c then act.Awake else act.Moved) else act.Armed))
    (stage (if b then record v { seen = n; shown = true; armed = None; doing = if c then now.Idle else now.Disarming op.Arm } else
    record v { seen = m; shown = false; doing = now.Idle }).doing)
second v n m false same c = second_none false same c
second v n m true same true = second_some false same true
second v n m true same false = second_some false same false

hears : (v : DeviceView) (r : ℕ) (more b c : Bool)
    → At false idle op.Hear more b c (told (if b then act.Asleep else (if c then act.Awake else act.Moved)))
    (stage (if b then record v { doing = now.Idle } else record v {
      heard = r;
      armed = None;
      doing =
          if c then now.Idle else now.Disarming op.Hear;
    }).doing)
hears v r more true c = hears_same false more c
hears v r more false true = hears_new false more true
hears v r more false false = hears_new false more false

checked_on : (old new : ℕ) (b : Bool) → goes_on (stage (if b then now.Ringing old new else now.Idle)) ≡ true
checked_on old new true = refl
checked_on old new false = refl

-- a load of a chain's word
takes_at : (v : DeviceView) (w : ℕ) (ws : List ℕ) (us : List ℕ) (more same idx b : Bool)
    → At false busy op.Take more same idx (told (if b then act.Taken (length (takes v.done)) (chain_of v.frame ws) else act.Moved))
    (stage (if b then device_takes (record v { doing = now.Taking (w ∷ us) }) ws else record v { doing = now.Taking ws }).doing)
takes_at v w ws us more same idx true = quiet false busy op.Take more same idx idle refl refl
takes_at v w ws us more same idx false = quiet false busy op.Take more same idx busy refl refl

-- ---- all accesses

-- what is claimed of an access from the view `v`
abbrev Looks : DeviceNow → DeviceView → Op → Access → ℕ → Type 0
Looks n v o a r = At false (stage n) o (device_shows v r) (r == v.heard) v.frame.features.event_idx
    (told (device_act_at n (record v { doing = n }) o a r)) (stage (device_after_at n (record v { doing = n }) o a r).doing)

at : (n : DeviceNow) (v : DeviceView) (o : Op) (a : Access) (r : ℕ) → DeviceNextAt n (record v { doing = n }) o a → Looks n v o a r
at now.Idle v op.Take (Load p) r h =
    looks v r (later v.seen (take_position v.frame v.done + 1)) (later v.seen (take_position v.frame v.done)) (device_shows v r) _ _
at now.Arming v op.Arm (Load p) r h =
    second v (later v.seen (take_position v.frame v.done + 1)) (later v.seen (take_position v.frame v.done))
    (device_shows v r) _ v.frame.features.event_idx
at now.Idle v op.Hear (Load p) r h = hears v r _ (r == v.heard) v.frame.features.event_idx
at (now.Disarming k) v op.Arm (Store p x) r h = wakes false k op.Arm _ _ _ h.0
at (now.Disarming k) v op.Hear (Store p x) r h = wakes false k op.Hear _ _ _ h.0
at now.Idle v op.Disarm (Store p x) r h = disarms false _ _ _
at now.Idle v op.Disarm (Load p) r h = disarms false _ _ _
at now.Idle v op.Arm (Store p x) r h = quiet false idle op.Arm _ _ _ arming refl refl
at now.Idle v op.Control (Store p x) r h = quiet false idle op.Control _ _ _ idle refl refl
at now.Idle v op.Control (Load p) r h = quiet false idle op.Control _ _ _ idle refl refl
at now.Idle v op.Give (Store p x) r h = quiet false idle op.Give _ _ _ busy refl refl
at (now.Checking old new) v op.Give (Load p) r h = quiet false busy op.Give _ _ _ _ refl (checked_on old new (asks v.frame old new r))
at (now.Ringing old new) v op.Give (Store p x) r h = quiet false busy op.Give _ _ _ idle refl refl
at now.Idle v op.Rest (Store p x) r h = quiet false idle op.Rest _ _ _ busy refl refl
at now.Idle v op.Rest (Load p) r h = quiet false idle op.Rest _ _ _ busy refl refl
at now.Resting v op.Rest (Load p) r h = quiet false busy op.Rest _ _ _ idle refl refl
at (now.Taking (w ∷ us)) v op.Take (Load p) r h = takes_at v w (w ∷ us ++ r ∷ []) us _ _ _ (is_whole v.frame (w ∷ us ++ r ∷ []))
at _ v _ _ r h = absurd h

pub device_looks : DeviceLooks device_side device_act device_shows
device_looks = device_looks_by device_side device_act device_shows (λ v o a r n. at v.doing v o a r n)
