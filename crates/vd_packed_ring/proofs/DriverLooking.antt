-- Exactly when a step of the driver answers Nothing, Armed, Asleep or Awake.
use Rattle.std.proofs.Common.{◌≡◌, ℕ, ◌+◌, ◌==◌, Bool, true, false, None, List, [], ◌∷◌, ◌++◌, length, if◌then◌else◌, refl}
use Rattle.vd_words.specs.declared.access.Access.{Access}
use Rattle.vd_words.specs.declared.access.Access.TheVariants.{Load, Store}
use Rattle.vd_words.specs.declared.access.Op.{Op}
use Rattle.vd_words.specs.declared.access.Op.TheVariants as op
use Rattle.vd_ring.specs.declared.frame.Put.{Put}
use Rattle.vd_ring.specs.declared.act.DriverAct.TheVariants as act
use Rattle.vd_ring.specs.declared.driver.DriverNow.{DriverNow}
use Rattle.vd_ring.specs.declared.driver.DriverNow.TheVariants as now
use Rattle.vd_ring.specs.declared.driver.DriverView.{DriverView}
use Rattle.vd_ring.specs.History.{offers}
use Rattle.vd_ring.specs.Looks.{DriverLooks}
use Rattle.vd_ring.proofs.Looking.{At, idle, arming, busy, quiet, finds_none, finds_some, second_none, second_some, hears_same, hears_new, wakes, disarms, goes_on}
use Rattle.vd_ring.proofs.DriverLooking.{told, stage, driver_looks_by}
use Rattle.vd_packed_ring.specs.PackedWords.{second_word, put}
use Rattle.vd_packed_ring.specs.PackedSignals.{asks}
use Rattle.vd_packed_ring.specs.PackedPositions.{offer_position, collect_position, later}
use Rattle.vd_packed_ring.specs.PackedDriver.{driver_shows, DriverNextAt, driver_after_at, driver_act_at, driver_act, driver_side, driver_offers, driver_collects, stores, collect_act}

-- the look of a collect, which is the whole of it
looks : (v : DriverView) (r n : ℕ) (b same idx : Bool)
    → At true idle op.Collect b same idx (told (if b then collect_act (record v { doing = now.Idle }) r else act.Nothing))
    (stage (if b then driver_collects (record v { doing = now.Idle }) r else record v { doing = now.Idle; seen = n; shown = false }).doing)
looks v r n true same idx = finds_some true same idx idle refl
looks v r n false same idx = finds_none true same idx

-- the second look of an arming, and the load of the other side's bell; c is EVENT_IDX
second : (v : DriverView) (n m : ℕ) (b same c : Bool)
    → At true arming op.Arm b same c (told (if b then (if c then act.Awake else act.Moved) else act.Armed))
    (stage (if b then record v { seen = n; shown = true; armed = None; doing = if c then now.Idle else now.Disarming op.Arm } else
    record v { seen = m; shown = false; doing = now.Idle }).doing)
second v n m false same c = second_none true same c
second v n m true same true = second_some true same true
second v n m true same false = second_some true same false

hears : (v : DriverView) (r : ℕ) (more b c : Bool)
    → At true idle op.Hear more b c (told (if b then act.Asleep else (if c then act.Awake else act.Moved)))
    (stage (if b then record v { doing = now.Idle } else record v {
      heard = r;
      armed = None;
      doing =
          if c then now.Idle else now.Disarming op.Hear;
    }).doing)
hears v r more true c = hears_same true more c
hears v r more false true = hears_new true more true
hears v r more false false = hears_new true more false

checked_on : (old new : ℕ) (b : Bool) → goes_on (stage (if b then now.Ringing old new else now.Idle)) ≡ true
checked_on old new true = refl
checked_on old new false = refl

-- a store of an offer, by whether it is the last
stores_at : (v : DriverView) (puts : List Put) (p x : ℕ) (more same idx b : Bool)
    → At true busy op.Offer more same idx (told (if b then act.Offered (length (offers v.done)) else act.Moved))
    (stage (if b then driver_offers (record v { doing = now.Offering puts }) puts p x else stores
    (record v { doing = now.Offering puts }) p x
    (now.Offering (puts ++ put p x ∷ []))).doing)
stores_at v puts p x more same idx true = quiet true busy op.Offer more same idx busy refl refl
stores_at v puts p x more same idx false = quiet true busy op.Offer more same idx busy refl refl

-- ---- all accesses

-- what is claimed of an access from the view `v`
abbrev Looks : DriverNow → DriverView → Op → Access → ℕ → Type 0
Looks n v o a r = At true (stage n) o (driver_shows v r) (r == v.heard) v.frame.features.event_idx
    (told (driver_act_at n (record v { doing = n }) o a r)) (stage (driver_after_at n (record v { doing = n }) o a r).doing)

at : (n : DriverNow) (v : DriverView) (o : Op) (a : Access) (r : ℕ) → DriverNextAt n (record v { doing = n }) o a → Looks n v o a r
at now.Idle v op.Collect (Load p) r h = looks v r (later v.seen (collect_position v.frame v.done)) (driver_shows v r) _ _
at now.Arming v op.Arm (Load p) r h =
    second v (later v.seen (collect_position v.frame v.done + 1)) (later v.seen (collect_position v.frame v.done))
    (driver_shows v r) _ v.frame.features.event_idx
at now.Idle v op.Hear (Load p) r h = hears v r _ (r == v.heard) v.frame.features.event_idx
at (now.Disarming k) v op.Arm (Store p x) r h = wakes true k op.Arm _ _ _ h.0
at (now.Disarming k) v op.Hear (Store p x) r h = wakes true k op.Hear _ _ _ h.0
at now.Idle v op.Disarm (Store p x) r h = disarms true _ _ _
at now.Idle v op.Disarm (Load p) r h = disarms true _ _ _
at now.Idle v op.Arm (Store p x) r h = quiet true idle op.Arm _ _ _ arming refl refl
at now.Idle v op.Control (Store p x) r h = quiet true idle op.Control _ _ _ idle refl refl
at now.Idle v op.Control (Load p) r h = quiet true idle op.Control _ _ _ idle refl refl
at now.Idle v op.Offer (Store p x) r h = quiet true idle op.Offer _ _ _ busy refl refl
at (now.Ringing old new) v op.Offer (Store p x) r h = quiet true busy op.Offer _ _ _ idle refl refl
at (now.Offering puts) v op.Offer (Store p x) r h =
    stores_at v puts p x _ _ _ (p == second_word v.frame.size (offer_position v.frame v.done))
at (now.Checking old new) v op.Offer (Load p) r h = quiet true busy op.Offer _ _ _ _ refl (checked_on old new (asks v.frame old new r))
at _ v _ _ r h = absurd h

pub driver_looks : DriverLooks driver_side driver_act driver_shows
driver_looks = driver_looks_by driver_side driver_act driver_shows (λ v o a r n. at v.doing v o a r n)
