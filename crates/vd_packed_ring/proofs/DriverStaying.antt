-- What stays from one access of the driver to the next: armed, asleep, awake, shown.
use Rattle.std.proofs.Common.{◌≡◌, ℕ, ◌+◌, ◌==◌, Bool, true, false, None, List, [], ◌∷◌, ◌++◌, length, if◌then◌else◌, refl}
use Rattle.vd_words.specs.declared.access.Access.{Access}
use Rattle.vd_words.specs.declared.access.Access.TheVariants.{Load, Store}
use Rattle.vd_words.specs.declared.access.Op.{Op}
use Rattle.vd_words.specs.declared.access.Op.TheVariants as op
use Rattle.vd_ring.specs.declared.frame.Put.{Put}
use Rattle.vd_ring.specs.declared.act.DriverAct.{DriverAct}
use Rattle.vd_ring.specs.declared.act.DriverAct.TheVariants as act
use Rattle.vd_ring.specs.declared.driver.DriverNow.{DriverNow}
use Rattle.vd_ring.specs.declared.driver.DriverNow.TheVariants as now
use Rattle.vd_ring.specs.declared.driver.DriverView.{DriverView}
use Rattle.vd_ring.specs.History.{offers}
use Rattle.vd_ring.specs.Looks.{DriverStays}
use Rattle.vd_ring.proofs.Looking.{idle, disarming, busy, other}
use Rattle.vd_ring.proofs.Staying.{Kept, quiet, wakes, finds_none, finds_some, second_none, second_wakes, second_some, arms_at, hears_same}
use Rattle.vd_ring.proofs.DriverLooking.{told, stage, goes, driver_stays_by}
use Rattle.vd_packed_ring.specs.PackedWords.{second_word, put}
use Rattle.vd_packed_ring.specs.PackedPositions.{offer_position, collect_position, later}
use Rattle.vd_packed_ring.specs.PackedDriver.{driver_shows, DriverNextAt, DriverTells, driver_after_at, driver_act_at, driver_act, driver_side, driver_offers, driver_collects, stores, collect_act}

-- what is claimed of an access that is answered `x` and leaves the view `w`
abbrev Claim : DriverNow → DriverView → Op → Type 0 → Bool → DriverAct → DriverView → Type 0
Claim n v o tells more x w =
    Kept true (stage n) o tells more (told x) (goes x) (record v { doing = n }) w v.armed w.armed v.shown w.shown (stage w.doing)

-- the look of a collect, which is the whole of it
looks : (v : DriverView) (r n : ℕ) (tells : Type 0) (b : Bool) → (tells → v.shown ≡ true → b ≡ true)
    → Claim now.Idle v op.Collect tells b (if b then collect_act (record v { doing = now.Idle }) r else act.Nothing)
    (if b then driver_collects (record v { doing = now.Idle }) r else record v { seen = n; shown = false; doing = now.Idle })
looks v r n tells true t = finds_some true tells false _ _ _ _ _ _ _ (λ g. cc g)
looks v r n tells false t = finds_none true tells _ _ _ _ _ _ _ t

-- the second look of an arming; c is EVENT_IDX
second : (v : DriverView) (n m : ℕ) (tells : Type 0) (b c : Bool) → (tells → v.shown ≡ true → b ≡ true)
    → Claim now.Arming v op.Arm tells b (if b then (if c then act.Awake else act.Moved) else act.Armed)
    (if b then record v { seen = n; shown = true; armed = None; doing = if c then now.Idle else now.Disarming op.Arm } else record v
    { seen = m; shown = false; doing = now.Idle })
second v n m tells false c t = second_none true tells _ _ _ _ _ _ t
second v n m tells true true t = second_wakes true tells true _ _ _ _ _
second v n m tells true false t = second_some true tells true _ _ _ _ _ _

-- a look at the bell
hears : (v : DriverView) (r : ℕ) (tells : Type 0) (more b c : Bool)
    → Claim now.Idle v op.Hear tells more (if b then act.Asleep else (if c then act.Awake else act.Moved))
    (if b then record v { doing = now.Idle } else record v {
      heard = r;
      armed = None;
      doing =
          if c then now.Idle else now.Disarming op.Hear;
    })
hears v r tells more true c = hears_same true tells more _ _ _ _
hears v r tells more false true = wakes true idle op.Hear tells more true _ _ _ _ _ refl
hears v r tells more false false = quiet true idle op.Hear tells more other true _ _ _ _ _ _ _ refl refl (λ g. refl)

-- a store of an offer, by whether it is the last
stores_at : (v : DriverView) (puts : List Put) (p x : ℕ) (tells : Type 0) (more b : Bool)
    → Claim (now.Offering puts) v op.Offer tells more (if b then act.Offered (length (offers v.done)) else act.Moved)
    (if b then driver_offers (record v { doing = now.Offering puts }) puts p x else stores (record v { doing = now.Offering puts }) p x
    (now.Offering (puts ++ put p x ∷ [])))
stores_at v puts p x tells more true = quiet true busy op.Offer tells more other false _ _ _ _ _ _ _ refl refl (λ g. refl)
stores_at v puts p x tells more false = quiet true busy op.Offer tells more other true _ _ _ _ _ _ _ refl refl (λ g. refl)

-- what a look tells
collect_shown : (v : DriverView) (p r : ℕ) → DriverTells (record v { doing = now.Idle }) op.Collect (Load p) r → v.shown ≡ true
    → driver_shows v r ≡ true
collect_shown v p r (k, (a, b, c)) s = b s

arm_shown : (v : DriverView) (p r : ℕ) → DriverTells (record v { doing = now.Arming }) op.Arm (Load p) r → v.shown ≡ true
    → driver_shows v r ≡ true
arm_shown v p r (k, (a, b, c)) s = b s

-- ---- all accesses

at : (n : DriverNow) (v : DriverView) (o : Op) (a : Access) (r : ℕ) → DriverNextAt n (record v { doing = n }) o a
    → Claim n v o (DriverTells (record v { doing = n }) o a r) (driver_shows v r) (driver_act_at n (record v { doing = n }) o a r)
    (driver_after_at n (record v { doing = n }) o a r)
at now.Idle v op.Collect (Load p) r h =
    looks v r (later v.seen (collect_position v.frame v.done)) _ (driver_shows v r) (λ t s. collect_shown v p r t s)
at now.Arming v op.Arm (Load p) r h = second v (later v.seen (collect_position v.frame v.done + 1))
    (later v.seen (collect_position v.frame v.done)) _ (driver_shows v r) v.frame.features.event_idx (λ t s. arm_shown v p r t s)
at now.Idle v op.Hear (Load p) r h = hears v r _ _ (r == v.heard) v.frame.features.event_idx
at now.Idle v op.Arm (Store p x) r h = arms_at true _ _ true _ _ _ (collect_position v.frame v.done) _
at (now.Disarming k) v op.Arm (Store p x) r h = wakes true (disarming k) op.Arm _ _ true _ _ _ _ _ refl
at (now.Disarming k) v op.Hear (Store p x) r h = wakes true (disarming k) op.Hear _ _ true _ _ _ _ _ refl
at now.Idle v op.Disarm (Store p x) r h = wakes true idle op.Disarm _ _ true _ _ _ _ _ refl
at now.Idle v op.Disarm (Load p) r h = wakes true idle op.Disarm _ _ true _ _ _ _ _ refl
at now.Idle v op.Control (Store p x) r h = quiet true idle op.Control _ _ other true _ _ _ _ _ _ _ refl refl (λ g. refl)
at now.Idle v op.Control (Load p) r h = quiet true idle op.Control _ _ other true _ _ _ _ _ _ _ refl refl (λ g. refl)
at now.Idle v op.Offer (Store p x) r h = quiet true idle op.Offer _ _ other true _ _ _ _ _ _ _ refl refl (λ g. refl)
at (now.Checking old new) v op.Offer (Load p) r h = quiet true busy op.Offer _ _ other true _ _ _ _ _ _ _ refl refl (λ g. refl)
at (now.Ringing old new) v op.Offer (Store p x) r h = quiet true busy op.Offer _ _ other true _ _ _ _ _ _ _ refl refl (λ g. refl)
at (now.Offering puts) v op.Offer (Store p x) r h =
    stores_at v puts p x _ _ (p == second_word v.frame.size (offer_position v.frame v.done))
at _ v _ _ r h = absurd h

pub driver_stays : DriverStays driver_side driver_act driver_shows
driver_stays = driver_stays_by driver_side driver_act driver_shows (λ v o a r n. at v.doing v o a r n)
