-- What the ring invariant says of sleeping sides: the signals of both directions, what the driver's Asleep says, and what a hearing of
-- the driver adds.
use Rattle.std.proofs.Common.{◌≡◌, ◌≢◌, ℕ, ◌+◌, ◌-◌, ◌≤◌, ◌==◌, ◌++◌, Bool, true, false, None, List, [], ◌∷◌, length, if◌then◌else◌, slice_index, refl, sym, ap, ◌∙◌, subst, arith}
use Rattle.std.specs.List.{sum_by}
use Rattle.std.proofs.lemmas.Bool.{eqb-true, eqb-false}
use Rattle.vd_model.specs.declared.chain.Piece.{Piece}
use Rattle.vd_model.specs.Chains.{needs}
use Rattle.vd_words.specs.declared.access.Access.{Access}
use Rattle.vd_words.specs.declared.access.Access.TheVariants.{Load, Store}
use Rattle.vd_words.specs.declared.access.Op.{Op}
use Rattle.vd_words.specs.declared.access.Op.TheVariants as op
use Rattle.vd_words.specs.Step.{answered}
use Rattle.vd_ring.specs.declared.act.DriverAct.{DriverAct}
use Rattle.vd_ring.specs.declared.act.DriverAct.TheVariants as act
use Rattle.vd_ring.specs.declared.frame.Frame.{Frame}
use Rattle.vd_ring.specs.declared.frame.Used.{Used}
use Rattle.vd_ring.specs.declared.driver.DriverNow.{DriverNow}
use Rattle.vd_ring.specs.declared.driver.DriverNow.TheVariants.{Idle, Offering, Checking, Ringing, Arming, Disarming}
use Rattle.vd_ring.specs.declared.driver.DriverView.{DriverView}
use Rattle.vd_ring.specs.declared.device.DeviceView.{DeviceView}
use Rattle.vd_ring.specs.History.{offers, collects, takes, gives, chain}
use Rattle.vd_ring.specs.Signals.{Publisher, Listener, Signals}
use Rattle.vd_ring.specs.Sleep.{position, used_position, RingSignals, DriverWaits, driver_disarming, driver_hearings, driver_woken}
use Rattle.vd_packed_ring.specs.PackedWords.{put, call_at, second_word, is_used}
use Rattle.vd_packed_ring.specs.PackedSignals.{asks}
use Rattle.vd_packed_ring.specs.PackedPositions.{offer_position, collect_position, take_position, give_position, later}
use Rattle.vd_packed_ring.specs.PackedDriver.{DriverNextAt, DriverNext, driver_after_at, driver_after, driver_act_at, driver_act, driver_wakes, driver_collects, driver_offers, collect_act, stores}
use Rattle.vd_packed_ring.specs.PackedRing.{Ring, Woke, chains_out, chains_in, entries_out, entries_in}
use Rattle.vd_packed_ring.proofs.Positions.{give_position_is}
use Rattle.vd_packed_ring.proofs.Bells.{call_stands}

-- ---- in a packed ring a position counts descriptors

spans : {A : Type 0} (p : Bool) (g : A → ℕ) (xs : List A) → p ≡ true → sum_by (λ x. if p then g x else 1) xs ≡ sum_by g xs
spans p g xs on = ap (λ (b : Bool). sum_by (λ x. if b then g x else 1) xs) on

same_signals : (p q : Publisher) (l m : Listener) → q ≡ p → m ≡ l → Signals p l → Signals q m
same_signals p q l m pq lm s = subst (λ x. Signals x m) (sym pq) (subst (λ x. Signals p x) (sym lm) s)

pub signals : (ws : List ℕ) (d : DriverView) (e : DeviceView) → Ring ws d e → RingSignals d e
signals ws d e r =
    let f : Frame = d.frame in
    let counted : (cs : List (List Piece)) → position f cs ≡ sum_by (needs f.features) cs =
    λ cs. spans f.packed (needs f.features) cs r.lawful.packed in
    let used : (us : List Used) → used_position f d.done us ≡ sum_by (λ u. needs f.features (chain d.done u.number)) us =
    λ us. spans f.packed (λ (u : Used). needs f.features (chain d.done u.number)) us r.lawful.packed in
    let taken : position f (takes e.done) ≡ take_position e.frame e.done =
    counted (takes e.done) ∙ ap (λ (g : Frame). take_position g e.done) (sym r.same) in
    let given : used_position f d.done (gives e.done) ≡ give_position e.frame e.done =
    used (gives e.done) ∙ (sym (give_position_is f d.done e.done r.lists) ∙ ap (λ (g : Frame). give_position g e.done) (sym r.same)) in
    record {
      kicks = same_signals (chains_out d) _ (chains_in e) _
          (ap (λ n. record (chains_out d) { published = n }) (counted (offers d.done)))
          (ap (λ n. record (chains_in e) { at = n }) taken) r.kicks;
      calls = same_signals (entries_out e) _ (entries_in d) _ (ap (λ n. record (entries_out e) { published = n }) given)
          (ap (λ n. record (entries_in d) { at = n }) (used (collects d.done))) r.calls;
    }

-- ---- Asleep

abbrev sleeps : DriverAct → Bool
sleeps act.Asleep = true
sleeps _ = false

no : (x : DriverAct) → sleeps x ≡ false → x ≡ act.Asleep → ⊥
no x off is = let e : false ≡ true = sym off ∙ ap sleeps is in cc

either : (b : Bool) (x y : DriverAct) → sleeps x ≡ false → sleeps y ≡ false → sleeps (if b then x else y) ≡ false
either true x y p q = p
either false x y p q = q

-- where a hearing answers Asleep, the bell is the one heard last
same : (b c : Bool) → (if b then act.Asleep else (if c then act.Awake else act.Moved)) ≡ act.Asleep → b ≡ true
same true c is = refl
same false true is = absurd (no act.Awake refl is)
same false false is = absurd (no act.Moved refl is)

asleep_at : (ws : List ℕ) (d : DriverView) (e : DeviceView) (now : DriverNow) (o : Op) (a : Access)
    → Ring ws (record d { doing = now }) e → DriverNextAt now (record d { doing = now }) o a
    → driver_act_at now (record d { doing = now }) o a (answered ws a) ≡ act.Asleep
    → (driver_after_at now (record d { doing = now }) o a (answered ws a) ≡ record d { doing = now })
    × DriverWaits (record d { doing = now }) e
asleep_at ws d e Idle op.Hear (Load p) r h is =
    let v : DriverView = record d { doing = Idle } in let g : ℕ = slice_index ws p in
    let on : (g == d.heard) ≡ true = same (g == d.heard) d.frame.features.event_idx is in
    let at : p ≡ call_at d.frame = h.1 in
    let heard : g ≡ d.heard = eqb-true g d.heard on in (
      ap (λ (b : Bool). if b then v else record v { heard = g; armed = None; doing = driver_wakes d.frame op.Hear }) on,
      record { idle = refl; at = h.0.0; armed = h.0.1; heard = sym heard ∙ ap (λ q. slice_index ws q) at ∙ call_stands ws v e r },
    )
asleep_at ws d e Idle op.Collect (Load p) r h is =
    absurd (no _ (either (is_used d.frame.size (collect_position d.frame d.done) (slice_index ws p))
    (collect_act (record d { doing = Idle }) (slice_index ws p)) act.Nothing refl refl) is)
asleep_at ws d e (Offering puts) op.Offer (Store p x) r h is =
    absurd (no _ (either (p == second_word d.frame.size (offer_position d.frame d.done)) (act.Offered (length (offers d.done)))
    act.Moved refl refl) is)
asleep_at ws d e Arming op.Arm (Load p) r h is =
    absurd (no _ (either (is_used d.frame.size (collect_position d.frame d.done) (slice_index ws p))
    (if d.frame.features.event_idx then act.Awake else act.Moved) act.Armed
    (either d.frame.features.event_idx act.Awake act.Moved refl refl) refl) is)
asleep_at ws d e (Disarming k) op.Arm (Store p x) r h is = absurd (no _ refl is)
asleep_at ws d e (Disarming k) op.Hear (Store p x) r h is = absurd (no _ refl is)
asleep_at ws d e Idle op.Disarm (Store p x) r h is = absurd (no _ refl is)
asleep_at ws d e Idle op.Disarm (Load p) r h is = absurd (no _ refl is)
asleep_at ws d e _ _ _ r h is = absurd (no act.Moved refl is)

pub driver_asleep : (ws : List ℕ) (d : DriverView) (e : DeviceView) (o : Op) (a : Access) → Ring ws d e → DriverNext d o a
    → driver_act d o a (answered ws a) ≡ act.Asleep → (driver_after d o a (answered ws a) ≡ d) × DriverWaits d e
driver_asleep ws d e o a r h is = asleep_at ws d e d.doing o a r h is

-- ---- hearings

-- a side that woke by another operation than a hearing
woke : (b : Bool) → driver_disarming (if b then Idle else Disarming op.Arm) ≡ 0
woke true = refl
woke false = refl

checked : (b : Bool) (old new : ℕ) → driver_disarming (if b then Ringing old new else Idle) ≡ 0
checked true old new = refl
checked false old new = refl

either_hear : (n : ℕ) (b : Bool) (v w : DriverView) → n ≤ driver_hearings v → n ≤ driver_hearings w
    → n ≤ driver_hearings (if b then v else w)
either_hear n true v w x y = x
either_hear n false v w x y = y

heard : (d : DriverView) (g : ℕ) (b c : Bool) → d.heard ≤ g → (g == d.heard) ≡ b
    → d.heard - 0 + driver_woken op.Hear (if b then act.Asleep else (if c then act.Awake else act.Moved)) ≤ driver_hearings
    (if b then record d { doing = Idle } else record d { heard = g; armed = None; doing = if c then Idle else Disarming op.Hear })
heard d g true c le is = omega arith
heard d g false true le is = let ne : g ≢ d.heard = eqb-false g d.heard is in omega (arith, ne)
heard d g false false le is = let ne : g ≢ d.heard = eqb-false g d.heard is in omega (arith, ne)

hears_at : (ws : List ℕ) (d : DriverView) (e : DeviceView) (now : DriverNow) (o : Op) (a : Access)
    → Ring ws (record d { doing = now }) e → DriverNextAt now (record d { doing = now }) o a
    → driver_hearings (record d { doing = now }) + driver_woken o (driver_act_at now (record d { doing = now }) o a (answered ws a))
    ≤ driver_hearings (driver_after_at now (record d { doing = now }) o a (answered ws a))
hears_at ws d e Idle op.Hear (Load p) r h =
    let v : DriverView = record d { doing = Idle } in let g : ℕ = slice_index ws p in
    let at : p ≡ call_at d.frame = h.1 in
    let is : g ≡ e.bells = ap (λ q. slice_index ws q) at ∙ call_stands ws v e r in
    heard d g (g == d.heard) d.frame.features.event_idx (omega (arith, r.calls.heard)) refl
hears_at ws d e (Disarming k) op.Hear (Store p x) r h =
    subst (λ (j : Op). Woke j d.heard → d.heard - driver_disarming (Disarming j) + 1 ≤ d.heard - 0) (sym h.0)
    (λ some. omega arith) r.driver_armed.2
hears_at ws d e (Disarming k) op.Arm (Store p x) r h = omega arith
hears_at ws d e Arming op.Arm (Load p) r h =
    let v : DriverView = record d { doing = Arming } in let q : ℕ = collect_position d.frame d.done in
    either_hear (d.heard - 0 + 0) (is_used d.frame.size q (slice_index ws p))
    (record v { seen = later d.seen (q + 1); shown = true; armed = None; doing = driver_wakes d.frame op.Arm })
    (record v { seen = later d.seen q; shown = false; doing = Idle })
    (omega (arith, woke d.frame.features.event_idx)) (omega arith)
hears_at ws d e (Checking old new) op.Offer (Load p) r h = omega (arith, checked (asks d.frame old new (slice_index ws p)) old new)
hears_at ws d e Idle op.Collect (Load p) r h =
    let v : DriverView = record d { doing = Idle } in let q : ℕ = collect_position d.frame d.done in
    either_hear (d.heard - 0 + 0) (is_used d.frame.size q (slice_index ws p)) (driver_collects v (slice_index ws p))
    (record v { seen = later d.seen q; shown = false }) (omega arith) (omega arith)
hears_at ws d e Idle op.Offer (Store p x) r h = omega arith
hears_at ws d e (Offering puts) op.Offer (Store p x) r h =
    let v : DriverView = record d { doing = Offering puts } in
    either_hear (d.heard - 0 + 0) (p == second_word d.frame.size (offer_position d.frame d.done)) (driver_offers v puts p x)
    (stores v p x (Offering (puts ++ put p x ∷ []))) (omega arith) (omega arith)
hears_at ws d e (Ringing old new) op.Offer (Store p x) r h = omega arith
hears_at ws d e Idle op.Arm (Store p x) r h = omega arith
hears_at ws d e Idle op.Disarm (Store p x) r h = omega arith
hears_at ws d e Idle op.Disarm (Load p) r h = omega arith
hears_at ws d e Idle op.Control (Store p x) r h = omega arith
hears_at ws d e Idle op.Control (Load p) r h = omega arith
hears_at ws d e _ _ _ r h = absurd h

pub driver_hears : (ws : List ℕ) (d : DriverView) (e : DeviceView) (o : Op) (a : Access) → Ring ws d e → DriverNext d o a
    → driver_hearings d + driver_woken o (driver_act d o a (answered ws a)) ≤ driver_hearings (driver_after d o a (answered ws a))
driver_hears ws d e o a r h = hears_at ws d e d.doing o a r h
