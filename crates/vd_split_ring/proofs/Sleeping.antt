-- What the ring invariant says of sleeping sides: the signals of both directions, what Asleep says, and what a hearing adds.
use Rattle.std.proofs.Common.{◌≡◌, ◌≢◌, ℕ, ◌+◌, ◌-◌, ◌≤◌, ◌==◌, ◌%◌, ◌++◌, Bool, true, false, None, List, [], ◌∷◌, length, if◌then◌else◌, slice_index, refl, sym, ap, ◌∙◌, subst, arith}
use Rattle.std.specs.List.{sum_by}
use Rattle.std.proofs.lemmas.Bool.{eqb-true, eqb-false}
use Rattle.std.proofs.lemmas.List.Sums.{sum_by-cons}
use Rattle.vd_model.specs.declared.chain.Piece.{Piece}
use Rattle.vd_model.specs.Chains.{needs}
use Rattle.vd_bits.specs.Lanes.{lane16}
use Rattle.vd_words.specs.declared.access.Access.{Access}
use Rattle.vd_words.specs.declared.access.Access.TheVariants.{Load, Store}
use Rattle.vd_words.specs.declared.access.Op.{Op}
use Rattle.vd_words.specs.declared.access.Op.TheVariants as op
use Rattle.vd_words.specs.Step.{answered}
use Rattle.vd_ring.specs.declared.act.DriverAct.{DriverAct}
use Rattle.vd_ring.specs.declared.act.DriverAct.TheVariants as driver_act
use Rattle.vd_ring.specs.declared.act.DeviceAct.{DeviceAct}
use Rattle.vd_ring.specs.declared.act.DeviceAct.TheVariants as device_act
use Rattle.vd_ring.specs.declared.frame.Frame.{Frame}
use Rattle.vd_ring.specs.declared.frame.Put.{Put}
use Rattle.vd_ring.specs.declared.frame.Used.{Used}
use Rattle.vd_ring.specs.declared.driver.DriverNow.{DriverNow}
use Rattle.vd_ring.specs.declared.driver.DriverNow.TheVariants as driver
use Rattle.vd_ring.specs.declared.driver.DriverView.{DriverView}
use Rattle.vd_ring.specs.declared.device.DeviceNow.{DeviceNow}
use Rattle.vd_ring.specs.declared.device.DeviceNow.TheVariants as device
use Rattle.vd_ring.specs.declared.device.DeviceView.{DeviceView}
use Rattle.vd_ring.specs.History.{offers, collects, takes, gives, chain}
use Rattle.vd_ring.specs.Signals.{Signals}
use Rattle.vd_ring.specs.Sleep.{position, used_position, gives_made, driver_owed, device_owed, driver_idle, device_idle, RingSignals, DriverWaits, DeviceWaits, driver_disarming, device_disarming, driver_hearings, device_hearings, driver_woken, device_woken}
use Rattle.vd_split_ring.specs.SplitWords.{put, kick_at, call_at, shows, shown_from, wants, device_event_lane, driver_event_lane, is_whole, chain_of}
use Rattle.vd_split_ring.specs.SplitDriver.{DriverNextAt, DriverNext, driver_after_at, driver_after, driver_act_at, driver_act, driver_wakes}
use Rattle.vd_split_ring.specs.SplitDevice.{DeviceNextAt, DeviceNext, device_after_at, device_after, device_act_at, device_act, device_wakes, device_takes}
use Rattle.vd_split_ring.specs.SplitRing.{Ring}
use Rattle.vd_split_ring.proofs.Bells.{call_stands, kick_stands}

-- ---- in a split ring a position is a count

ones : {A : Type 0} (p : Bool) (g : A → ℕ) (xs : List A) → p ≡ false → sum_by (λ x. if p then g x else 1) xs ≡ length xs
ones p g [] off = refl
ones p g (x ∷ xs) off = let one : (if p then g x else 1) ≡ 1 = ap (λ b. if b then g x else 1) off in
    omega (arith, sum_by-cons (λ y. if p then g y else 1) x xs, ones p g xs off, one)

counted : (f : Frame) (cs : List (List Piece)) → f.packed ≡ false → position f cs ≡ length cs
counted f cs off = ones f.packed (λ c. needs f.features c) cs off

pub signals : (ws : List ℕ) (d : DriverView) (e : DeviceView) → Ring ws d e → RingSignals d e
signals ws d e r =
    let f : Frame = d.frame in
    let at : (us : List Used) → used_position f d.done us ≡ length us =
    λ us. ones f.packed (λ u. needs f.features (chain d.done u.number)) us r.lawful.split in
    record {
      kicks = subst (λ n. Signals (record {
        published = n;
        owed = driver_owed d.doing;
        bells = d.bells;
        ranges =
            length (offers d.done);
      }) (record {
        at = position f (takes e.done);
        idle = device_idle e.doing;
        armed = e.armed;
        heard =
            e.heard;
      })) (sym (counted f (offers d.done) r.lawful.split))
          (subst (λ n. Signals (record {
            published = length (offers d.done);
            owed = driver_owed d.doing;
            bells = d.bells;
            ranges =
                length (offers d.done);
          }) (record { at = n; idle = device_idle e.doing; armed = e.armed; heard = e.heard }))
          (sym (counted f (takes e.done) r.lawful.split)) r.kicks);
      calls = subst (λ n. Signals (record { published = n; owed = device_owed e.doing; bells = e.bells; ranges = gives_made e.done })
          (record { at = used_position f d.done (collects d.done); idle = driver_idle d.doing; armed = d.armed; heard = d.heard }))
          (sym (at (gives e.done)))
          (subst (λ n. Signals (record {
            published = length (gives e.done);
            owed = device_owed e.doing;
            bells = e.bells;
            ranges =
                gives_made e.done;
          }) (record { at = n; idle = driver_idle d.doing; armed = d.armed; heard = d.heard }))
          (sym (at (collects d.done))) r.calls);
    }

-- ---- Asleep, of the driver

abbrev driver_sleeps : DriverAct → Bool
driver_sleeps driver_act.Asleep = true
driver_sleeps _ = false

driver_no : (x : DriverAct) → driver_sleeps x ≡ false → x ≡ driver_act.Asleep → ⊥
driver_no x off is = let e : false ≡ true = sym off ∙ ap driver_sleeps is in cc

driver_again : (quiet : DriverAct) (b c : Bool) → driver_sleeps quiet ≡ false
    → driver_sleeps (if b then quiet else (if c then driver_act.Awake else driver_act.Moved)) ≡ false
driver_again quiet true c is = is
driver_again quiet false true is = refl
driver_again quiet false false is = refl

driver_looked : (b : Bool) → driver_sleeps (if b then driver_act.Nothing else driver_act.Moved) ≡ false
driver_looked true = refl
driver_looked false = refl

-- where a hearing answers Asleep, the bell is the one heard last
driver_same : (b c : Bool) → (if b then driver_act.Asleep else (if c then driver_act.Awake else driver_act.Moved)) ≡ driver_act.Asleep
    → b ≡ true
driver_same true c is = refl
driver_same false true is = absurd (driver_no driver_act.Awake refl is)
driver_same false false is = absurd (driver_no driver_act.Moved refl is)

driver_asleep_at : (ws : List ℕ) (d : DriverView) (e : DeviceView) (now : DriverNow) (o : Op) (a : Access)
    → Ring ws (record d { doing = now }) e → DriverNextAt now (record d { doing = now }) o a
    → driver_act_at now (record d { doing = now }) o a (answered ws a) ≡ driver_act.Asleep
    → (driver_after_at now (record d { doing = now }) o a (answered ws a) ≡ record d { doing = now })
    × DriverWaits (record d { doing = now }) e
driver_asleep_at ws d e driver.Idle op.Hear (Load p) r h is =
    let v : DriverView = record d { doing = driver.Idle } in let g : ℕ = slice_index ws p in
    let on : (g == d.heard) ≡ true = driver_same (g == d.heard) d.frame.features.event_idx is in
    let at : p ≡ call_at d.frame = h.1 in
    let same : g ≡ d.heard = eqb-true g d.heard on in (
      ap (λ (b : Bool). if b then v else record v { heard = g; armed = None; doing = driver_wakes d.frame op.Hear }) on,
      record { idle = refl; at = h.0.0; armed = h.0.1; heard = sym same ∙ ap (λ q. slice_index ws q) at ∙ call_stands ws v e r },
    )
driver_asleep_at ws d e driver.Idle op.Collect (Load p) r h is =
    absurd (driver_no _ (driver_looked (shows (slice_index ws p) (length (collects d.done)))) is)
driver_asleep_at ws d e driver.Arming op.Arm (Load p) r h is =
    absurd (driver_no _ (driver_again driver_act.Armed (shows (slice_index ws p) (length (collects d.done))) d.frame.features.event_idx
    refl) is)
driver_asleep_at ws d e (driver.Entered puts) op.Offer (Store p x) r h is = absurd (driver_no _ refl is)
driver_asleep_at ws d e (driver.Collecting (g ∷ w ∷ [])) op.Collect (Load p) r h is = absurd (driver_no _ refl is)
driver_asleep_at ws d e (driver.Disarming k) op.Arm (Store p x) r h is = absurd (driver_no _ refl is)
driver_asleep_at ws d e (driver.Disarming k) op.Hear (Store p x) r h is = absurd (driver_no _ refl is)
driver_asleep_at ws d e driver.Idle op.Disarm (Store p x) r h is = absurd (driver_no _ refl is)
driver_asleep_at ws d e driver.Idle op.Disarm (Load p) r h is = absurd (driver_no _ refl is)
driver_asleep_at ws d e _ _ _ r h is = absurd (driver_no driver_act.Moved refl is)

pub driver_asleep : (ws : List ℕ) (d : DriverView) (e : DeviceView) (o : Op) (a : Access) → Ring ws d e → DriverNext d o a
    → driver_act d o a (answered ws a) ≡ driver_act.Asleep → (driver_after d o a (answered ws a) ≡ d) × DriverWaits d e
driver_asleep ws d e o a r h is = driver_asleep_at ws d e d.doing o a r h is

-- ---- Asleep, of the device

abbrev device_sleeps : DeviceAct → Bool
device_sleeps device_act.Asleep = true
device_sleeps _ = false

device_no : (x : DeviceAct) → device_sleeps x ≡ false → x ≡ device_act.Asleep → ⊥
device_no x off is = let e : false ≡ true = sym off ∙ ap device_sleeps is in cc

device_again : (quiet : DeviceAct) (b c : Bool) → device_sleeps quiet ≡ false
    → device_sleeps (if b then quiet else (if c then device_act.Awake else device_act.Moved)) ≡ false
device_again quiet true c is = is
device_again quiet false true is = refl
device_again quiet false false is = refl

device_looked : (b : Bool) → device_sleeps (if b then device_act.Nothing else device_act.Moved) ≡ false
device_looked true = refl
device_looked false = refl

device_took : (b : Bool) (k : ℕ) (c : List Piece) → device_sleeps (if b then device_act.Taken k c else device_act.Moved) ≡ false
device_took true k c = refl
device_took false k c = refl

device_same : (b c : Bool) → (if b then device_act.Asleep else (if c then device_act.Awake else device_act.Moved)) ≡ device_act.Asleep
    → b ≡ true
device_same true c is = refl
device_same false true is = absurd (device_no device_act.Awake refl is)
device_same false false is = absurd (device_no device_act.Moved refl is)

device_asleep_at : (ws : List ℕ) (d : DriverView) (e : DeviceView) (now : DeviceNow) (o : Op) (a : Access)
    → Ring ws d (record e { frame = d.frame; doing = now }) → DeviceNextAt now (record e { frame = d.frame; doing = now }) o a
    → device_act_at now (record e { frame = d.frame; doing = now }) o a (answered ws a) ≡ device_act.Asleep
    → (device_after_at now (record e { frame = d.frame; doing = now }) o a (answered ws a) ≡ record e { frame = d.frame; doing = now })
    × DeviceWaits d (record e { frame = d.frame; doing = now })
device_asleep_at ws d e device.Idle op.Hear (Load p) r h is =
    let v : DeviceView = record e { frame = d.frame; doing = device.Idle } in let g : ℕ = slice_index ws p in
    let on : (g == e.heard) ≡ true = device_same (g == e.heard) d.frame.features.event_idx is in
    let at : p ≡ kick_at d.frame = h.1 in
    let same : g ≡ e.heard = eqb-true g e.heard on in (
      ap (λ (b : Bool). if b then v else record v { heard = g; armed = None; doing = device_wakes d.frame op.Hear }) on,
      record { idle = refl; at = h.0.0; armed = h.0.1; heard = sym same ∙ ap (λ q. slice_index ws q) at ∙ kick_stands ws d v r },
    )
device_asleep_at ws d e device.Idle op.Take (Load p) r h is =
    absurd (device_no _ (device_looked (shows (slice_index ws p) (length (takes e.done)))) is)
device_asleep_at ws d e (device.Taking (g ∷ w ∷ us)) op.Take (Load p) r h is =
    let all : List ℕ = us ++ slice_index ws p ∷ [] in
    absurd (device_no _ (device_took (is_whole d.frame all) (length (takes e.done)) (chain_of d.frame all)) is)
device_asleep_at ws d e device.Arming op.Arm (Load p) r h is =
    absurd (device_no _ (device_again device_act.Armed (shows (slice_index ws p) (length (takes e.done))) d.frame.features.event_idx
    refl) is)
device_asleep_at ws d e (device.Giving (b ∷ c ∷ [])) op.Give (Store p x) r h is = absurd (device_no _ refl is)
device_asleep_at ws d e (device.Disarming k) op.Arm (Store p x) r h is = absurd (device_no _ refl is)
device_asleep_at ws d e (device.Disarming k) op.Hear (Store p x) r h is = absurd (device_no _ refl is)
device_asleep_at ws d e device.Idle op.Disarm (Store p x) r h is = absurd (device_no _ refl is)
device_asleep_at ws d e device.Idle op.Disarm (Load p) r h is = absurd (device_no _ refl is)
device_asleep_at ws d e device.Resting op.Rest (Load p) r h is = absurd (device_no _ refl is)
device_asleep_at ws d e _ _ _ r h is = absurd (device_no device_act.Moved refl is)

pub device_asleep : (ws : List ℕ) (d : DriverView) (e : DeviceView) (o : Op) (a : Access) → Ring ws d e → DeviceNext e o a
    → device_act e o a (answered ws a) ≡ device_act.Asleep → (device_after e o a (answered ws a) ≡ e) × DeviceWaits d e
device_asleep ws d e o a r h is =
    subst (λ (f : Frame). Ring ws d (record e { frame = f }) → DeviceNext (record e { frame = f }) o a
    → device_act (record e { frame = f }) o a (answered ws a) ≡ device_act.Asleep
    → (device_after (record e { frame = f }) o a (answered ws a) ≡ record e { frame = f }) × DeviceWaits d (record e { frame = f }))
    (sym r.same) (device_asleep_at ws d e e.doing o a) r h is

-- ---- hearings, of the driver

-- a side that woke by another operation than a hearing
driver_woke : (b : Bool) → driver_disarming (if b then driver.Idle else driver.Disarming op.Arm) ≡ 0
driver_woke true = refl
driver_woke false = refl

driver_checked : (b : Bool) (old new : ℕ) → driver_disarming (if b then driver.Ringing old new else driver.Idle) ≡ 0
driver_checked true old new = refl
driver_checked false old new = refl

driver_looks_hear : (n : ℕ) (b : Bool) (v w : DriverView) → n ≤ driver_hearings v → n ≤ driver_hearings w
    → n ≤ driver_hearings (if b then v else w)
driver_looks_hear n true v w x y = x
driver_looks_hear n false v w x y = y

driver_heard : (d : DriverView) (g : ℕ) (b c : Bool) → d.heard ≤ g → (g == d.heard) ≡ b
    → d.heard - 0 + driver_woken op.Hear (if b then driver_act.Asleep else (if c then driver_act.Awake else driver_act.Moved))
    ≤ driver_hearings (if b then record d { doing = driver.Idle } else record d {
      heard = g;
      armed = None;
      doing =
          if c then driver.Idle else driver.Disarming op.Hear;
    })
driver_heard d g true c le is = omega arith
driver_heard d g false true le is = let ne : g ≢ d.heard = eqb-false g d.heard is in omega (arith, ne)
driver_heard d g false false le is = let ne : g ≢ d.heard = eqb-false g d.heard is in omega (arith, ne)

driver_hears_at : (ws : List ℕ) (d : DriverView) (e : DeviceView) (now : DriverNow) (o : Op) (a : Access)
    → Ring ws (record d { doing = now }) e → DriverNextAt now (record d { doing = now }) o a
    → driver_hearings (record d { doing = now }) + driver_woken o (driver_act_at now (record d { doing = now }) o a (answered ws a))
    ≤ driver_hearings (driver_after_at now (record d { doing = now }) o a (answered ws a))
driver_hears_at ws d e driver.Idle op.Hear (Load p) r h =
    let v : DriverView = record d { doing = driver.Idle } in let g : ℕ = slice_index ws p in
    let at : p ≡ call_at d.frame = h.1 in
    let is : g ≡ e.bells = ap (λ q. slice_index ws q) at ∙ call_stands ws v e r in
    driver_heard d g (g == d.heard) d.frame.features.event_idx (omega (arith, r.calls.heard)) refl
driver_hears_at ws d e (driver.Disarming k) op.Hear (Store p x) r h =
    subst (λ (j : Op). Rattle.vd_split_ring.specs.SplitRing.Woke j d.heard → d.heard - driver_disarming (driver.Disarming j)
    + 1 ≤ d.heard - 0) (sym h.0) (λ some. omega arith) r.driver_armed.2
driver_hears_at ws d e (driver.Disarming k) op.Arm (Store p x) r h = omega arith
driver_hears_at ws d e driver.Arming op.Arm (Load p) r h =
    let v : DriverView = record d { doing = driver.Arming } in let g : ℕ = slice_index ws p in let m : ℕ = length (collects d.done) in
    driver_looks_hear (d.heard - 0 + 0) (shows g m) (record v { seen = shown_from g m; shown = false; doing = driver.Idle })
    (record v { seen = shown_from g m; shown = true; armed = None; doing = driver_wakes d.frame op.Arm }) (omega arith)
    (omega (arith, driver_woke d.frame.features.event_idx))
driver_hears_at ws d e (driver.Checking old new) op.Offer (Load p) r h =
    omega (arith, driver_checked (wants d.frame old new (lane16 (slice_index ws p) (device_event_lane d.frame))) old new)
driver_hears_at ws d e driver.Idle op.Collect (Load p) r h =
    let v : DriverView = record d { doing = driver.Idle } in let g : ℕ = slice_index ws p in let m : ℕ = length (collects d.done) in
    driver_looks_hear (d.heard - 0 + 0) (shows g m) (record v { seen = shown_from g m; shown = false })
    (record v { seen = shown_from g m; shown = true; doing = driver.Collecting (g ∷ []) }) (omega arith) (omega arith)
driver_hears_at ws d e driver.Idle op.Offer (Store p x) r h = omega arith
driver_hears_at ws d e (driver.Offering puts) op.Offer (Store p x) r h =
    staged_hear d.heard puts (p == Rattle.vd_split_ring.specs.SplitWords.lane_word d.frame
    (Rattle.vd_split_ring.specs.SplitWords.entry_lane d.frame (length (offers d.done))))
  where
    staged_hear : (n : ℕ) (puts : List Put) (b : Bool)
        → n - 0 + 0 ≤ n - driver_disarming (if b then driver.Entered puts else driver.Offering (puts ++ put p x ∷ []))
    staged_hear n puts true = omega arith
    staged_hear n puts false = omega arith
driver_hears_at ws d e (driver.Entered puts) op.Offer (Store p x) r h = omega arith
driver_hears_at ws d e (driver.Ringing old new) op.Offer (Store p x) r h = omega arith
driver_hears_at ws d e (driver.Collecting (g ∷ [])) op.Collect (Load p) r h = omega arith
driver_hears_at ws d e (driver.Collecting (g ∷ w ∷ [])) op.Collect (Load p) r h = omega arith
driver_hears_at ws d e driver.Idle op.Arm (Store p x) r h = omega arith
driver_hears_at ws d e driver.Idle op.Disarm (Store p x) r h = omega arith
driver_hears_at ws d e driver.Idle op.Disarm (Load p) r h = omega arith
driver_hears_at ws d e driver.Idle op.Control (Store p x) r h = omega arith
driver_hears_at ws d e driver.Idle op.Control (Load p) r h = omega arith
driver_hears_at ws d e _ _ _ r h = absurd h

pub driver_hears : (ws : List ℕ) (d : DriverView) (e : DeviceView) (o : Op) (a : Access) → Ring ws d e → DriverNext d o a
    → driver_hearings d + driver_woken o (driver_act d o a (answered ws a)) ≤ driver_hearings (driver_after d o a (answered ws a))
driver_hears ws d e o a r h = driver_hears_at ws d e d.doing o a r h

-- ---- hearings, of the device

device_woke : (b : Bool) → device_disarming (if b then device.Idle else device.Disarming op.Arm) ≡ 0
device_woke true = refl
device_woke false = refl

device_checked : (b : Bool) (old new : ℕ) → device_disarming (if b then device.Ringing old new else device.Idle) ≡ 0
device_checked true old new = refl
device_checked false old new = refl

device_looks_hear : (n : ℕ) (b : Bool) (v w : DeviceView) → n ≤ device_hearings v → n ≤ device_hearings w
    → n ≤ device_hearings (if b then v else w)
device_looks_hear n true v w x y = x
device_looks_hear n false v w x y = y

device_heard : (e : DeviceView) (g : ℕ) (b c : Bool) → e.heard ≤ g → (g == e.heard) ≡ b
    → e.heard - 0 + device_woken op.Hear (if b then device_act.Asleep else (if c then device_act.Awake else device_act.Moved))
    ≤ device_hearings (if b then record e { doing = device.Idle } else record e {
      heard = g;
      armed = None;
      doing =
          if c then device.Idle else device.Disarming op.Hear;
    })
device_heard e g true c le is = omega arith
device_heard e g false true le is = let ne : g ≢ e.heard = eqb-false g e.heard is in omega (arith, ne)
device_heard e g false false le is = let ne : g ≢ e.heard = eqb-false g e.heard is in omega (arith, ne)

device_hears_at : (ws : List ℕ) (d : DriverView) (e : DeviceView) (now : DeviceNow) (o : Op) (a : Access)
    → Ring ws d (record e { frame = d.frame; doing = now }) → DeviceNextAt now (record e { frame = d.frame; doing = now }) o a
    → device_hearings (record e { frame = d.frame; doing = now })
    + device_woken o (device_act_at now (record e { frame = d.frame; doing = now }) o a (answered ws a)) ≤ device_hearings
    (device_after_at now (record e { frame = d.frame; doing = now }) o a (answered ws a))
device_hears_at ws d e device.Idle op.Hear (Load p) r h =
    let v : DeviceView = record e { frame = d.frame; doing = device.Idle } in let g : ℕ = slice_index ws p in
    let at : p ≡ kick_at d.frame = h.1 in
    let is : g ≡ d.bells = ap (λ q. slice_index ws q) at ∙ kick_stands ws d v r in
    device_heard v g (g == e.heard) d.frame.features.event_idx (omega (arith, r.kicks.heard)) refl
device_hears_at ws d e (device.Disarming k) op.Hear (Store p x) r h =
    subst (λ (j : Op). Rattle.vd_split_ring.specs.SplitRing.Woke j e.heard → e.heard - device_disarming (device.Disarming j)
    + 1 ≤ e.heard - 0) (sym h.0) (λ some. omega arith) r.device_armed.2
device_hears_at ws d e (device.Disarming k) op.Arm (Store p x) r h = omega arith
device_hears_at ws d e device.Arming op.Arm (Load p) r h =
    let v : DeviceView = record e { frame = d.frame; doing = device.Arming } in let g : ℕ = slice_index ws p in let t : ℕ =
    length (takes e.done) in
    device_looks_hear (e.heard - 0 + 0) (shows g t) (record v { seen = shown_from g t; shown = false; doing = device.Idle })
    (record v { seen = shown_from g t; shown = true; armed = None; doing = device_wakes d.frame op.Arm }) (omega arith)
    (omega (arith, device_woke d.frame.features.event_idx))
device_hears_at ws d e (device.Checking old new) op.Give (Load p) r h =
    omega (arith, device_checked (wants d.frame old new (lane16 (slice_index ws p) (driver_event_lane d.frame % 4))) old new)
device_hears_at ws d e device.Idle op.Take (Load p) r h =
    let v : DeviceView = record e { frame = d.frame; doing = device.Idle } in let g : ℕ = slice_index ws p in let t : ℕ =
    length (takes e.done) in
    device_looks_hear (e.heard - 0 + 0) (shows g t) (record v { seen = shown_from g t; shown = false })
    (record v { seen = shown_from g t; shown = true; doing = device.Taking (g ∷ []) }) (omega arith) (omega arith)
device_hears_at ws d e (device.Taking (g ∷ w ∷ us)) op.Take (Load p) r h =
    let v : DeviceView = record e { frame = d.frame; doing = device.Taking (g ∷ w ∷ us) } in
    let all : List ℕ = us ++ slice_index ws p ∷ [] in
    device_looks_hear (e.heard - 0 + 0) (is_whole d.frame all) (device_takes v g w all)
    (record v { doing = device.Taking (g ∷ w ∷ all) }) (omega arith) (omega arith)
device_hears_at ws d e (device.Taking (g ∷ [])) op.Take (Load p) r h = omega arith
device_hears_at ws d e device.Idle op.Give (Store p x) r h = omega arith
device_hears_at ws d e (device.Giving (b ∷ [])) op.Give (Store p x) r h = omega arith
device_hears_at ws d e (device.Giving (b ∷ c ∷ [])) op.Give (Store p x) r h = omega arith
device_hears_at ws d e (device.Ringing old new) op.Give (Store p x) r h = omega arith
device_hears_at ws d e device.Idle op.Arm (Store p x) r h = omega arith
device_hears_at ws d e device.Idle op.Disarm (Store p x) r h = omega arith
device_hears_at ws d e device.Idle op.Disarm (Load p) r h = omega arith
device_hears_at ws d e device.Idle op.Rest (Store p x) r h = omega arith
device_hears_at ws d e device.Idle op.Rest (Load p) r h = omega arith
device_hears_at ws d e device.Resting op.Rest (Load p) r h = omega arith
device_hears_at ws d e device.Idle op.Control (Store p x) r h = omega arith
device_hears_at ws d e device.Idle op.Control (Load p) r h = omega arith
device_hears_at ws d e _ _ _ r h = absurd h

pub device_hears : (ws : List ℕ) (d : DriverView) (e : DeviceView) (o : Op) (a : Access) → Ring ws d e → DeviceNext e o a
    → device_hearings e + device_woken o (device_act e o a (answered ws a)) ≤ device_hearings (device_after e o a (answered ws a))
device_hears ws d e o a r h =
    subst (λ (f : Frame). Ring ws d (record e { frame = f }) → DeviceNext (record e { frame = f }) o a
    → device_hearings (record e { frame = f }) + device_woken o (device_act (record e { frame = f }) o a (answered ws a))
    ≤ device_hearings (device_after (record e { frame = f }) o a (answered ws a)))
    (sym r.same) (device_hears_at ws d e e.doing o a) r h
