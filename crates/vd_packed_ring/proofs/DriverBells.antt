-- The driver's accesses of event words and bells keep the ring invariant.
use Rattle.std.proofs.Common.{◌≡◌, ◌≢◌, ℕ, ◌+◌, ◌*◌, ◌<◌, ◌≤◌, ◌==◌, Bool, true, false, Option, Some, None, List, [], length, if◌then◌else◌, slice_index, slice_set, refl, sym, ap, ◌∙◌, subst, arith, inl, inr, ◌⊎◌}
use Rattle.std.proofs.lemmas.Bool.{eqb-false, cases_lt}
use Rattle.vd_words.specs.declared.access.Op.TheVariants as op
use Rattle.vd_ring.specs.declared.frame.Frame.{Frame}
use Rattle.vd_ring.specs.declared.frame.Put.{Put}
use Rattle.vd_ring.specs.declared.driver.DriverDone.{DriverDone}
use Rattle.vd_ring.specs.declared.driver.DriverNow.{DriverNow}
use Rattle.vd_ring.specs.declared.driver.DriverNow.TheVariants.{Idle, Checking, Ringing, Arming, Disarming}
use Rattle.vd_ring.specs.declared.driver.DriverView.{DriverView}
use Rattle.vd_ring.specs.declared.device.DeviceDone.{DeviceDone}
use Rattle.vd_ring.specs.declared.device.DeviceView.{DeviceView}
use Rattle.vd_ring.specs.History.{collects, gives}
use Rattle.vd_ring.specs.Control.{Commands}
use Rattle.vd_ring.specs.Places.{Places}
use Rattle.vd_ring.specs.Signals.{Signals}
use Rattle.vd_ring.specs.laws.Signals as signal
use Rattle.vd_ring.proofs.ControlSteps.{commands_elsewhere}
use Rattle.vd_packed_ring.specs.PackedWords.{IsDrivers, width, tables_from, commands_from, driver_event, device_event, kick_at, call_at, command_word, ack_word, second_word, is_used}
use Rattle.vd_packed_ring.specs.PackedSignals.{armed_value, disabled, bell_word, asks, StoresEvent, StoresDisable, StoresBell}
use Rattle.vd_packed_ring.specs.PackedPositions.{offer_position, collect_position, give_position, made_at, second_at, later}
use Rattle.vd_packed_ring.specs.PackedDriver.{driver_checks, driver_rings, driver_arms, driver_wakes, driver_looks_again, driver_hears}
use Rattle.vd_packed_ring.specs.PackedRing.{Ring, Words, Row, SideSignals, puts_of, DriverDoing, chains_out, chains_in, entries_out, entries_in, DriverArmed}
use Rattle.vd_packed_ring.proofs.Areas.{areas, acks_follow, driver_stores}
use Rattle.vd_packed_ring.proofs.Rows.{row_elsewhere}
use Rattle.vd_packed_ring.proofs.Kept.{AreKept, kept_past}
use Rattle.vd_packed_ring.proofs.Positions.{later_second, later_within}
use Rattle.vd_packed_ring.proofs.Bells.{asks_armed, armed_word, signals_armed, signals_disarmed, signals_awake, signals_rung}
use Rattle.vd_packed_ring.proofs.Collects.{all_collected, shows_none, found, entry_before}

-- the words that such an access leaves, where nothing is staged
record Kept (f : Frame) (o : List DriverDone) (s : List DeviceDone) (ws driven served : List ℕ) : Type 0 where
  words : Words f ws driven served
  addresses : Row f.size 0 driven (offer_position f o) [] (λ q. (made_at f o q).addr)
  seconds : Row f.size 1 ws (offer_position f o) [] (second_at f o s)
  tables : AreKept f o driven
  commands : Commands f (command_word f) (ack_word f) o driven

-- the parts that it changes
record DriverSide (d : DriverView) (e : DeviceView) : Type 0 where
  clear : puts_of d.doing ≡ []
  doing : (ws : List ℕ) → DriverDoing d.doing d.frame d.done ws
  signals : SideSignals d.frame (driver_event d.frame) (kick_at d.frame) d.armed d.bells d.stored
  kicks : Signals (chains_out d) (chains_in e)
  calls : Signals (entries_out e) (entries_in d)
  is_armed : DriverArmed d.doing d.frame d.armed (collect_position d.frame d.done) d.heard
  seen : d.seen ≤ give_position d.frame e.done
  shown : d.shown ≡ true → collect_position d.frame d.done < d.seen

-- the others stay
ring_after : (ws us : List ℕ) (d : DriverView) (e : DeviceView) (st : List ℕ) (now : DriverNow) (at : Option ℕ) (h b n : ℕ) (x : Bool)
    → Ring ws d e → Kept d.frame d.done e.done us st e.stored
    → DriverSide (record d { stored = st; doing = now; armed = at; heard = h; bells = b; seen = n; shown = x }) e
    → Ring us (record d { stored = st; doing = now; armed = at; heard = h; bells = b; seen = n; shown = x }) e
ring_after ws us d e st now at h b n x r k s =
    let f : Frame = d.frame in let o : List DriverDone = d.done in record {
      same = r.same;
      lawful = r.lawful;
      words = k.words;
      places = r.places;
      room = r.room;
      addresses = subst (λ (l : List Put). Row f.size 0 st (offer_position f o) l (λ q. (made_at f o q).addr)) (sym s.clear) k.addresses;
      seconds = subst (λ (l : List Put). Row f.size 1 us (offer_position f o) l (second_at f o e.done)) (sym s.clear) k.seconds;
      tables = k.tables;
      lists = r.lists;
      short = r.short;
      driver_signals = s.signals;
      device_signals = r.device_signals;
      commands = k.commands;
      acks = r.acks;
      driver_doing = s.doing us;
      device_doing = r.device_doing;
      kicks = s.kicks;
      calls = s.calls;
      driver_armed = s.is_armed;
      device_armed = r.device_armed;
      driver_seen = s.seen;
      device_seen = r.device_seen;
      driver_shown = s.shown;
      device_shown = r.device_shown;
      rested = r.rested;
    }

both : (b : Bool) → b ≡ true → b ≡ false → ⊥
both b on off = let e : true ≡ false = sym on ∙ off in cc

-- ---- the words

-- a load leaves them
kept : (ws : List ℕ) (d : DriverView) (e : DeviceView) → puts_of d.doing ≡ [] → Ring ws d e
    → Kept d.frame d.done e.done ws d.stored e.stored
kept ws d e clear r =
    let f : Frame = d.frame in let o : List DriverDone = d.done in record {
      words = r.words;
      addresses = subst (λ (l : List Put). Row f.size 0 d.stored (offer_position f o) l (λ q. (made_at f o q).addr)) clear r.addresses;
      seconds = subst (λ (l : List Put). Row f.size 1 ws (offer_position f o) l (second_at f o e.done)) clear r.seconds;
      tables = r.tables;
      commands = r.commands;
    }

-- a store past the descriptors that is in no command word
stored_past : (f : Frame) (o : List DriverDone) (s : List DeviceDone) (ws driven served : List ℕ) (q x : ℕ) → 0 < f.size
    → 2 * f.size ≤ q → IsDrivers f q → ((q < tables_from f) ⊎ (commands_from f ≤ q))
    → (f.control ≡ true → (h i : ℕ) → h < f.size → i < 2 → command_word f h + i ≢ q) → Places f o → Kept f o s ws driven served
    → Kept f o s (slice_set ws q x) (slice_set driven q x) served
stored_past f o s ws driven served q x pos past own out apart pl k = record {
  words = driver_stores f ws driven served q x k.words own;
  addresses = row_elsewhere f.size 0 driven (offer_position f o) [] (λ j. (made_at f o j).addr) q x pos (λ j a e2. omega arith) k.addresses;
  seconds = row_elsewhere f.size 1 ws (offer_position f o) [] (second_at f o s) q x pos (λ j a e2. omega arith) k.seconds;
  tables = kept_past f o driven q x pl out k.tables;
  commands = at f.control refl;
}
  where
    at : (b : Bool) → f.control ≡ b → Commands f (command_word f) (ack_word f) o (slice_set driven q x)
    at true on = commands_elsewhere f (command_word f) (ack_word f) o driven q x pl (apart on) k.commands
    at false off = record {
      chains = k.commands.chains;
      last = λ on. absurd (both f.control on off);
      stand =
          λ on. absurd (both f.control on off);
    }

kept_event : (ws : List ℕ) (d : DriverView) (e : DeviceView) (x : ℕ) → puts_of d.doing ≡ [] → Ring ws d e
    → Kept d.frame d.done e.done (slice_set ws (driver_event d.frame) x) (slice_set d.stored (driver_event d.frame) x) e.stored
kept_event ws d e x clear r = stored_past d.frame d.done e.done ws d.stored e.stored (driver_event d.frame) x
    (omega (arith, r.lawful.least)) (omega arith) (inr (inl refl)) (inl (omega arith)) (λ on h i a two e2. omega (arith, areas d.frame))
    r.places (kept ws d e clear r)

kept_kick : (ws : List ℕ) (d : DriverView) (e : DeviceView) (x : ℕ) → puts_of d.doing ≡ [] → Ring ws d e
    → Kept d.frame d.done e.done (slice_set ws (kick_at d.frame) x) (slice_set d.stored (kick_at d.frame) x) e.stored
kept_kick ws d e x clear r =
    let f : Frame = d.frame in
    stored_past f d.done e.done ws d.stored e.stored (kick_at f) x (omega (arith, r.lawful.least)) (omega (arith, areas f))
    (inr (inr (inr refl))) (inr (omega (arith, areas f))) (λ on h i a two e2. omega (arith, areas f, acks_follow f on)) r.places
    (kept ws d e clear r)

-- ---- the check

checks_at : (ws : List ℕ) (d : DriverView) (e : DeviceView) (old new word : ℕ) (b : Bool)
    → Ring ws (record d { doing = Checking old new }) e → ((s : ℕ) → e.armed ≡ Some s → word ≡ armed_value d.frame s)
    → asks d.frame old new word ≡ b
    → Ring ws (record d { doing = if b then Ringing old new else Idle }) e
checks_at ws d e old new word true r stands is =
    let D : DriverView = record d { doing = Checking old new } in
    ring_after ws ws D e d.stored (Ringing old new) d.armed d.heard d.bells d.seen d.shown r (kept ws D e refl r) record {
      clear = refl;
      doing = λ us. tt;
      signals = r.driver_signals;
      kicks = signal.rings (chains_out D) (chains_in e) old new refl r.kicks;
      calls = r.calls;
      is_armed = r.driver_armed.0;
      seen = r.driver_seen;
      shown = r.driver_shown;
    }
checks_at ws d e old new word false r stands is =
    let D : DriverView = record d { doing = Checking old new } in
    ring_after ws ws D e d.stored Idle d.armed d.heard d.bells d.seen d.shown r (kept ws D e refl r) record {
      clear = refl;
      doing = λ us. tt;
      signals = r.driver_signals;
      kicks = signal.quiets (chains_out D) (chains_in e) old new refl
          (λ s at low high. both (asks d.frame old new word)
          (asks_armed d.frame old new s word r.lawful r.driver_armed.1 low high (stands s at)) is) r.kicks;
      calls = signal.moves (entries_out e) (entries_in D) (collect_position d.frame d.done) true r.driver_armed.0 r.calls;
      is_armed = tt;
      seen = r.driver_seen;
      shown = r.driver_shown;
    }

pub checks : (ws : List ℕ) (d : DriverView) (e : DeviceView) (old new p : ℕ) → Ring ws (record d { doing = Checking old new }) e
    → p ≡ device_event d.frame → Ring ws (driver_checks (record d { doing = Checking old new }) old new (slice_index ws p)) e
checks ws d e old new p r at =
    let f : Frame = d.frame in
    let word : slice_index ws p ≡ slice_index e.stored (device_event f) =
    ap (λ q. slice_index ws q) at ∙ r.words.devices (device_event f) (inl refl) in
    checks_at ws d e old new (slice_index ws p) (asks f old new (slice_index ws p)) r
    (λ s is. word ∙ armed_word f (device_event f) (call_at f) e.armed e.bells s e.stored r.device_signals is) refl

-- ---- the bell

pub rings_bell : (ws : List ℕ) (d : DriverView) (e : DeviceView) (old new p x : ℕ) → Ring ws (record d { doing = Ringing old new }) e
    → StoresBell (kick_at d.frame) d.bells p x → Ring (slice_set ws p x) (driver_rings (record d { doing = Ringing old new }) p x) e
rings_bell ws d e old new p x r n =
    let f : Frame = d.frame in
    let q : ℕ = kick_at f in
    let y : ℕ = bell_word (d.bells + 1) in
    let D : DriverView = record d { doing = Ringing old new } in
    let wide : length d.stored ≡ width f = r.words.wide.1 in
    subst (λ i. Ring (slice_set ws i x) (driver_rings D i x) e) (sym n.place)
    (subst (λ z. Ring (slice_set ws q z) (driver_rings D q z) e) (sym n.word)
    (ring_after ws (slice_set ws q y) D e (slice_set d.stored q y) Idle d.armed d.heard (d.bells + 1) d.seen d.shown r
    (kept_kick ws D e y refl r) record {
      clear = refl;
      doing = λ us. tt;
      signals = signals_rung f (driver_event f) q d.armed d.bells (d.bells + 1) d.stored (omega arith)
          (λ a. omega (arith, areas f)) r.driver_signals;
      kicks = signal.rung (chains_out D) (chains_in e) old new refl r.kicks;
      calls = signal.moves (entries_out e) (entries_in D) (collect_position f d.done) true r.driver_armed r.calls;
      is_armed = tt;
      seen = r.driver_seen;
      shown = r.driver_shown;
    }))

-- ---- arming

-- the store of the driver's own event word
pub arms : (ws : List ℕ) (d : DriverView) (e : DeviceView) (p x : ℕ) → Ring ws (record d { doing = Idle }) e → d.armed ≡ None
    → StoresEvent d.frame (driver_event d.frame) (collect_position d.frame d.done) p x
    → Ring (slice_set ws p x) (driver_arms (record d { doing = Idle }) p x) e
arms ws d e p x r unarmed n =
    let f : Frame = d.frame in let D : DriverView = record d { doing = Idle } in
    let s : ℕ = collect_position f d.done in
    let q : ℕ = driver_event f in let y : ℕ = armed_value f s in
    let wide : length d.stored ≡ width f = r.words.wide.1 in
    subst (λ i. Ring (slice_set ws i x) (driver_arms D i x) e) (sym n.place)
    (subst (λ z. Ring (slice_set ws q z) (driver_arms D q z) e) (sym n.word)
    (ring_after ws (slice_set ws q y) D e (slice_set d.stored q y) Arming (Some s) d.heard d.bells d.seen d.shown r
    (kept_event ws D e y refl r) record {
      clear = refl;
      doing = λ us. tt;
      signals = signals_armed f q (kick_at f) d.armed d.bells s d.stored (omega (arith, areas f))
          (λ a. omega (arith, areas f)) r.driver_signals;
      kicks = r.kicks;
      calls = signal.arms (entries_out e) (entries_in D) r.calls;
      is_armed = refl;
      seen = r.driver_seen;
      shown = r.driver_shown;
    }))

-- ---- the second look

-- it shows an entry
wakes_at : (ws : List ℕ) (d : DriverView) (e : DeviceView) (c : Bool) → Ring ws (record d { doing = Arming }) e
    → length (collects d.done) < length (gives e.done) → d.frame.features.event_idx ≡ c
    → Ring ws (record d {
      seen = later d.seen (collect_position d.frame d.done + 1);
      shown = true;
      armed = None;
      doing =
          if c then Idle else Disarming op.Arm;
    }) e
wakes_at ws d e true r more idx =
    let f : Frame = d.frame in let D : DriverView = record d { doing = Arming } in let q : ℕ = collect_position f d.done + 1 in
    ring_after ws ws D e d.stored Idle None d.heard d.bells (later d.seen q) true r (kept ws D e refl r) record {
      clear = refl;
      doing = λ us. tt;
      signals = signals_awake f (driver_event f) (kick_at f) d.armed d.bells d.stored r.driver_signals;
      kicks = r.kicks;
      calls = signal.wakes (entries_out e) (entries_in D) true r.calls;
      is_armed = tt;
      seen = later_within _ _ _ r.driver_seen (omega (arith, entry_before f d.done e.done r.places r.lists more));
      shown = λ h. omega (arith, later_second d.seen q);
    }
wakes_at ws d e false r more idx =
    let f : Frame = d.frame in let D : DriverView = record d { doing = Arming } in let q : ℕ = collect_position f d.done + 1 in
    ring_after ws ws D e d.stored (Disarming op.Arm) None d.heard d.bells (later d.seen q) true r (kept ws D e refl r) record {
      clear = refl;
      doing = λ us. tt;
      signals = signals_awake f (driver_event f) (kick_at f) d.armed d.bells d.stored r.driver_signals;
      kicks = r.kicks;
      calls = signal.wakes (entries_out e) (entries_in D) false r.calls;
      is_armed = (refl, idx, tt);
      seen = later_within _ _ _ r.driver_seen (omega (arith, entry_before f d.done e.done r.places r.lists more));
      shown = λ h. omega (arith, later_second d.seen q);
    }

-- it shows nothing
sleeps_at : (ws : List ℕ) (d : DriverView) (e : DeviceView) → Ring ws (record d { doing = Arming }) e
    → length (gives e.done) ≤ length (collects d.done)
    → Ring ws (record d { seen = later d.seen (collect_position d.frame d.done); shown = false; doing = Idle }) e
sleeps_at ws d e r none =
    let f : Frame = d.frame in let D : DriverView = record d { doing = Arming } in let q : ℕ = collect_position f d.done in
    let same : q ≡ give_position f e.done = all_collected f d.done e.done r.lists none in
    let at : give_position e.frame e.done ≡ give_position f e.done = ap (λ (g : Frame). give_position g e.done) r.same in
    ring_after ws ws D e d.stored Idle d.armed d.heard d.bells (later d.seen q) false r (kept ws D e refl r) record {
      clear = refl;
      doing = λ us. tt;
      signals = r.driver_signals;
      kicks = r.kicks;
      calls = signal.armed (entries_out e) (entries_in D) (omega arith) r.calls;
      is_armed = tt;
      seen = later_within _ _ _ r.driver_seen (omega arith);
      shown = λ h. absurd cc;
    }

pub looks_again : (ws : List ℕ) (d : DriverView) (e : DeviceView) (w : ℕ) → Ring ws (record d { doing = Arming }) e
    → w ≡ slice_index ws (second_word d.frame.size (collect_position d.frame d.done))
    → Ring ws (driver_looks_again (record d { doing = Arming }) w) e
looks_again ws d e w r is =
    let f : Frame = d.frame in let D : DriverView = record d { doing = Arming } in let q : ℕ = collect_position f d.done in
    let after : Bool → Type 0 = λ b.
    Ring ws (if b then record d { seen = later d.seen (q + 1); shown = true; armed = None; doing = driver_wakes f op.Arm } else record d
    { seen = later d.seen q; shown = false; doing = Idle }) e in
    elim (cases_lt (length (collects d.done)) (length (gives e.done))) [
      | inl more ↦ subst after (sym (ap (is_used f.size q) is ∙ (found ws D e refl r more).shows))
          (wakes_at ws d e f.features.event_idx r more refl)
      | inr none ↦ subst after (sym (ap (is_used f.size q) is ∙ shows_none ws D e refl r none)) (sleeps_at ws d e r none)
    ]

-- ---- hearing

some_heard : (a h : ℕ) → a ≢ h → h ≤ a → 1 ≤ a
some_heard a h ne le = omega (arith, ne)

hears_at : (ws : List ℕ) (d : DriverView) (e : DeviceView) (g : ℕ) (b c : Bool) → g ≡ e.bells → Ring ws (record d { doing = Idle }) e
    → (g == d.heard) ≡ b → d.frame.features.event_idx ≡ c
    → Ring ws (if b then record d { doing = Idle } else record d {
      heard = g;
      armed = None;
      doing =
          if c then Idle else Disarming op.Hear;
    }) e
hears_at ws d e g true c is r eq idx = r
hears_at ws d e g false true is r eq idx =
    let f : Frame = d.frame in let D : DriverView = record d { doing = Idle } in
    ring_after ws ws D e d.stored Idle None g d.bells d.seen d.shown r (kept ws D e refl r) record {
      clear = refl;
      doing = λ us. tt;
      signals = signals_awake f (driver_event f) (kick_at f) d.armed d.bells d.stored r.driver_signals;
      kicks = r.kicks;
      calls = subst (λ n. Signals (entries_out e) (record { at = collect_position f d.done; idle = true; armed = None; heard = n }))
          (sym is) (signal.hears (entries_out e) (entries_in D) true r.calls);
      is_armed = tt;
      seen = r.driver_seen;
      shown = r.driver_shown;
    }
hears_at ws d e g false false is r eq idx =
    let f : Frame = d.frame in let D : DriverView = record d { doing = Idle } in
    ring_after ws ws D e d.stored (Disarming op.Hear) None g d.bells d.seen d.shown r (kept ws D e refl r) record {
      clear = refl;
      doing = λ us. tt;
      signals = signals_awake f (driver_event f) (kick_at f) d.armed d.bells d.stored r.driver_signals;
      kicks = r.kicks;
      calls = subst (λ n. Signals (entries_out e) (record { at = collect_position f d.done; idle = false; armed = None; heard = n }))
          (sym is) (signal.hears (entries_out e) (entries_in D) false r.calls);
      is_armed = (refl, idx, some_heard g d.heard (eqb-false g d.heard eq) (omega (arith, r.calls.heard)));
      seen = r.driver_seen;
      shown = r.driver_shown;
    }

pub hears : (ws : List ℕ) (d : DriverView) (e : DeviceView) (g : ℕ) → g ≡ e.bells → Ring ws (record d { doing = Idle }) e
    → Ring ws (driver_hears (record d { doing = Idle }) g) e
hears ws d e g is r = hears_at ws d e g (g == d.heard) d.frame.features.event_idx is r refl refl

-- ---- disarming

-- the disarming store, after which it is idle and not armed
pub disarms : (ws : List ℕ) (d : DriverView) (e : DeviceView) (now : DriverNow) (p x : ℕ) → puts_of now ≡ []
    → Ring ws (record d { doing = now }) e → Signals (chains_out (record d { doing = Idle })) (chains_in e)
    → StoresDisable d.frame (driver_event d.frame) p x
    → Ring (slice_set ws p x) (record d { stored = slice_set d.stored p x; armed = None; doing = Idle }) e
disarms ws d e now p x clear r kicks n =
    let f : Frame = d.frame in let D : DriverView = record d { doing = now } in
    let q : ℕ = driver_event f in
    let wide : length d.stored ≡ width f = r.words.wide.1 in
    subst (λ i. Ring (slice_set ws i x) (record d { stored = slice_set d.stored i x; armed = None; doing = Idle }) e) (sym n.place)
    (subst (λ z. Ring (slice_set ws q z) (record d { stored = slice_set d.stored q z; armed = None; doing = Idle }) e) (sym n.word)
    (ring_after ws (slice_set ws q disabled) D e (slice_set d.stored q disabled) Idle None d.heard d.bells d.seen d.shown r
    (kept_event ws D e disabled clear r) record {
      clear = refl;
      doing = λ us. tt;
      signals = signals_disarmed f q (kick_at f) d.armed d.bells d.stored n.flagged (omega (arith, areas f))
          (λ a. omega (arith, areas f)) r.driver_signals;
      kicks = kicks;
      calls = signal.wakes (entries_out e) (entries_in D) true r.calls;
      is_armed = tt;
      seen = r.driver_seen;
      shown = r.driver_shown;
    }))

-- it is disarmed by a load
pub disarmed : (ws : List ℕ) (d : DriverView) (e : DeviceView) → Ring ws (record d { doing = Idle }) e
    → Ring ws (record d { armed = None; doing = Idle }) e
disarmed ws d e r =
    let f : Frame = d.frame in let D : DriverView = record d { doing = Idle } in
    ring_after ws ws D e d.stored Idle None d.heard d.bells d.seen d.shown r (kept ws D e refl r) record {
      clear = refl;
      doing = λ us. tt;
      signals = signals_awake f (driver_event f) (kick_at f) d.armed d.bells d.stored r.driver_signals;
      kicks = r.kicks;
      calls = signal.wakes (entries_out e) (entries_in D) true r.calls;
      is_armed = tt;
      seen = r.driver_seen;
      shown = r.driver_shown;
    }
