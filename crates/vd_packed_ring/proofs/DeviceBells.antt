-- The device's accesses of event words and bells keep the ring invariant.
use Rattle.std.proofs.Common.{◌≡◌, ◌≢◌, ℕ, ◌+◌, ◌*◌, ◌<◌, ◌≤◌, ◌==◌, Bool, true, false, Option, Some, None, List, length, if◌then◌else◌, slice_index, slice_set, refl, sym, ap, ◌∙◌, subst, arith, inl, inr}
use Rattle.std.proofs.lemmas.Bool.{eqb-false}
use Rattle.vd_words.specs.declared.access.Op.TheVariants as op
use Rattle.vd_ring.specs.declared.frame.Frame.{Frame}
use Rattle.vd_ring.specs.declared.driver.DriverDone.{DriverDone}
use Rattle.vd_ring.specs.declared.driver.DriverView.{DriverView}
use Rattle.vd_ring.specs.declared.device.DeviceDone.{DeviceDone}
use Rattle.vd_ring.specs.declared.device.DeviceNow.{DeviceNow}
use Rattle.vd_ring.specs.declared.device.DeviceNow.TheVariants.{Idle, Checking, Ringing, Arming, Disarming, Resting}
use Rattle.vd_ring.specs.declared.device.DeviceView.{DeviceView}
use Rattle.vd_ring.specs.History.{IsWhole}
use Rattle.vd_ring.specs.Control.{Acks}
use Rattle.vd_ring.specs.Places.{Places}
use Rattle.vd_ring.specs.Lists.{Lists}
use Rattle.vd_ring.specs.Signals.{Signals}
use Rattle.vd_ring.specs.laws.Signals as signal
use Rattle.vd_ring.proofs.DeviceAcks.{acks_elsewhere}
use Rattle.vd_packed_ring.specs.PackedWords.{IsDevices, width, driver_event, device_event, kick_at, call_at, ack_word, second_word, is_available}
use Rattle.vd_packed_ring.specs.PackedSignals.{armed_value, disabled, bell_word, asks, StoresEvent, StoresDisable, StoresBell}
use Rattle.vd_packed_ring.specs.PackedPositions.{offer_position, take_position, second_at, later}
use Rattle.vd_packed_ring.specs.PackedDevice.{device_checks, device_rings, device_arms, device_looks_again, device_hears}
use Rattle.vd_packed_ring.specs.PackedRing.{Ring, SideSignals, puts_of, DeviceDoing, DeviceArmed, chains_out, chains_in, entries_out, entries_in}
use Rattle.vd_packed_ring.proofs.Areas.{areas, acks_follow, device_stores, devices_inside}
use Rattle.vd_packed_ring.proofs.Rows.{row_elsewhere}
use Rattle.vd_packed_ring.proofs.Positions.{order, later_second, later_within}
use Rattle.vd_packed_ring.proofs.Clear.{doing_past, doing_other}
use Rattle.vd_packed_ring.proofs.Bells.{asks_armed, armed_word, signals_armed, signals_disarmed, signals_awake, signals_rung}
use Rattle.vd_packed_ring.proofs.DeviceParts.{ring_with}
use Rattle.vd_packed_ring.proofs.Takes.{finds}

both : (b : Bool) → b ≡ true → b ≡ false → ⊥
both b on off = let e : true ≡ false = sym on ∙ off in cc

-- ---- acks, which lie between the device's event word and its bell

acks_event : (f : Frame) (o : List DriverDone) (s : List DeviceDone) (st : List ℕ) (x : ℕ) → Places f o → Lists f o s
    → Acks f (ack_word f) o s st → Acks f (ack_word f) o s (slice_set st (device_event f) x)
acks_event f o s st x pl l a = acks_elsewhere f (ack_word f) o s st (device_event f) x pl l (λ h low e. omega (arith, areas f)) a

acks_call : (f : Frame) (o : List DriverDone) (s : List DeviceDone) (st : List ℕ) (x : ℕ) → Places f o → Lists f o s
    → Acks f (ack_word f) o s st → Acks f (ack_word f) o s (slice_set st (call_at f) x)
acks_call f o s st x pl l a = at f.control refl
  where
    at : (b : Bool) → f.control ≡ b → Acks f (ack_word f) o s (slice_set st (call_at f) x)
    at true on = acks_elsewhere f (ack_word f) o s st (call_at f) x pl l (λ h low e. omega (arith, acks_follow f on)) a
    at false off = record {
      last = λ on. absurd (both f.control on off);
      stand = λ on. absurd (both f.control on off);
      collected = λ on. absurd (both f.control on off);
      commands_agree = a.commands_agree;
      acks_agree = a.acks_agree;
    }

-- ---- an access that stores nothing

quietly : (ws : List ℕ) (d : DriverView) (e : DeviceView) (now : DeviceNow) (at : Option ℕ) (h n : ℕ) (x : Bool)
    → Ring ws d (record e { frame = d.frame }) → SideSignals d.frame (device_event d.frame) (call_at d.frame) at e.bells e.stored
    → DeviceDoing now d.frame d.done e.done
    → Signals (chains_out d) (chains_in (record e { frame = d.frame; doing = now; armed = at; heard = h; seen = n; shown = x }))
    → Signals (entries_out (record e { frame = d.frame; doing = now; armed = at; heard = h; seen = n; shown = x })) (entries_in d)
    → DeviceArmed now d.frame at (take_position d.frame e.done) h → n ≤ offer_position d.frame d.done
    → (x ≡ true → take_position d.frame e.done < n)
    → Ring ws d (record e { frame = d.frame; doing = now; armed = at; heard = h; seen = n; shown = x })
quietly ws d e now at h n x r signals doing kicks calls is_armed seen shown =
    ring_with ws ws d (record e { frame = d.frame }) (record e {
      frame = d.frame;
      doing = now;
      armed = at;
      heard = h;
      seen = n;
      shown =
          x;
    }) r record {
      same = refl;
      words = r.words;
      seconds = r.seconds;
      lists = r.lists;
      short = r.short;
      signals = signals;
      acks = r.acks;
      driver_doing = r.driver_doing;
      device_doing = doing;
      kicks = kicks;
      calls = calls;
      armed = is_armed;
      driver_seen = r.driver_seen;
      device_seen = seen;
      device_shown = shown;
      rested = r.rested;
    }

-- ---- a store of its event word or its bell

own_store : (ws : List ℕ) (d : DriverView) (e : DeviceView) (q y n : ℕ) (now : DeviceNow) (at : Option ℕ)
    → Ring ws d (record e { frame = d.frame }) → IsDevices d.frame q → 2 * d.frame.size ≤ q
    → SideSignals d.frame (device_event d.frame) (call_at d.frame) at n (slice_set e.stored q y)
    → Acks d.frame (ack_word d.frame) d.done e.done (slice_set e.stored q y) → DeviceDoing now d.frame d.done e.done
    → Signals (chains_out d) (chains_in (record e { frame = d.frame; doing = now; armed = at }))
    → Signals (entries_out (record e { frame = d.frame; bells = n; doing = now; armed = at })) (entries_in d)
    → DeviceArmed now d.frame at (take_position d.frame e.done) e.heard
    → Ring (slice_set ws q y) d (record e { frame = d.frame; stored = slice_set e.stored q y; bells = n; doing = now; armed = at })
own_store ws d e q y n now at r own past signals acks doing kicks calls is_armed =
    let f : Frame = d.frame in let o : List DriverDone = d.done in
    ring_with ws (slice_set ws q y) d (record e { frame = d.frame })
    (record e { frame = d.frame; stored = slice_set e.stored q y; bells = n; doing = now; armed = at }) r record {
      same = refl;
      words = device_stores f ws d.stored e.stored q y r.words own;
      seconds = row_elsewhere f.size 1 ws (offer_position f o) (puts_of d.doing) (second_at f o e.done) q y
          (omega (arith, r.lawful.least)) (λ i low is. omega arith) r.seconds;
      lists = r.lists;
      short = r.short;
      signals = signals;
      acks = acks;
      driver_doing = doing_other d.doing f o ws q y (doing_past d.doing f o ws q r.lawful r.driver_doing own) r.driver_doing;
      device_doing = doing;
      kicks = kicks;
      calls = calls;
      armed = is_armed;
      driver_seen = r.driver_seen;
      device_seen = r.device_seen;
      device_shown = r.device_shown;
      rested = r.rested;
    }

event_inside : (ws : List ℕ) (d : DriverView) (e : DeviceView) → Ring ws d (record e { frame = d.frame })
    → device_event d.frame < length e.stored
event_inside ws d e r = let wide : length e.stored ≡ width d.frame = r.words.wide.2 in
    omega (arith, devices_inside d.frame (device_event d.frame) (inl refl))

apart : (f : Frame) → call_at f ≢ device_event f
apart f = λ e. omega (arith, areas f)

-- ---- the check

checks_at : (ws : List ℕ) (d : DriverView) (e : DeviceView) (old new word : ℕ) (b : Bool)
    → Ring ws d (record e { frame = d.frame; doing = Checking old new }) → ((s : ℕ) → d.armed ≡ Some s → word ≡ armed_value d.frame s)
    → asks d.frame old new word ≡ b
    → Ring ws d (record e { frame = d.frame; doing = if b then Ringing old new else Idle })
checks_at ws d e old new word true r stands is =
    let E : DeviceView = record e { frame = d.frame; doing = Checking old new } in
    quietly ws d E (Ringing old new) e.armed e.heard e.seen e.shown r r.device_signals tt r.kicks
    (signal.rings (entries_out E) (entries_in d) old new refl r.calls) r.device_armed.0 r.device_seen r.device_shown
checks_at ws d e old new word false r stands is =
    let E : DeviceView = record e { frame = d.frame; doing = Checking old new } in
    quietly ws d E Idle e.armed e.heard e.seen e.shown r r.device_signals tt
    (signal.moves (chains_out d) (chains_in E) (take_position d.frame e.done) true r.device_armed.0 r.kicks)
    (signal.quiets (entries_out E) (entries_in d) old new refl
    (λ s at low high. both (asks d.frame old new word)
    (asks_armed d.frame old new s word r.lawful r.device_armed.1 low high (stands s at)) is) r.calls)
    tt r.device_seen r.device_shown

pub checks : (ws : List ℕ) (d : DriverView) (e : DeviceView) (old new p : ℕ)
    → Ring ws d (record e { frame = d.frame; doing = Checking old new }) → p ≡ driver_event d.frame
    → Ring ws d (device_checks (record e { frame = d.frame; doing = Checking old new }) old new (slice_index ws p))
checks ws d e old new p r at =
    let f : Frame = d.frame in
    let word : slice_index ws p ≡ slice_index d.stored (driver_event f) =
    ap (λ (q : ℕ). slice_index ws q) at ∙ r.words.drivers (driver_event f) (inr (inl refl)) in
    checks_at ws d e old new (slice_index ws p) (asks f old new (slice_index ws p)) r
    (λ s is. word ∙ armed_word f (driver_event f) (kick_at f) d.armed d.bells s d.stored r.driver_signals is) refl

-- ---- the bell

pub rings_bell : (ws : List ℕ) (d : DriverView) (e : DeviceView) (old new p x : ℕ)
    → Ring ws d (record e { frame = d.frame; doing = Ringing old new }) → StoresBell (call_at d.frame) e.bells p x
    → Ring (slice_set ws p x) d (device_rings (record e { frame = d.frame; doing = Ringing old new }) p x)
rings_bell ws d e old new p x r n =
    let f : Frame = d.frame in
    let E : DeviceView = record e { frame = d.frame; doing = Ringing old new } in
    let q : ℕ = call_at f in let y : ℕ = bell_word (e.bells + 1) in
    let wide : length e.stored ≡ width f = r.words.wide.2 in
    subst (λ (i : ℕ). Ring (slice_set ws i x) d (device_rings E i x)) (sym n.place)
    (subst (λ (z : ℕ). Ring (slice_set ws q z) d (device_rings E q z)) (sym n.word)
    (own_store ws d E q y (e.bells + 1) Idle e.armed r (inr (inr refl)) (omega (arith, areas f))
    (signals_rung f (device_event f) q e.armed e.bells (e.bells + 1) e.stored (omega arith) (λ is. apart f (sym is)) r.device_signals)
    (acks_call f d.done e.done e.stored y r.places r.lists r.acks) tt
    (signal.moves (chains_out d) (chains_in E) (take_position f e.done) true r.device_armed r.kicks)
    (signal.rung (entries_out E) (entries_in d) old new refl r.calls) tt))

-- ---- arming

pub arms : (ws : List ℕ) (d : DriverView) (e : DeviceView) (p x : ℕ) → Ring ws d (record e { frame = d.frame; doing = Idle })
    → StoresEvent d.frame (device_event d.frame) (take_position d.frame e.done) p x
    → Ring (slice_set ws p x) d (device_arms (record e { frame = d.frame; doing = Idle }) p x)
arms ws d e p x r n =
    let f : Frame = d.frame in let E : DeviceView = record e { frame = d.frame; doing = Idle } in
    let q : ℕ = device_event f in let at : ℕ = take_position f e.done in let y : ℕ = armed_value f at in
    subst (λ (i : ℕ). Ring (slice_set ws i x) d (device_arms E i x)) (sym n.place)
    (subst (λ (z : ℕ). Ring (slice_set ws q z) d (device_arms E q z)) (sym n.word)
    (own_store ws d E q y e.bells Arming (Some at) r (inl refl) (omega arith)
    (signals_armed f q (call_at f) e.armed e.bells at e.stored (event_inside ws d E r) (apart f) r.device_signals)
    (acks_event f d.done e.done e.stored y r.places r.lists r.acks) tt (signal.arms (chains_out d) (chains_in E) r.kicks) r.calls refl))

-- ---- the second look

looks_again_at : (ws : List ℕ) (d : DriverView) (e : DeviceView) (g : ℕ) (b : Bool)
    → Ring ws d (record e { frame = d.frame; doing = Arming })
    → g ≡ slice_index ws (second_word d.frame.size (take_position d.frame e.done))
    → is_available d.frame.size (take_position d.frame e.done) g ≡ b
    → Ring ws d (if b then record e {
      frame = d.frame;
      seen = later e.seen (take_position d.frame e.done + 1);
      shown = true;
      armed =
          None;
      doing = if d.frame.features.event_idx then Idle else Disarming op.Arm;
    } else record e {
      frame = d.frame;
      seen =
          later e.seen (take_position d.frame e.done);
      shown = false;
      doing = Idle;
    })
looks_again_at ws d e g false r is eq =
    let f : Frame = d.frame in let E : DeviceView = record e { frame = d.frame; doing = Arming } in
    let none = (finds ws d E g r is).none eq in
    let ord = order f d.done e.done r.places r.lists in
    quietly ws d E Idle e.armed e.heard (later e.seen (take_position f e.done)) false r r.device_signals tt
    (signal.armed (chains_out d) (chains_in E) (omega (arith, none)) r.kicks) r.calls tt
    (later_within _ _ _ r.device_seen ord.taken) (λ h. absurd cc)
looks_again_at ws d e g true r is eq = woken d.frame.features.event_idx refl
  where
    woken : (k : Bool) → d.frame.features.event_idx ≡ k
        → Ring ws d (record e {
          frame = d.frame;
          seen = later e.seen (take_position d.frame e.done + 1);
          shown = true;
          armed = None;
          doing = if k then Idle else Disarming op.Arm;
        })
    woken true on =
        let f : Frame = d.frame in let E : DeviceView = record e { frame = d.frame; doing = Arming } in
        let more = (finds ws d E g r is).some eq in
        quietly ws d E Idle None e.heard (later e.seen (take_position f e.done + 1)) true r
        (signals_awake f (device_event f) (call_at f) e.armed e.bells e.stored r.device_signals) tt
        (signal.wakes (chains_out d) (chains_in E) true r.kicks) r.calls tt
        (later_within _ _ _ r.device_seen more.1) (λ h. omega (arith, later_second e.seen (take_position f e.done + 1)))
    woken false off =
        let f : Frame = d.frame in let E : DeviceView = record e { frame = d.frame; doing = Arming } in
        let more = (finds ws d E g r is).some eq in
        quietly ws d E (Disarming op.Arm) None e.heard (later e.seen (take_position f e.done + 1)) true r
        (signals_awake f (device_event f) (call_at f) e.armed e.bells e.stored r.device_signals) tt
        (signal.wakes (chains_out d) (chains_in E) false r.kicks) r.calls (refl, off, tt)
        (later_within _ _ _ r.device_seen more.1) (λ h. omega (arith, later_second e.seen (take_position f e.done + 1)))

pub looks_again : (ws : List ℕ) (d : DriverView) (e : DeviceView) (g : ℕ) → Ring ws d (record e { frame = d.frame; doing = Arming })
    → g ≡ slice_index ws (second_word d.frame.size (take_position d.frame e.done))
    → Ring ws d (device_looks_again (record e { frame = d.frame; doing = Arming }) g)
looks_again ws d e g r is = looks_again_at ws d e g (is_available d.frame.size (take_position d.frame e.done) g) r is refl

-- ---- hearing

hears_at : (ws : List ℕ) (d : DriverView) (e : DeviceView) (g : ℕ) (b : Bool) → g ≡ d.bells
    → Ring ws d (record e { frame = d.frame; doing = Idle }) → (g == e.heard) ≡ b
    → Ring ws d (if b then record e { frame = d.frame; doing = Idle } else record e {
      frame = d.frame;
      heard = g;
      armed = None;
      doing =
          if d.frame.features.event_idx then Idle else Disarming op.Hear;
    })
hears_at ws d e g true is r eq = r
hears_at ws d e g false is r eq = woken d.frame.features.event_idx refl
  where
    some : (a h : ℕ) → a ≢ h → h ≤ a → 1 ≤ a
    some a h ne le = omega (arith, ne)

    woken : (k : Bool) → d.frame.features.event_idx ≡ k
        → Ring ws d (record e { frame = d.frame; heard = g; armed = None; doing = if k then Idle else Disarming op.Hear })
    woken true on =
        let f : Frame = d.frame in let E : DeviceView = record e { frame = d.frame; doing = Idle } in
        quietly ws d E Idle None g e.seen e.shown r
        (signals_awake f (device_event f) (call_at f) e.armed e.bells e.stored r.device_signals) tt
        (subst (λ (n : ℕ). Signals (chains_out d) (record { at = take_position f e.done; idle = true; armed = None; heard = n }))
        (sym is) (signal.hears (chains_out d) (chains_in E) true r.kicks)) r.calls tt r.device_seen r.device_shown
    woken false off =
        let f : Frame = d.frame in let E : DeviceView = record e { frame = d.frame; doing = Idle } in
        quietly ws d E (Disarming op.Hear) None g e.seen e.shown r
        (signals_awake f (device_event f) (call_at f) e.armed e.bells e.stored r.device_signals) tt
        (subst (λ (n : ℕ). Signals (chains_out d) (record { at = take_position f e.done; idle = false; armed = None; heard = n }))
        (sym is) (signal.hears (chains_out d) (chains_in E) false r.kicks)) r.calls
        (refl, off, some g e.heard (eqb-false g e.heard eq) (omega (arith, r.kicks.heard))) r.device_seen r.device_shown

-- g is the driver's bell
pub hears : (ws : List ℕ) (d : DriverView) (e : DeviceView) (g : ℕ) → g ≡ d.bells
    → Ring ws d (record e { frame = d.frame; doing = Idle }) → Ring ws d (device_hears (record e { frame = d.frame; doing = Idle }) g)
hears ws d e g is r = hears_at ws d e g (g == e.heard) is r refl

-- ---- disarming, and the first access of a rest

-- the disarming store, after which it is not armed
pub disarms : (ws : List ℕ) (d : DriverView) (e : DeviceView) (now next : DeviceNow) (p x : ℕ)
    → Ring ws d (record e { frame = d.frame; doing = now }) → DeviceDoing next d.frame d.done e.done
    → DeviceArmed next d.frame None (take_position d.frame e.done) e.heard
    → Signals (chains_out d) (chains_in (record e { frame = d.frame; doing = next; armed = None }))
    → Signals (entries_out (record e { frame = d.frame; doing = next })) (entries_in d)
    → StoresDisable d.frame (device_event d.frame) p x
    → Ring (slice_set ws p x) d (record e { frame = d.frame; stored = slice_set e.stored p x; armed = None; doing = next })
    × (p < width d.frame)
disarms ws d e now next p x r doing is_armed kicks calls n =
    let f : Frame = d.frame in let E : DeviceView = record e { frame = d.frame; doing = now } in
    let q : ℕ = device_event f in
    subst (λ (i : ℕ). Ring (slice_set ws i x) d (record e {
      frame = d.frame;
      stored = slice_set e.stored i x;
      armed = None;
      doing =
          next;
    }) × (i < width f)) (sym n.place)
    (subst (λ (z : ℕ). Ring (slice_set ws q z) d (record e {
      frame = d.frame;
      stored = slice_set e.stored q z;
      armed = None;
      doing =
          next;
    }) × (q < width f)) (sym n.word) (
      own_store ws d E q disabled e.bells next None r (inl refl) (omega arith)
          (signals_disarmed f q (call_at f) e.armed e.bells e.stored n.flagged (event_inside ws d E r) (apart f) r.device_signals)
          (acks_event f d.done e.done e.stored disabled r.places r.lists r.acks) doing kicks calls is_armed,
      devices_inside f q (inl refl),
    ))

-- it is disarmed by a load
pub disarmed : (ws : List ℕ) (d : DriverView) (e : DeviceView) → Ring ws d (record e { frame = d.frame; doing = Idle })
    → Ring ws d (record e { frame = d.frame; armed = None; doing = Idle })
disarmed ws d e r =
    let f : Frame = d.frame in let E : DeviceView = record e { frame = d.frame; doing = Idle } in
    quietly ws d E Idle None e.heard e.seen e.shown r
    (signals_awake f (device_event f) (call_at f) e.armed e.bells e.stored r.device_signals) tt
    (signal.wakes (chains_out d) (chains_in E) true r.kicks) r.calls tt r.device_seen r.device_shown

pub begins_rest : (ws : List ℕ) (d : DriverView) (e : DeviceView) → Ring ws d (record e { frame = d.frame; doing = Idle })
    → IsWhole e.done → Ring ws d (record e { frame = d.frame; armed = None; doing = Resting })
begins_rest ws d e r whole =
    let f : Frame = d.frame in let E : DeviceView = record e { frame = d.frame; doing = Idle } in
    quietly ws d E Resting None e.heard e.seen e.shown r
    (signals_awake f (device_event f) (call_at f) e.armed e.bells e.stored r.device_signals) whole
    (signal.wakes (chains_out d) (chains_in E) false r.kicks) r.calls refl r.device_seen r.device_shown
