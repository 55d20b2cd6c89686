-- The device's checks, bells and hearings keep the ring invariant.
use Rattle.std.proofs.Common.{◌≡◌, ◌≢◌, ℕ, ◌+◌, ◌%◌, ◌≤◌, ◌==◌, Bool, true, false, Some, None, List, length, if◌then◌else◌, slice_index, slice_set, refl, sym, ap, ◌∙◌, subst, arith, inl, inr}
use Rattle.std.proofs.lemmas.Bool.{eqb-false}
use Rattle.vd_bits.specs.Lanes.{lane16}
use Rattle.vd_words.specs.declared.access.Op.TheVariants as op
use Rattle.vd_ring.specs.declared.frame.Frame.{Frame}
use Rattle.vd_ring.specs.declared.driver.DriverView.{DriverView}
use Rattle.vd_ring.specs.declared.device.DeviceDone.{DeviceDone}
use Rattle.vd_ring.specs.declared.device.DeviceNow.TheVariants.{Idle, Checking, Ringing, Disarming}
use Rattle.vd_ring.specs.declared.device.DeviceView.{DeviceView}
use Rattle.vd_ring.specs.History.{takes}
use Rattle.vd_ring.specs.Signals.{Signals}
use Rattle.vd_ring.specs.laws.Signals as signal
use Rattle.vd_split_ring.specs.SplitWords.{width, call_at, lane_word, driver_event_lane, armed_value, wants, bell_word}
use Rattle.vd_split_ring.specs.SplitDevice.{StoresCall, device_checks, device_rings, device_hears}
use Rattle.vd_split_ring.specs.SplitRing.{Ring, chains_out, chains_in, entries_out, entries_in}
use Rattle.vd_split_ring.proofs.Areas.{device_stores, lane_inside}
use Rattle.vd_split_ring.proofs.DeviceParts.{ring_with}
use Rattle.vd_split_ring.proofs.Bells.{wants_armed, driver_event, driver_event_low}
use Rattle.vd_split_ring.proofs.DeviceSignalStores.{both, awake, call_stored, words_call, acks_call, quietly}

-- ---- the check

checks_at : (ws : List ℕ) (d : DriverView) (e : DeviceView) (old new event : ℕ) (b : Bool)
    → Ring ws d (record e { frame = d.frame; doing = Checking old new }) → ((s : ℕ) → d.armed ≡ Some s → event ≡ armed_value d.frame s)
    → wants d.frame old new event ≡ b
    → Ring ws d (record e { frame = d.frame; doing = if b then Ringing old new else Idle })
checks_at ws d e old new event true r stands is =
    let E : DeviceView = record e { frame = d.frame; doing = Checking old new } in
    quietly ws d E (Ringing old new) e.armed e.heard e.seen e.shown r r.device_signals tt r.kicks
    (signal.rings (entries_out E) (entries_in d) old new refl r.calls) r.device_armed.0 r.device_seen r.device_shown
checks_at ws d e old new event false r stands is =
    let E : DeviceView = record e { frame = d.frame; doing = Checking old new } in
    quietly ws d E Idle e.armed e.heard e.seen e.shown r r.device_signals tt
    (signal.moves (chains_out d) (chains_in E) (length (takes e.done)) true r.device_armed.0 r.kicks)
    (signal.quiets (entries_out E) (entries_in d) old new refl
    (λ s at low high. both (wants d.frame old new event)
    (wants_armed d.frame old new s event r.lawful r.device_armed.1 low high (stands s at)) is) r.calls)
    tt r.device_seen r.device_shown

pub checks : (ws : List ℕ) (d : DriverView) (e : DeviceView) (old new p : ℕ)
    → Ring ws d (record e { frame = d.frame; doing = Checking old new }) → p ≡ lane_word d.frame (driver_event_lane d.frame)
    → Ring ws d (device_checks (record e { frame = d.frame; doing = Checking old new }) old new (slice_index ws p))
checks ws d e old new p r at =
    let f : Frame = d.frame in
    let j : ℕ = driver_event_lane f in
    let event : ℕ = lane16 (slice_index ws p) (j % 4) in
    let word : slice_index ws p ≡ slice_index d.stored (lane_word f j) =
    ap (λ q. slice_index ws q) at ∙ r.words.drivers (lane_word f j) (inl (lane_inside f j (driver_event_low f))) in
    checks_at ws d e old new event (wants f old new event) r (λ s is. ap (λ w. lane16 w (j % 4)) word
    ∙ driver_event f d.armed d.bells s d.stored r.driver_signals is) refl

-- ---- the bell

pub rings_bell : (ws : List ℕ) (d : DriverView) (e : DeviceView) (old new p x : ℕ)
    → Ring ws d (record e { frame = d.frame; doing = Ringing old new }) → StoresCall d.frame e.bells p x
    → Ring (slice_set ws p x) d (device_rings (record e { frame = d.frame; doing = Ringing old new }) p x)
rings_bell ws d e old new p x r n =
    let f : Frame = d.frame in let s : List DeviceDone = e.done in
    let E : DeviceView = record e { frame = d.frame; doing = Ringing old new } in
    let q : ℕ = call_at f in let y : ℕ = bell_word (e.bells + 1) in
    let wide : length e.stored ≡ width f = r.words.wide.2 in
    subst (λ i. Ring (slice_set ws i x) d (device_rings E i x)) (sym n.place)
    (subst (λ z. Ring (slice_set ws q z) d (device_rings E q z)) (sym n.word)
    (ring_with ws (slice_set ws q y) d E (device_rings E q y) r record {
      same = refl;
      words = device_stores f ws d.stored e.stored q y r.words (inr (inr refl));
      lists = r.lists;
      device_words = words_call f d.done s e.stored y r.lawful.some_place r.device_words;
      signals = call_stored f e.armed e.bells (e.bells + 1) e.stored (omega arith) r.device_signals;
      acks = acks_call f d.done s e.stored y r.places r.lists r.acks;
      driver_doing = r.driver_doing;
      device_doing = tt;
      kicks = signal.moves (chains_out d) (chains_in E) (length (takes s)) true r.device_armed r.kicks;
      calls = signal.rung (entries_out E) (entries_in d) old new refl r.calls;
      armed = tt;
      driver_seen = r.driver_seen;
      driver_cut = r.driver_cut;
      device_seen = r.device_seen;
      device_shown = r.device_shown;
      rested = r.rested;
    }))

-- ---- hearing

hears_at : (ws : List ℕ) (d : DriverView) (e : DeviceView) (g : ℕ) (b : Bool) → g ≡ d.bells
    → Ring ws d (record e { frame = d.frame; doing = Idle }) → (g == e.heard) ≡ b
    → Ring ws d (if b then record e { frame = d.frame; doing = Idle } else record e {
      frame = d.frame;
      heard = g;
      armed = None;
      doing =
          if d.frame.features.event_idx then Idle else Disarming op.Hear;
    })
hears_at ws d e g true is r eq = r
hears_at ws d e g false is r eq = woken d.frame.features.event_idx refl
  where
    some : (a h : ℕ) → a ≢ h → h ≤ a → 1 ≤ a
    some a h ne le = omega (arith, ne)

    woken : (k : Bool) → d.frame.features.event_idx ≡ k
        → Ring ws d (record e { frame = d.frame; heard = g; armed = None; doing = if k then Idle else Disarming op.Hear })
    woken true on =
        let E : DeviceView = record e { frame = d.frame; doing = Idle } in
        quietly ws d E Idle None g e.seen e.shown r (awake d.frame e.armed e.bells e.stored r.device_signals) tt
        (subst (λ n. Signals (chains_out d) (record { at = length (takes e.done); idle = true; armed = None; heard = n })) (sym is)
        (signal.hears (chains_out d) (chains_in E) true r.kicks)) r.calls tt r.device_seen r.device_shown
    woken false off =
        let E : DeviceView = record e { frame = d.frame; doing = Idle } in
        quietly ws d E (Disarming op.Hear) None g e.seen e.shown r (awake d.frame e.armed e.bells e.stored r.device_signals) tt
        (subst (λ n. Signals (chains_out d) (record { at = length (takes e.done); idle = false; armed = None; heard = n })) (sym is)
        (signal.hears (chains_out d) (chains_in E) false r.kicks)) r.calls
        (refl, off, some g e.heard (eqb-false g e.heard eq) (omega (arith, r.kicks.heard))) r.device_seen r.device_shown

pub hears : (ws : List ℕ) (d : DriverView) (e : DeviceView) (g : ℕ) → g ≡ d.bells
    → Ring ws d (record e { frame = d.frame; doing = Idle }) → Ring ws d (device_hears (record e { frame = d.frame; doing = Idle }) g)
hears ws d e g is r = hears_at ws d e g (g == e.heard) is r refl
