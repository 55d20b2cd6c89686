-- The driver's checks, bells and hearings keep the ring invariant.
use Rattle.std.proofs.Common.{◌≡◌, ◌≢◌, ℕ, ◌+◌, ◌≤◌, ◌==◌, Bool, true, false, Some, None, List, length, if◌then◌else◌, slice_index, slice_set, refl, sym, ap, ◌∙◌, subst, arith, inl, inr}
use Rattle.std.proofs.lemmas.Bool.{eqb-false}
use Rattle.vd_bits.specs.Lanes.{lane16}
use Rattle.vd_words.specs.declared.access.Op.TheVariants as op
use Rattle.vd_ring.specs.declared.frame.Frame.{Frame}
use Rattle.vd_ring.specs.declared.driver.DriverNow.TheVariants.{Idle, Checking, Ringing, Disarming}
use Rattle.vd_ring.specs.declared.driver.DriverView.{DriverView}
use Rattle.vd_ring.specs.declared.device.DeviceView.{DeviceView}
use Rattle.vd_ring.specs.History.{collects}
use Rattle.vd_ring.specs.Signals.{Signals}
use Rattle.vd_ring.specs.laws.Signals as signal
use Rattle.vd_split_ring.specs.SplitWords.{width, kick_at, device_event_word, device_event_lane, armed_value, wants, bell_word}
use Rattle.vd_split_ring.specs.SplitDriver.{StoresKick, driver_checks, driver_rings, driver_hears}
use Rattle.vd_split_ring.specs.SplitRing.{Ring, chains_out, chains_in, entries_out, entries_in}
use Rattle.vd_split_ring.proofs.Areas.{areas, driver_stores}
use Rattle.vd_split_ring.proofs.DriverParts.{driver_words_past}
use Rattle.vd_split_ring.proofs.Bells.{wants_armed, device_event, device_event_inside}
use Rattle.vd_split_ring.proofs.DriverSignalStores.{ring_after, both, awake, kick_stored, commands_kick}

-- ---- the check

checks_at : (ws : List ℕ) (d : DriverView) (e : DeviceView) (old new event : ℕ) (b : Bool)
    → Ring ws (record d { doing = Checking old new }) e → ((s : ℕ) → e.armed ≡ Some s → event ≡ armed_value d.frame s)
    → wants d.frame old new event ≡ b
    → Ring ws (record d { doing = if b then Ringing old new else Idle }) e
checks_at ws d e old new event true r stands is =
    ring_after ws ws (record d { doing = Checking old new }) e d.stored (Ringing old new) d.armed d.heard d.bells d.seen d.shown r record {
      words = r.words;
      driver_words = r.driver_words;
      signals = r.driver_signals;
      commands = r.commands;
      doing = tt;
      kicks = signal.rings (chains_out (record d { doing = Checking old new })) (chains_in e) old new refl r.kicks;
      calls = r.calls;
      is_armed = r.driver_armed.0;
      seen = r.driver_seen;
      cut = r.driver_cut;
      shown = r.driver_shown;
    }
checks_at ws d e old new event false r stands is =
    ring_after ws ws (record d { doing = Checking old new }) e d.stored Idle d.armed d.heard d.bells d.seen d.shown r record {
      words = r.words;
      driver_words = r.driver_words;
      signals = r.driver_signals;
      commands = r.commands;
      doing = tt;
      kicks = signal.quiets (chains_out (record d { doing = Checking old new })) (chains_in e) old new refl
          (λ s at low high. both (wants d.frame old new event)
          (wants_armed d.frame old new s event r.lawful r.driver_armed.1 low high (stands s at)) is) r.kicks;
      calls = signal.moves (entries_out e) (entries_in (record d { doing = Checking old new }))
          (length (collects d.done)) true r.driver_armed.0 r.calls;
      is_armed = tt;
      seen = r.driver_seen;
      cut = r.driver_cut;
      shown = r.driver_shown;
    }

pub checks : (ws : List ℕ) (d : DriverView) (e : DeviceView) (old new p : ℕ) → Ring ws (record d { doing = Checking old new }) e
    → p ≡ device_event_word d.frame → Ring ws (driver_checks (record d { doing = Checking old new }) old new (slice_index ws p)) e
checks ws d e old new p r at =
    let f : Frame = d.frame in
    let event : ℕ = lane16 (slice_index ws p) (device_event_lane f) in
    let place = device_event_inside f in
    let word : slice_index ws p ≡ slice_index e.stored (device_event_word f) =
    ap (λ q. slice_index ws q) at ∙ r.words.devices (device_event_word f) (inl (place.0, omega (arith, place.1))) in
    checks_at ws d e old new event (wants f old new event) r (λ s is. ap (λ w. lane16 w (device_event_lane f)) word
    ∙ device_event f e.armed e.bells s e.stored r.device_signals is) refl

-- ---- the bell

pub rings_bell : (ws : List ℕ) (d : DriverView) (e : DeviceView) (old new p x : ℕ) → Ring ws (record d { doing = Ringing old new }) e
    → StoresKick d.frame d.bells p x → Ring (slice_set ws p x) (driver_rings (record d { doing = Ringing old new }) p x) e
rings_bell ws d e old new p x r n =
    let f : Frame = d.frame in
    let q : ℕ = kick_at f in
    let y : ℕ = bell_word (d.bells + 1) in
    let D : DriverView = record d { doing = Ringing old new } in
    let wide : length d.stored ≡ width f = r.words.wide.1 in
    subst (λ i. Ring (slice_set ws i x) (driver_rings D i x) e) (sym n.place)
    (subst (λ z. Ring (slice_set ws q z) (driver_rings D q z) e) (sym n.word)
    (ring_after ws (slice_set ws q y) D e (slice_set d.stored q y) Idle d.armed d.heard (d.bells + 1) d.seen d.shown r record {
      words = driver_stores f ws d.stored e.stored q y r.words (inr (inr refl));
      driver_words = driver_words_past f d.done d.stored q y r.lawful r.places r.driver_words (omega (arith, areas f));
      signals = kick_stored f d.armed d.bells (d.bells + 1) d.stored (omega arith) r.driver_signals;
      commands = commands_kick f d.done d.stored y r.places r.commands;
      doing = tt;
      kicks = signal.rung (chains_out D) (chains_in e) old new refl r.kicks;
      calls = signal.moves (entries_out e) (entries_in D) (length (collects d.done)) true r.driver_armed r.calls;
      is_armed = tt;
      seen = r.driver_seen;
      cut = r.driver_cut;
      shown = r.driver_shown;
    }))

-- ---- hearing

hears_at : (ws : List ℕ) (d : DriverView) (e : DeviceView) (g : ℕ) (b c : Bool) → g ≡ e.bells → Ring ws (record d { doing = Idle }) e
    → (g == d.heard) ≡ b → d.frame.features.event_idx ≡ c
    → Ring ws (if b then record d { doing = Idle } else record d {
      heard = g;
      armed = None;
      doing =
          if c then Idle else Disarming op.Hear;
    }) e
hears_at ws d e g true c is r eq idx = r
hears_at ws d e g false c is r eq idx = woken c idx
  where
    woken : (k : Bool) → d.frame.features.event_idx ≡ k
        → Ring ws (record d { heard = g; armed = None; doing = if k then Idle else Disarming op.Hear }) e
    woken true on =
        let D : DriverView = record d { doing = Idle } in
        ring_after ws ws D e d.stored Idle None g d.bells d.seen d.shown r record {
          words = r.words;
          driver_words = r.driver_words;
          signals = awake d.frame d.armed d.bells d.stored r.driver_signals;
          commands = r.commands;
          doing = tt;
          kicks = r.kicks;
          calls = subst (λ n. Signals (entries_out e) (record { at = length (collects d.done); idle = true; armed = None; heard = n }))
              (sym is) (signal.hears (entries_out e) (entries_in D) true r.calls);
          is_armed = tt;
          seen = r.driver_seen;
          cut = r.driver_cut;
          shown = r.driver_shown;
        }
    woken false off =
        let D : DriverView = record d { doing = Idle } in
        let other : g ≢ d.heard = eqb-false g d.heard eq in
        ring_after ws ws D e d.stored (Disarming op.Hear) None g d.bells d.seen d.shown r record {
          words = r.words;
          driver_words = r.driver_words;
          signals = awake d.frame d.armed d.bells d.stored r.driver_signals;
          commands = r.commands;
          doing = tt;
          kicks = r.kicks;
          calls = subst (λ n. Signals (entries_out e) (record { at = length (collects d.done); idle = false; armed = None; heard = n }))
              (sym is) (signal.hears (entries_out e) (entries_in D) false r.calls);
          is_armed = (refl, off, some g d.heard other (omega (arith, r.calls.heard)));
          seen = r.driver_seen;
          cut = r.driver_cut;
          shown = r.driver_shown;
        }
      where
        some : (a h : ℕ) → a ≢ h → h ≤ a → 1 ≤ a
        some a h ne le = omega (arith, ne)

pub hears : (ws : List ℕ) (d : DriverView) (e : DeviceView) (g : ℕ) → g ≡ e.bells → Ring ws (record d { doing = Idle }) e
    → Ring ws (driver_hears (record d { doing = Idle }) g) e
hears ws d e g is r = hears_at ws d e g (g == d.heard) d.frame.features.event_idx is r refl refl
