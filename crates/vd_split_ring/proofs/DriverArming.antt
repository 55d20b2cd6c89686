-- The driver's arming, its second look and its disarming keep the ring invariant.
use Rattle.std.proofs.Common.{◌≡◌, ◌≢◌, ℕ, ◌+◌, ◌%◌, ◌<◌, ◌≤◌, Bool, true, false, Some, None, List, length, if◌then◌else◌, slice_set, refl, sym, subst, arith, inl, inr, ◌⊎◌}
use Rattle.vd_bits.specs.Lanes.{lane16}
use Rattle.vd_words.specs.declared.access.Op.TheVariants as op
use Rattle.vd_ring.specs.declared.frame.Frame.{Frame}
use Rattle.vd_ring.specs.declared.driver.DriverNow.{DriverNow}
use Rattle.vd_ring.specs.declared.driver.DriverNow.TheVariants.{Idle, Arming, Disarming}
use Rattle.vd_ring.specs.declared.driver.DriverView.{DriverView}
use Rattle.vd_ring.specs.declared.device.DeviceView.{DeviceView}
use Rattle.vd_ring.specs.History.{collects, gives}
use Rattle.vd_ring.specs.Signals.{Signals}
use Rattle.vd_ring.specs.laws.Signals as signal
use Rattle.vd_ring.proofs.ControlSteps.{commands_elsewhere}
use Rattle.vd_ring.proofs.ListSteps.{given_within}
use Rattle.vd_split_ring.specs.SplitWords.{width, used_from, command_word, ack_word, lane_word, with_lane, event_lane, driver_event_lane, armed_value, shows, shown_from}
use Rattle.vd_split_ring.specs.SplitDriver.{StoresUsedEvent, StoresNoInterrupt, driver_arms, driver_looks_again}
use Rattle.vd_split_ring.specs.SplitRing.{Ring, DriverSignals, chains_out, chains_in, entries_out, entries_in}
use Rattle.vd_split_ring.proofs.Areas.{areas, driver_stores, lane_inside, shows_same, shows_more}
use Rattle.vd_split_ring.proofs.DriverCollects.{counts_given}
use Rattle.vd_split_ring.proofs.DriverSignalStores.{ring_after, driver_words_lane, flags_stored, event_stored, awake, no_entry}

-- ---- arming

-- the store of the driver's own event word
arms_at : (ws : List ℕ) (d : DriverView) (e : DeviceView) (b : Bool) → Ring ws (record d { doing = Idle }) e → d.armed ≡ None
    → d.frame.features.event_idx ≡ b
    → let s = length (collects d.done) in let j = if b then event_lane d.frame else 0 in let y =
    with_lane d.frame d.stored j (if b then s % 65536 else 0) in
    Ring (slice_set ws (lane_word d.frame j) y) (driver_arms (record d { doing = Idle }) (lane_word d.frame j) y) e
    × (lane_word d.frame j < used_from d.frame)
arms_at ws d e b r unarmed is =
    let f : Frame = d.frame in let s : ℕ = length (collects d.done) in
    let j : ℕ = if b then event_lane f else 0 in let v : ℕ = if b then s % 65536 else 0 in
    let y : ℕ = with_lane f d.stored j v in let q : ℕ = lane_word f j in
    let D : DriverView = record d { doing = Idle } in
    let wide : length d.stored ≡ width f = r.words.wide.1 in
    let far : used_from f ≤ length d.stored = omega (arith, areas f) in
    let lane : (j ≡ 0) ⊎ (j ≡ event_lane f) = either b in
    let high : j ≤ f.size + 2 = low b in
    let near : q < used_from f = lane_inside f j high in
    let small : v < 65536 = value b in (
      ring_after ws (slice_set ws q y) D e (slice_set d.stored q y) Arming (Some s) d.heard d.bells d.seen d.shown r record {
        words = driver_stores f ws d.stored e.stored q y r.words (inl near);
        driver_words = driver_words_lane f d.done d.stored j v r.lawful r.places r.driver_words small far high (index b)
            (λ k. no_entry f k j r.lawful.some_place lane);
        signals = stored b is far r.driver_signals;
        commands = commands_elsewhere f (command_word f) (ack_word f) d.done d.stored q y r.places
            (λ h i under two e2. omega (arith, areas f)) r.commands;
        doing = tt;
        kicks = r.kicks;
        calls = signal.arms (entries_out e) (entries_in D) r.calls;
        is_armed = refl;
        seen = r.driver_seen;
        cut = r.driver_cut;
        shown = r.driver_shown;
      },
      near,
    )
  where
    either : (c : Bool) → ((if c then event_lane d.frame else 0) ≡ 0) ⊎ ((if c then event_lane d.frame else 0) ≡ event_lane d.frame)
    either true = inr refl
    either false = inl refl

    low : (c : Bool) → (if c then event_lane d.frame else 0) ≤ d.frame.size + 2
    low true = omega arith
    low false = omega arith

    index : (c : Bool) → 1 ≢ (if c then event_lane d.frame else 0)
    index true = λ e. omega arith
    index false = λ e. omega arith

    value : (c : Bool) → (if c then length (collects d.done) % 65536 else 0) < 65536
    value true = omega arith
    value false = omega arith

    stored : (c : Bool) → d.frame.features.event_idx ≡ c → used_from d.frame ≤ length d.stored
        → DriverSignals d.frame d.armed d.bells d.stored
        → let j = if c then event_lane d.frame else 0 in
        DriverSignals d.frame (Some (length (collects d.done))) d.bells
        (slice_set d.stored (lane_word d.frame j) (with_lane d.frame d.stored j (if c then length (collects d.done) % 65536 else 0)))
    stored true on far g = event_stored d.frame d.armed d.bells (length (collects d.done)) d.stored on far g
    stored false off far g = flags_stored d.frame d.armed (Some (length (collects d.done))) d.bells 0 d.stored off (omega arith)
        (λ s a. refl) far g

pub arms : (ws : List ℕ) (d : DriverView) (e : DeviceView) (p x : ℕ) → Ring ws (record d { doing = Idle }) e → d.armed ≡ None
    → StoresUsedEvent d.frame d.stored (length (collects d.done)) p x
    → Ring (slice_set ws p x) (driver_arms (record d { doing = Idle }) p x) e × (p < used_from d.frame)
arms ws d e p x r unarmed n =
    let f : Frame = d.frame in let D : DriverView = record d { doing = Idle } in
    let q : ℕ = lane_word f (driver_event_lane f) in let y : ℕ =
    with_lane f d.stored (driver_event_lane f) (armed_value f (length (collects d.done))) in
    subst (λ i. Ring (slice_set ws i x) (driver_arms D i x) e × (i < used_from f)) (sym n.place)
    (subst (λ z. Ring (slice_set ws q z) (driver_arms D q z) e × (q < used_from f)) (sym n.word)
    (arms_at ws d e f.features.event_idx r unarmed refl))

-- ---- the second look

looks_again_at : (ws : List ℕ) (d : DriverView) (e : DeviceView) (g : ℕ) (b c : Bool) → lane16 g 1 ≡ length (gives e.done) % 65536
    → Ring ws (record d { doing = Arming }) e → shows g (length (collects d.done)) ≡ b → d.frame.features.event_idx ≡ c
    → let m = length (collects d.done) in
    Ring ws (if b then record d { seen = shown_from g m; shown = false; doing = Idle } else record d {
      seen = shown_from g m;
      shown =
          true;
      armed = None;
      doing = if c then Idle else Disarming op.Arm;
    }) e
looks_again_at ws d e g true c lane r eq idx =
    let D : DriverView = record d { doing = Arming } in
    let is : shown_from g (length (collects d.done)) ≡ length (gives e.done) = counts_given ws D e g lane r in
    let all : length (gives e.done) ≡ length (collects d.done) =
    shows_same g (length (collects d.done)) (length (gives e.done)) lane r.lists.fewer
    (omega (arith, given_within d.frame d.done e.done r.places r.lists, r.lawful.small)) eq in
    ring_after ws ws D e d.stored Idle d.armed d.heard d.bells (shown_from g (length (collects d.done))) false r record {
      words = r.words;
      driver_words = r.driver_words;
      signals = r.driver_signals;
      commands = r.commands;
      doing = tt;
      kicks = r.kicks;
      calls = signal.armed (entries_out e) (entries_in D) (omega arith) r.calls;
      is_armed = tt;
      seen = omega arith;
      cut = λ h. absurd (omega arith);
      shown = λ h. absurd cc;
    }
looks_again_at ws d e g false c lane r eq idx = woken c idx
  where
    woken : (k : Bool) → d.frame.features.event_idx ≡ k
        → Ring ws (record d {
          seen = shown_from g (length (collects d.done));
          shown = true;
          armed = None;
          doing =
              if k then Idle else Disarming op.Arm;
        }) e
    woken true on =
        let D : DriverView = record d { doing = Arming } in
        let is : shown_from g (length (collects d.done)) ≡ length (gives e.done) = counts_given ws D e g lane r in
        let more : length (collects d.done) < length (gives e.done) =
        shows_more g (length (collects d.done)) (length (gives e.done)) lane r.lists.fewer eq in
        ring_after ws ws D e d.stored Idle None d.heard d.bells (shown_from g (length (collects d.done))) true r record {
          words = r.words;
          driver_words = r.driver_words;
          signals = awake d.frame d.armed d.bells d.stored r.driver_signals;
          commands = r.commands;
          doing = tt;
          kicks = r.kicks;
          calls = signal.wakes (entries_out e) (entries_in D) true r.calls;
          is_armed = tt;
          seen = omega arith;
          cut = λ h. absurd (omega arith);
          shown = λ h. omega arith;
        }
    woken false off =
        let D : DriverView = record d { doing = Arming } in
        let is : shown_from g (length (collects d.done)) ≡ length (gives e.done) = counts_given ws D e g lane r in
        let more : length (collects d.done) < length (gives e.done) =
        shows_more g (length (collects d.done)) (length (gives e.done)) lane r.lists.fewer eq in
        ring_after ws ws D e d.stored (Disarming op.Arm) None d.heard d.bells (shown_from g (length (collects d.done))) true r record {
          words = r.words;
          driver_words = r.driver_words;
          signals = awake d.frame d.armed d.bells d.stored r.driver_signals;
          commands = r.commands;
          doing = tt;
          kicks = r.kicks;
          calls = signal.wakes (entries_out e) (entries_in D) false r.calls;
          is_armed = (refl, off, tt);
          seen = omega arith;
          cut = λ h. absurd (omega arith);
          shown = λ h. omega arith;
        }

pub looks_again : (ws : List ℕ) (d : DriverView) (e : DeviceView) (g : ℕ) → lane16 g 1 ≡ length (gives e.done) % 65536
    → Ring ws (record d { doing = Arming }) e → Ring ws (driver_looks_again (record d { doing = Arming }) g) e
looks_again ws d e g lane r = looks_again_at ws d e g (shows g (length (collects d.done))) d.frame.features.event_idx lane r refl refl

-- ---- disarming

-- the disarming store, after which it is idle and not armed
pub disarms : (ws : List ℕ) (d : DriverView) (e : DeviceView) (now : DriverNow) (p x : ℕ) → Ring ws (record d { doing = now }) e
    → Signals (chains_out (record d { doing = Idle })) (chains_in e) → StoresNoInterrupt d.frame d.stored p x
    → Ring (slice_set ws p x) (record d { stored = slice_set d.stored p x; armed = None; doing = Idle }) e × (p < used_from d.frame)
disarms ws d e now p x r kicks n =
    let f : Frame = d.frame in let D : DriverView = record d { doing = now } in
    let q : ℕ = lane_word f 0 in let y : ℕ = with_lane f d.stored 0 1 in
    let wide : length d.stored ≡ width f = r.words.wide.1 in
    let far : used_from f ≤ length d.stored = omega (arith, areas f) in
    let near : q < used_from f = lane_inside f 0 (omega arith) in
    subst (λ i. Ring (slice_set ws i x) (record d { stored = slice_set d.stored i x; armed = None; doing = Idle }) e
    × (i < used_from f)) (sym n.place)
    (subst (λ z. Ring (slice_set ws q z) (record d { stored = slice_set d.stored q z; armed = None; doing = Idle }) e
    × (q < used_from f)) (sym n.word) (
      ring_after ws (slice_set ws q y) D e (slice_set d.stored q y) Idle None d.heard d.bells d.seen d.shown r record {
        words = driver_stores f ws d.stored e.stored q y r.words (inl near);
        driver_words = driver_words_lane f d.done d.stored 0 1 r.lawful r.places r.driver_words (omega arith) far (omega arith)
            (λ e2. omega arith) (λ k. no_entry f k 0 r.lawful.some_place (inl refl));
        signals = flags_stored f d.armed None d.bells 1 d.stored n.flagged (omega arith) (λ s a. absurd cc) far r.driver_signals;
        commands = commands_elsewhere f (command_word f) (ack_word f) d.done d.stored q y r.places
            (λ h i under two e2. omega (arith, areas f)) r.commands;
        doing = tt;
        kicks = kicks;
        calls = signal.wakes (entries_out e) (entries_in D) true r.calls;
        is_armed = tt;
        seen = r.driver_seen;
        cut = r.driver_cut;
        shown = r.driver_shown;
      },
      near,
    ))

-- it is disarmed by a load
pub disarmed : (ws : List ℕ) (d : DriverView) (e : DeviceView) → Ring ws (record d { doing = Idle }) e
    → Ring ws (record d { armed = None; doing = Idle }) e
disarmed ws d e r =
    let D : DriverView = record d { doing = Idle } in
    ring_after ws ws D e d.stored Idle None d.heard d.bells d.seen d.shown r record {
      words = r.words;
      driver_words = r.driver_words;
      signals = awake d.frame d.armed d.bells d.stored r.driver_signals;
      commands = r.commands;
      doing = tt;
      kicks = r.kicks;
      calls = signal.wakes (entries_out e) (entries_in D) true r.calls;
      is_armed = tt;
      seen = r.driver_seen;
      cut = r.driver_cut;
      shown = r.driver_shown;
    }
