-- The parts of the ring invariant after a store of the driver's event word or bell.
use Rattle.std.proofs.Common.{◌≡◌, ◌≢◌, ℕ, ◌+◌, ◌%◌, ◌<◌, ◌≤◌, Bool, true, false, Option, Some, None, List, length, slice_set, refl, sym, ap, ◌∙◌, arith, inl, inr, ◌⊎◌}
use Rattle.std.proofs.lemmas.List.{get_or-set_same, get_or-set_other}
use Rattle.std.proofs.lemmas.Nat.{mod_below}
use Rattle.vd_ring.specs.declared.frame.Frame.{Frame}
use Rattle.vd_ring.specs.declared.driver.DriverDone.{DriverDone}
use Rattle.vd_ring.specs.declared.driver.DriverNow.{DriverNow}
use Rattle.vd_ring.specs.declared.driver.DriverView.{DriverView}
use Rattle.vd_ring.specs.declared.device.DeviceView.{DeviceView}
use Rattle.vd_ring.specs.History.{collects, gives}
use Rattle.vd_ring.specs.Control.{Commands}
use Rattle.vd_ring.specs.Places.{Places}
use Rattle.vd_ring.specs.Signals.{Signals}
use Rattle.vd_ring.proofs.ControlSteps.{commands_elsewhere}
use Rattle.vd_split_ring.specs.SplitWords.{IsLawful, used_from, kick_at, command_word, ack_word, lane_at, lane_word, with_lane, entry_lane, event_lane, bell_word}
use Rattle.vd_split_ring.specs.SplitRing.{Ring, Words, DriverWords, DriverSignals, DriverDoing, chains_out, chains_in, entries_out, entries_in, DriverArmed, EndsGive}
use Rattle.vd_split_ring.proofs.Areas.{areas, acks_follow, area_no_descriptor, lane_same, lane_other, lane_past, lane_inside}
use Rattle.vd_split_ring.proofs.DriverParts.{open_past}

-- the parts that such an access changes
pub record DriverSide (ws : List ℕ) (d : DriverView) (e : DeviceView) : Type 0 where
  pub words : Words d.frame ws d.stored e.stored
  pub driver_words : DriverWords d.frame d.done d.stored
  pub signals : DriverSignals d.frame d.armed d.bells d.stored
  pub commands : Commands d.frame (command_word d.frame) (ack_word d.frame) d.done d.stored
  pub doing : DriverDoing d.doing d.frame d.done d.stored d.seen e.done
  pub kicks : Signals (chains_out d) (chains_in e)
  pub calls : Signals (entries_out e) (entries_in d)
  pub is_armed : DriverArmed d.doing d.frame d.armed (length (collects d.done)) d.heard
  pub seen : d.seen ≤ length (gives e.done)
  pub cut : EndsGive e.done d.seen
  pub shown : d.shown ≡ true → length (collects d.done) < d.seen

-- the others stay
pub ring_after : (ws us : List ℕ) (d : DriverView) (e : DeviceView) (st : List ℕ) (now : DriverNow) (at : Option ℕ) (h b n : ℕ) (x : Bool)
    → Ring ws d e → DriverSide us (record d { stored = st; doing = now; armed = at; heard = h; bells = b; seen = n; shown = x }) e
    → Ring us (record d { stored = st; doing = now; armed = at; heard = h; bells = b; seen = n; shown = x }) e
ring_after ws us d e st now at h b n x r s = record {
  same = r.same;
  lawful = r.lawful;
  words = s.words;
  places = r.places;
  driver_words = s.driver_words;
  lists = r.lists;
  device_words = r.device_words;
  driver_signals = s.signals;
  device_signals = r.device_signals;
  commands = s.commands;
  acks = r.acks;
  driver_doing = s.doing;
  device_doing = r.device_doing;
  kicks = s.kicks;
  calls = s.calls;
  driver_armed = s.is_armed;
  device_armed = r.device_armed;
  driver_seen = s.seen;
  driver_cut = s.cut;
  device_seen = r.device_seen;
  driver_shown = s.shown;
  device_shown = r.device_shown;
  rested = r.rested;
}

pub both : (b : Bool) → b ≡ true → b ≡ false → ⊥
both b on off = let e : true ≡ false = sym on ∙ off in cc

-- ---- words

-- the store of a lane that is neither the index nor an entry
pub driver_words_lane : (f : Frame) (o : List DriverDone) (ws : List ℕ) (j v : ℕ) → IsLawful f → Places f o → DriverWords f o ws → v < 65536
    → used_from f ≤ length ws → j ≤ f.size + 2 → 1 ≢ j → ((k : ℕ) → entry_lane f k ≢ j)
    → DriverWords f o (slice_set ws (lane_word f j) (with_lane f ws j v))
driver_words_lane f o ws j v l pl d small wide high index entry =
    let near : lane_word f j < used_from f = lane_inside f j high in
    let inside : lane_word f j < length ws = omega arith in record {
      index = lane_other f ws j 1 v small inside index ∙ d.index;
      entries = λ k low up. lane_other f ws j (entry_lane f k) v small inside (entry k) ∙ d.entries k low up;
      spelled = λ k here. open_past f o ws (lane_word f j) (with_lane f ws j v) k l pl d
          (area_no_descriptor f (lane_word f j) (omega arith) near) here;
    }

-- the store of the flags, with EVENT_IDX off
pub flags_stored : (f : Frame) (at new : Option ℕ) (bells v : ℕ) (ws : List ℕ) → f.features.event_idx ≡ false → v ≤ 1
    → ((s : ℕ) → new ≡ Some s → v ≡ 0) → used_from f ≤ length ws → DriverSignals f at bells ws
    → DriverSignals f new bells (slice_set ws (lane_word f 0) (with_lane f ws 0 v))
flags_stored f at new bells v ws off bit zero wide g =
    let near : lane_word f 0 < used_from f = lane_inside f 0 (omega arith) in
    let inside : lane_word f 0 < length ws = omega arith in
    let is : lane_at f (slice_set ws (lane_word f 0) (with_lane f ws 0 v)) 0 ≡ v = lane_same f ws 0 v (omega arith) inside in record {
      no_flags = λ on. absurd (both f.features.event_idx on off);
      no_event = λ e. lane_other f ws 0 (event_lane f) v (omega arith) inside (λ h. omega arith) ∙ g.no_event e;
      bit = omega (arith, is, bit);
      flags = λ s a e. is ∙ zero s a;
      event = λ s a on. absurd (both f.features.event_idx on off);
      bell = get_or-set_other ws (lane_word f 0) (kick_at f) (with_lane f ws 0 v) 0 (λ e. omega (arith, areas f)) ∙ g.bell;
    }

-- the store of used_event, with EVENT_IDX on
pub event_stored : (f : Frame) (at : Option ℕ) (bells s : ℕ) (ws : List ℕ) → f.features.event_idx ≡ true → used_from f ≤ length ws
    → DriverSignals f at bells ws
    → DriverSignals f (Some s) bells (slice_set ws (lane_word f (event_lane f)) (with_lane f ws (event_lane f) (s % 65536)))
event_stored f at bells s ws on wide g =
    let j : ℕ = event_lane f in let v : ℕ = s % 65536 in
    let near : lane_word f j < used_from f = lane_inside f j (omega arith) in
    let inside : lane_word f j < length ws = omega arith in
    let zero : lane_at f (slice_set ws (lane_word f j) (with_lane f ws j v)) 0 ≡ lane_at f ws 0 =
    lane_other f ws j 0 v (omega arith) inside (λ h. omega arith) in record {
      no_flags = λ e. zero ∙ g.no_flags e;
      no_event = λ off. absurd (both f.features.event_idx on off);
      bit = omega (arith, zero, g.bit);
      flags = λ t a off. absurd (both f.features.event_idx on off);
      event = λ t a e. lane_same f ws j v (omega arith) inside ∙ ap (λ n. n % 65536) (some_is s t a);
      bell = get_or-set_other ws (lane_word f j) (kick_at f) (with_lane f ws j v) 0 (λ e. omega (arith, areas f)) ∙ g.bell;
    }
  where
    some_is : (a b : ℕ) → Some a ≡ Some b → a ≡ b
    some_is a b e = cc

pub awake : (f : Frame) (at : Option ℕ) (bells : ℕ) (ws : List ℕ) → DriverSignals f at bells ws → DriverSignals f None bells ws
awake f at bells ws g = record {
  no_flags = g.no_flags;
  no_event = g.no_event;
  bit = g.bit;
  flags = λ s a off. absurd cc;
  event =
      λ s a on. absurd cc;
  bell = g.bell;
}

-- the store of the bell
pub kick_stored : (f : Frame) (at : Option ℕ) (bells n : ℕ) (ws : List ℕ) → kick_at f < length ws → DriverSignals f at bells ws
    → DriverSignals f at n (slice_set ws (kick_at f) (bell_word n))
kick_stored f at bells n ws inside g =
    let q : ℕ = kick_at f in let x : ℕ = bell_word n in let past : used_from f ≤ q = omega (arith, areas f) in record {
      no_flags = λ on. lane_past f ws q x 0 past (omega arith) ∙ g.no_flags on;
      no_event = λ off. lane_past f ws q x (event_lane f) past (omega arith) ∙ g.no_event off;
      bit = omega (arith, g.bit, lane_past f ws q x 0 past (omega arith));
      flags = λ s a off. lane_past f ws q x 0 past (omega arith) ∙ g.flags s a off;
      event = λ s a on. lane_past f ws q x (event_lane f) past (omega arith) ∙ g.event s a on;
      bell = get_or-set_same ws q x 0 inside;
    }

pub commands_kick : (f : Frame) (o : List DriverDone) (ws : List ℕ) (x : ℕ) → Places f o → Commands f (command_word f) (ack_word f) o ws
    → Commands f (command_word f) (ack_word f) o (slice_set ws (kick_at f) x)
commands_kick f o ws x pl c = at f.control refl
  where
    at : (b : Bool) → f.control ≡ b → Commands f (command_word f) (ack_word f) o (slice_set ws (kick_at f) x)
    at true on = commands_elsewhere f (command_word f) (ack_word f) o ws (kick_at f) x pl
        (λ h i under two e. omega (arith, areas f, acks_follow f on)) c
    at false off = record { chains = c.chains; last = λ on. absurd (both f.control on off); stand = λ on. absurd (both f.control on off) }

pub no_entry : (f : Frame) (k j : ℕ) → 0 < f.size → (j ≡ 0) ⊎ (j ≡ event_lane f) → entry_lane f k ≢ j
no_entry f k j pos (inl is) = λ e. omega arith
no_entry f k j pos (inr is) = λ e. omega (arith, mod_below k f.size pos)
