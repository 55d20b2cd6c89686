-- The parts of the ring invariant after a store of the device's event word or bell, and after an access that stores nothing.
use Rattle.std.proofs.Common.{◌≡◌, ℕ, ◌+◌, ◌%◌, ◌<◌, ◌≤◌, Bool, true, false, Option, Some, None, List, length, slice_index, slice_set, refl, sym, ap, ◌∙◌, arith, inl}
use Rattle.std.proofs.lemmas.List.{get_or-set_same}
use Rattle.std.proofs.lemmas.Nat.{mod_below}
use Rattle.vd_bits.specs.Lanes.{lane16, set_lane16, lane32}
use Rattle.vd_bits.proofs.LaneLaws.{set_same, set_other}
use Rattle.vd_ring.specs.declared.frame.Frame.{Frame}
use Rattle.vd_ring.specs.declared.driver.DriverDone.{DriverDone}
use Rattle.vd_ring.specs.declared.driver.DriverView.{DriverView}
use Rattle.vd_ring.specs.declared.device.DeviceDone.{DeviceDone}
use Rattle.vd_ring.specs.declared.device.DeviceNow.{DeviceNow}
use Rattle.vd_ring.specs.declared.device.DeviceView.{DeviceView}
use Rattle.vd_ring.specs.History.{offers, takes}
use Rattle.vd_ring.specs.Control.{Acks}
use Rattle.vd_ring.specs.Places.{Places}
use Rattle.vd_ring.specs.Lists.{Lists}
use Rattle.vd_ring.specs.Signals.{Signals}
use Rattle.vd_ring.proofs.DeviceAcks.{acks_elsewhere}
use Rattle.vd_split_ring.specs.SplitWords.{used_from, call_at, ack_word, id_word, len_word, bell_word}
use Rattle.vd_split_ring.specs.SplitRing.{Ring, DeviceWords, DeviceSignals, DeviceDoing, DeviceArmed, chains_out, chains_in, entries_out, entries_in}
use Rattle.vd_split_ring.proofs.Areas.{areas, acks_follow, device_stores, other_word}
use Rattle.vd_split_ring.proofs.DeviceParts.{ring_with, used_no_ack, used_no_bell}
use Rattle.vd_split_ring.proofs.DeviceGives.{same_part}

pub both : (b : Bool) → b ≡ true → b ≡ false → ⊥
both b on off = let e : true ≡ false = sym on ∙ off in cc

-- ---- words

high_flags : (w v : ℕ) → v < 65536 → lane32 (set_lane16 w 0 v) 1 ≡ lane32 w 1
high_flags w v small = omega arith

low_event : (w v : ℕ) → v < 65536 → lane32 (set_lane16 w 2 v) 0 ≡ lane32 w 0
low_event w v small = omega arith

-- the store of the flags leaves the index and the entries
pub words_flags : (f : Frame) (o : List DriverDone) (s : List DeviceDone) (st : List ℕ) (v : ℕ) → 0 < f.size → v < 65536
    → used_from f < length st → DeviceWords f o s st
    → DeviceWords f o s (slice_set st (used_from f) (set_lane16 (slice_index st (used_from f)) 0 v))
words_flags f o s st v pos small inside w =
    let q : ℕ = used_from f in let x : ℕ = set_lane16 (slice_index st q) 0 v in record {
      index = same_part st q q x (λ y. lane16 y 1) inside
          (set_other (slice_index st q) 0 1 v small (omega arith) (omega arith) (λ e. omega arith)) ∙ w.index;
      ids = λ j u low is. same_part st q (id_word f j) x (λ y. lane32 y 1) inside (high_flags (slice_index st q) v small)
          ∙ w.ids j u low is;
      lens = λ j u low is. other_word st q (len_word f j) x (λ y. lane32 y 0) (λ e. omega arith) ∙ w.lens j u low is;
    }

-- so does the store of avail_event
pub words_event : (f : Frame) (o : List DriverDone) (s : List DeviceDone) (st : List ℕ) (v : ℕ) → 0 < f.size → v < 65536
    → used_from f + f.size < length st → DeviceWords f o s st
    → DeviceWords f o s (slice_set st (used_from f + f.size) (set_lane16 (slice_index st (used_from f + f.size)) 2 v))
words_event f o s st v pos small inside w =
    let q : ℕ = used_from f + f.size in let x : ℕ = set_lane16 (slice_index st q) 2 v in record {
      index = other_word st q (used_from f) x (λ y. lane16 y 1) (λ e. omega arith) ∙ w.index;
      ids = λ j u low is. other_word st q (id_word f j) x (λ y. lane32 y 1) (λ e. omega (arith, mod_below j f.size pos)) ∙ w.ids j u low is;
      lens = λ j u low is. same_part st q (len_word f j) x (λ y. lane32 y 0) inside (low_event (slice_index st q) v small)
          ∙ w.lens j u low is;
    }

pub flags_stored : (f : Frame) (at new : Option ℕ) (bells v : ℕ) (st : List ℕ) → f.features.event_idx ≡ false → 0 < f.size → v ≤ 1
    → ((s : ℕ) → new ≡ Some s → v ≡ 0) → used_from f < length st → DeviceSignals f at bells st
    → DeviceSignals f new bells (slice_set st (used_from f) (set_lane16 (slice_index st (used_from f)) 0 v))
flags_stored f at new bells v st off pos bit zero inside g =
    let q : ℕ = used_from f in let x : ℕ = set_lane16 (slice_index st q) 0 v in
    let is : lane16 (slice_index (slice_set st q x) q) 0 ≡ v = ap (λ y. lane16 y 0) (get_or-set_same st q x 0 inside)
    ∙ set_same (slice_index st q) 0 v (omega arith) (omega arith) in record {
      no_flags = λ on. absurd (both f.features.event_idx on off);
      no_event = λ e. other_word st q (q + f.size) x (λ y. lane16 y 2) (λ h. omega arith) ∙ g.no_event e;
      bit = omega (arith, is, bit);
      flags = λ s a e. is ∙ zero s a;
      event = λ s a on. absurd (both f.features.event_idx on off);
      bell = other_word st q (call_at f) x (λ y. y) (used_no_bell f q (omega arith)) ∙ g.bell;
    }

pub event_stored : (f : Frame) (at : Option ℕ) (bells s : ℕ) (st : List ℕ) → f.features.event_idx ≡ true → 0 < f.size
    → used_from f + f.size < length st → DeviceSignals f at bells st
    → DeviceSignals f (Some s) bells
    (slice_set st (used_from f + f.size) (set_lane16 (slice_index st (used_from f + f.size)) 2 (s % 65536)))
event_stored f at bells s st on pos inside g =
    let q : ℕ = used_from f + f.size in let x : ℕ = set_lane16 (slice_index st q) 2 (s % 65536) in
    let flag : lane16 (slice_index (slice_set st q x) (used_from f)) 0 ≡ lane16 (slice_index st (used_from f)) 0 =
    other_word st q (used_from f) x (λ y. lane16 y 0) (λ e. omega arith) in
    let is : lane16 (slice_index (slice_set st q x) q) 2 ≡ s % 65536 = ap (λ y. lane16 y 2) (get_or-set_same st q x 0 inside)
    ∙ set_same (slice_index st q) 2 (s % 65536) (omega arith) (omega arith) in record {
      no_flags = λ e. flag ∙ g.no_flags e;
      no_event = λ off. absurd (both f.features.event_idx on off);
      bit = omega (arith, flag, g.bit);
      flags = λ t a off. absurd (both f.features.event_idx on off);
      event = λ t a e. is ∙ ap (λ n. n % 65536) (some_is s t a);
      bell = other_word st q (call_at f) x (λ y. y) (used_no_bell f q (omega arith)) ∙ g.bell;
    }
  where
    some_is : (a b : ℕ) → Some a ≡ Some b → a ≡ b
    some_is a b e = cc

pub awake : (f : Frame) (at : Option ℕ) (bells : ℕ) (st : List ℕ) → DeviceSignals f at bells st → DeviceSignals f None bells st
awake f at bells st g = record {
  no_flags = g.no_flags;
  no_event = g.no_event;
  bit = g.bit;
  flags = λ s a off. absurd cc;
  event =
      λ s a on. absurd cc;
  bell = g.bell;
}

-- the store of the bell
past_area : (f : Frame) → used_from f + f.size < call_at f
past_area f = omega (arith, areas f)

pub call_stored : (f : Frame) (at : Option ℕ) (bells n : ℕ) (st : List ℕ) → call_at f < length st → DeviceSignals f at bells st
    → DeviceSignals f at n (slice_set st (call_at f) (bell_word n))
call_stored f at bells n st inside g =
    let q : ℕ = call_at f in let x : ℕ = bell_word n in
    let flag : lane16 (slice_index (slice_set st q x) (used_from f)) 0 ≡ lane16 (slice_index st (used_from f)) 0 =
    other_word st q (used_from f) x (λ y. lane16 y 0) (λ e. omega (arith, past_area f)) in
    let event : lane16 (slice_index (slice_set st q x) (used_from f + f.size)) 2 ≡ lane16 (slice_index st (used_from f + f.size)) 2 =
    other_word st q (used_from f + f.size) x (λ y. lane16 y 2) (λ e. omega (arith, past_area f)) in record {
      no_flags = λ on. flag ∙ g.no_flags on;
      no_event = λ off. event ∙ g.no_event off;
      bit = omega (arith, flag, g.bit);
      flags = λ s a off. flag ∙ g.flags s a off;
      event = λ s a on. event ∙ g.event s a on;
      bell = get_or-set_same st q x 0 inside;
    }

pub words_call : (f : Frame) (o : List DriverDone) (s : List DeviceDone) (st : List ℕ) (x : ℕ) → 0 < f.size → DeviceWords f o s st
    → DeviceWords f o s (slice_set st (call_at f) x)
words_call f o s st x pos w = let q : ℕ = call_at f in record {
  index = other_word st q (used_from f) x (λ y. lane16 y 1) (λ e. omega (arith, past_area f)) ∙ w.index;
  ids = λ j u low is. other_word st q (id_word f j) x (λ y. lane32 y 1) (λ e. omega (arith, past_area f, mod_below j f.size pos))
      ∙ w.ids j u low is;
  lens = λ j u low is. other_word st q (len_word f j) x (λ y. lane32 y 0) (λ e. omega (arith, past_area f, mod_below j f.size pos))
      ∙ w.lens j u low is;
}

pub acks_call : (f : Frame) (o : List DriverDone) (s : List DeviceDone) (st : List ℕ) (x : ℕ) → Places f o → Lists f o s
    → Acks f (ack_word f) o s st → Acks f (ack_word f) o s (slice_set st (call_at f) x)
acks_call f o s st x pl l a = at f.control refl
  where
    at : (b : Bool) → f.control ≡ b → Acks f (ack_word f) o s (slice_set st (call_at f) x)
    at true on = acks_elsewhere f (ack_word f) o s st (call_at f) x pl l (λ h low e. omega (arith, acks_follow f on)) a
    at false off = record {
      last = λ on. absurd (both f.control on off);
      stand = λ on. absurd (both f.control on off);
      collected = λ on. absurd (both f.control on off);
      commands_agree = a.commands_agree;
      acks_agree = a.acks_agree;
    }

-- ---- an access that stores nothing

-- the parts of the words stay
pub quietly : (ws : List ℕ) (d : DriverView) (e : DeviceView) (now : DeviceNow) (at : Option ℕ) (h n : ℕ) (x : Bool)
    → Ring ws d (record e { frame = d.frame }) → DeviceSignals d.frame at e.bells e.stored
    → DeviceDoing now d.frame d.done e.done e.stored n
    → Signals (chains_out d) (chains_in (record e { frame = d.frame; doing = now; armed = at; heard = h; seen = n; shown = x }))
    → Signals (entries_out (record e { frame = d.frame; doing = now; armed = at; heard = h; seen = n; shown = x }))
    (Rattle.vd_split_ring.specs.SplitRing.entries_in d)
    → DeviceArmed now d.frame at (length (takes e.done)) h → n ≤ length (offers d.done) → (x ≡ true → length (takes e.done) < n)
    → Ring ws d (record e { frame = d.frame; doing = now; armed = at; heard = h; seen = n; shown = x })
quietly ws d e now at h n x r signals doing kicks calls is_armed seen shown =
    ring_with ws ws d (record e { frame = d.frame }) (record e {
      frame = d.frame;
      doing = now;
      armed = at;
      heard = h;
      seen = n;
      shown =
          x;
    }) r record {
      same = refl;
      words = r.words;
      lists = r.lists;
      device_words = r.device_words;
      signals = signals;
      acks = r.acks;
      driver_doing = r.driver_doing;
      device_doing = doing;
      kicks = kicks;
      calls = calls;
      armed = is_armed;
      driver_seen = r.driver_seen;
      driver_cut = r.driver_cut;
      device_seen = seen;
      device_shown = shown;
      rested = r.rested;
    }

-- a store of an event word
pub event_store : (ws : List ℕ) (d : DriverView) (e : DeviceView) (q y : ℕ) (now : DeviceNow) (at : Option ℕ)
    → Ring ws d (record e { frame = d.frame }) → used_from d.frame ≤ q → q ≤ used_from d.frame + d.frame.size
    → DeviceWords d.frame d.done e.done (slice_set e.stored q y) → DeviceSignals d.frame at e.bells (slice_set e.stored q y)
    → DeviceDoing now d.frame d.done e.done (slice_set e.stored q y) e.seen
    → Signals (chains_out d) (chains_in (record e { frame = d.frame; stored = slice_set e.stored q y; doing = now; armed = at }))
    → Signals (entries_out (record e { frame = d.frame; stored = slice_set e.stored q y; doing = now; armed = at })) (entries_in d)
    → DeviceArmed now d.frame at (length (takes e.done)) e.heard
    → Ring (slice_set ws q y) d (record e { frame = d.frame; stored = slice_set e.stored q y; doing = now; armed = at })
event_store ws d e q y now at r low high stand signals doing kicks calls is_armed =
    let f : Frame = d.frame in
    ring_with ws (slice_set ws q y) d (record e { frame = d.frame })
    (record e { frame = d.frame; stored = slice_set e.stored q y; doing = now; armed = at }) r record {
      same = refl;
      words = device_stores f ws d.stored e.stored q y r.words (inl (low, omega arith));
      lists = r.lists;
      device_words = stand;
      signals = signals;
      acks = acks_elsewhere f (ack_word f) d.done e.done e.stored q y r.places r.lists (λ i b. used_no_ack f q i high) r.acks;
      driver_doing = r.driver_doing;
      device_doing = doing;
      kicks = kicks;
      calls = calls;
      armed = is_armed;
      driver_seen = r.driver_seen;
      driver_cut = r.driver_cut;
      device_seen = r.device_seen;
      device_shown = r.device_shown;
      rested = r.rested;
    }
