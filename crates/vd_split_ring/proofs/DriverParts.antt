-- What the parts of the ring invariant keep when the driver stores.
use Rattle.std.proofs.Common.{◌≡◌, ◌≢◌, ℕ, ◌+◌, ◌%◌, ◌<◌, ◌≤◌, Bool, true, false, List, [], ◌∷◌, ◌++◌, length, take, if◌then◌else◌, slice_set, Option, sym, ap, ◌∙◌, subst, arith, inl, inr}
use Rattle.std.specs.List.{Contains}
use Rattle.std.proofs.lemmas.Bool.{cases_eq, cases_lt}
use Rattle.std.proofs.lemmas.List.{length_push, length-take-le, get_or-set_other}
use Rattle.vd_model.specs.declared.chain.Piece.{Piece}
use Rattle.vd_model.specs.Chains.{IsChain, needs}
use Rattle.vd_ring.specs.declared.frame.Frame.{Frame}
use Rattle.vd_ring.specs.declared.driver.DriverDone.{DriverDone}
use Rattle.vd_ring.specs.declared.driver.DriverDone.TheVariants.{Offer}
use Rattle.vd_ring.specs.Frames.{borrowed}
use Rattle.vd_ring.specs.History.{offers, collects, open_at, free, places, head, next_head, chain, first, occurs}
use Rattle.vd_ring.specs.Places.{Places}
use Rattle.vd_ring.proofs.Counts.{first_occurs, one_other, occurs_from, occurs_push, occurs_parts, Contains_from}
use Rattle.vd_ring.proofs.HeldPlaces.{open_below, chain_fits, head_held, few_open, borrowed_some, free_apart, free_inside, places_inside, places_before, places_new, chain_before, chain_new}
use Rattle.vd_ring.proofs.ControlSteps.{head_before, head_new}
use Rattle.vd_split_ring.specs.SplitWords.{IsLawful, IsDescriptors, commands_from, used_from, kick_at, lane_at, lane_word, with_lane, entry_lane, event_lane, spelling, Stand}
use Rattle.vd_split_ring.specs.SplitDriver.{CanOffer}
use Rattle.vd_split_ring.specs.SplitRing.{DriverWords, DriverSignals}
use Rattle.vd_split_ring.proofs.Descriptors.{stand_other}
use Rattle.vd_split_ring.proofs.Direct.{borrowed_needs}
use Rattle.vd_split_ring.proofs.Tables.{IsWord, spelling_within}
use Rattle.vd_split_ring.proofs.Areas.{areas, tables_follow, descriptor_low, lane_descriptor, area_no_descriptor, command_no_descriptor, lane_same, lane_other, lane_past, lane_inside, entries_differ, entry_inside}

pub room_borrowed : (f : Frame) (o : List DriverDone) (c : List Piece) → IsLawful f → CanOffer f o c → borrowed f c ≤ length (free f o)
room_borrowed f o c l can = omega (arith, borrowed_needs f c l, can.room)

-- ---- spelled chains

-- an open chain has as many places as it needs, and is a chain
pub open_chain : (f : Frame) (o : List DriverDone) (k : ℕ) → IsLawful f → Places f o → Contains (open_at o) k
    → (length (places f o k) ≡ needs f.features (chain o k)) × IsChain (chain o k)
open_chain f o k l pl here =
    let below : k < length (offers o) = open_below f o k pl (occurs_from k (open_at o) here) in
    (pl.as_many k below ∙ borrowed_needs f (chain o k) l, (chain_fits f o k pl below).chain)

-- so has the chain offered next
pub next_chain : (f : Frame) (o : List DriverDone) (c : List Piece) → IsLawful f → CanOffer f o c
    → (length (take (borrowed f c) (free f o)) ≡ needs f.features c) × IsChain c
next_chain f o c l can = (length-take-le (borrowed f c) (free f o) (room_borrowed f o c l can) ∙ borrowed_needs f c l, can.fits.chain)

pub next_free_place : (f : Frame) (o : List DriverDone) (c : List Piece) (q : ℕ) → 1 ≤ occurs q (take (borrowed f c) (free f o))
    → 1 ≤ occurs q (free f o)
next_free_place f o c q a = omega (arith, a, occurs_parts q (borrowed f c) (free f o))

-- a store in none of its words
pub spelled_apart : (f : Frame) (ws ps : List ℕ) (c : List Piece) (p x : ℕ) → length ps ≡ needs f.features c → IsChain c
    → (IsWord f ps p → ⊥) → Stand ws (spelling f ps c) → Stand (slice_set ws p x) (spelling f ps c)
spelled_apart f ws ps c p x len is apart stand =
    stand_other ws (spelling f ps c) p x stand (λ k d h e. apart (subst (λ (q : ℕ). IsWord f ps q) e (spelling_within f ps c len is k d h)))

pub needs_some : (f : Frame) (c : List Piece) → IsChain c → 1 ≤ needs f.features c
needs_some f c is = at f.features.indirect
  where
    at : (b : Bool) → 1 ≤ (if b then 1 else length c)
    at true = omega arith
    at false = omega (arith, is.0)

-- its words are the ring's descriptors
pub word_descriptor : (f : Frame) (ps : List ℕ) (q : ℕ) → 1 ≤ length ps → ((r : ℕ) → 1 ≤ occurs r ps → r < f.size) → IsWord f ps q
    → IsDescriptors f q
word_descriptor f ps q some inside (inl a) = inl (omega (arith, inside a.place a.here, a.high))
word_descriptor f ps q some inside (inr t) =
    inr (omega (arith, t.low), omega (arith, t.high, inside (first ps) (first_occurs ps some), tables_follow f t.on))

-- a store past the descriptors
pub spelled_past : (f : Frame) (ws ps : List ℕ) (c : List Piece) (p x : ℕ) → length ps ≡ needs f.features c → IsChain c
    → ((q : ℕ) → 1 ≤ occurs q ps → q < f.size) → (IsDescriptors f p → ⊥) → Stand ws (spelling f ps c)
    → Stand (slice_set ws p x) (spelling f ps c)
spelled_past f ws ps c p x len is inside apart =
    spelled_apart f ws ps c p x len is (λ w. apart (word_descriptor f ps p (omega (arith, len, needs_some f c is)) inside w))

pub open_inside : (f : Frame) (o : List DriverDone) (k q : ℕ) → Places f o → Contains (open_at o) k → 1 ≤ occurs q (places f o k)
    → q < f.size
open_inside f o k q pl here a = places_inside f o k q pl (occurs_from k (open_at o) here) a

pub open_past : (f : Frame) (o : List DriverDone) (ws : List ℕ) (p x k : ℕ) → IsLawful f → Places f o → DriverWords f o ws
    → (IsDescriptors f p → ⊥) → Contains (open_at o) k → Stand (slice_set ws p x) (spelling f (places f o k) (chain o k))
open_past f o ws p x k l pl d apart here =
    let c = open_chain f o k l pl here in
    spelled_past f ws (places f o k) (chain o k) p x c.0 c.1 (λ q a. open_inside f o k q pl here a) apart (d.spelled k here)

-- a word of free places is none of an open chain's
word_apart : (f : Frame) (o : List DriverDone) (ps : List ℕ) (p k : ℕ) → Places f o → 1 ≤ length ps
    → ((q : ℕ) → 1 ≤ occurs q ps → 1 ≤ occurs q (free f o)) → Contains (open_at o) k → IsWord f ps p → IsWord f (places f o k) p → ⊥
word_apart f o ps p k pl some are_free here (inl a) (inl b) =
    let e : a.place ≡ b.place = omega (arith, a.low, a.high, b.low, b.high) in
    omega (
      arith,
      b.here,
      free_apart f o k b.place pl (occurs_from k (open_at o) here)
          (subst (λ (q : ℕ). 1 ≤ occurs q (free f o)) e (are_free a.place a.here)),
    )
word_apart f o ps p k pl some are_free here (inl a) (inr t) =
    omega (arith, a.high, t.low, free_inside f o a.place pl (are_free a.place a.here))
word_apart f o ps p k pl some are_free here (inr t) (inl b) = omega (arith, b.high, t.low, open_inside f o k b.place pl here b.here)
word_apart f o ps p k pl some are_free here (inr t) (inr u) =
    let e : first ps ≡ first (places f o k) = omega (arith, t.low, t.high, u.low, u.high) in
    let is_open = occurs_from k (open_at o) here in
    omega (
      arith,
      head_held f o k pl is_open,
      free_apart f o k (head f o k) pl is_open
          (subst (λ (q : ℕ). 1 ≤ occurs q (free f o)) e (are_free (first ps) (first_occurs ps some))),
    )

-- a store in a word of free places
pub driver_words_described : (f : Frame) (o : List DriverDone) (ws ps : List ℕ) (p x : ℕ) → IsLawful f → Places f o → DriverWords f o ws
    → IsDescriptors f p → 1 ≤ length ps → ((q : ℕ) → 1 ≤ occurs q ps → 1 ≤ occurs q (free f o)) → IsWord f ps p
    → DriverWords f o (slice_set ws p x)
driver_words_described f o ws ps p x l pl d own some are_free w = record {
  index = lane_descriptor f ws p x 1 own (omega arith) ∙ d.index;
  entries = λ k a h. lane_descriptor f ws p x (entry_lane f k) own (entry_inside f k l.some_place) ∙ d.entries k a h;
  spelled = λ k here. let c = open_chain f o k l pl here in
      spelled_apart f ws (places f o k) (chain o k) p x c.0 c.1 (λ u. word_apart f o ps p k pl some are_free here w u) (d.spelled k here);
}

-- a store past the driver area, in no table
pub driver_words_past : (f : Frame) (o : List DriverDone) (ws : List ℕ) (p x : ℕ) → IsLawful f → Places f o → DriverWords f o ws
    → commands_from f ≤ p → DriverWords f o (slice_set ws p x)
driver_words_past f o ws p x l pl d past = record {
  index = lane_past f ws p x 1 (omega (arith, areas f)) (omega arith) ∙ d.index;
  entries = λ k a h. lane_past f ws p x (entry_lane f k) (omega (arith, areas f)) (entry_inside f k l.some_place) ∙ d.entries k a h;
  spelled = λ k here. open_past f o ws p x k l pl d (command_no_descriptor f p past) here;
}

-- the slot of the next entry is not that of an entry still counted on
pub slot_free : (f : Frame) (o : List DriverDone) (c : List Piece) → IsLawful f → Places f o → CanOffer f o c
    → (length (offers o) < length (collects o) + f.size) × (0 < f.size)
slot_free f o c l pl can =
    let some : 1 ≤ borrowed f c = borrowed_some f c can.fits in
    let room : borrowed f c ≤ length (free f o) = room_borrowed f o c l can in
    (omega (arith, pl.count, few_open f o pl), omega (arith, few_open f o pl))

-- the store of the entry of the next chain
pub driver_words_entered : (f : Frame) (o : List DriverDone) (c : List Piece) (ws : List ℕ) (v : ℕ) → IsLawful f → Places f o
    → DriverWords f o ws → CanOffer f o c → v < 65536 → used_from f ≤ length ws
    → DriverWords f o (slice_set ws (lane_word f (entry_lane f (length (offers o)))) (with_lane f ws (entry_lane f (length (offers o))) v))
driver_words_entered f o c ws v l pl d can small wide =
    let m : ℕ = length (offers o) in
    let j : ℕ = entry_lane f m in
    let slot = slot_free f o c l pl can in
    let inside : lane_word f j < length ws = omega (arith, lane_inside f j (entry_inside f m slot.1)) in record {
      index = lane_other f ws j 1 v small inside (λ e. omega arith) ∙ d.index;
      entries = λ k low high. lane_other f ws j (entry_lane f k) v small inside (entries_differ f k m slot.1 high (omega arith))
          ∙ d.entries k low high;
      spelled = λ k here. open_past f o ws (lane_word f j) (with_lane f ws j v) k l pl d
          (area_no_descriptor f (lane_word f j) (omega arith) (lane_inside f j (entry_inside f m slot.1))) here;
    }

-- the store of the index
pub driver_words_published : (f : Frame) (o : List DriverDone) (c : List Piece) (ws : List ℕ) → Places f o → DriverWords f o ws
    → CanOffer f o c → IsLawful f → used_from f ≤ length ws
    → Stand ws (spelling f (take (borrowed f c) (free f o)) c) → lane_at f ws (entry_lane f (length (offers o))) ≡ next_head f o
    → DriverWords f (Offer c ∷ o) (slice_set ws (lane_word f 1) (with_lane f ws 1 ((length (offers o) + 1) % 65536)))
driver_words_published f o c ws pl d can l wide stand entry =
    let m : ℕ = length (offers o) in
    let v : ℕ = (m + 1) % 65536 in
    let slot = slot_free f o c l pl can in
    let inside : lane_word f 1 < length ws = omega (arith, lane_inside f 1 (omega arith)) in
    let longer : length (offers o ++ c ∷ []) ≡ m + 1 = length_push (offers o) c in
    let us : List ℕ = slice_set ws (lane_word f 1) (with_lane f ws 1 v) in
    let past : IsDescriptors f (lane_word f 1) → ⊥ = area_no_descriptor f (lane_word f 1) (omega arith) (lane_inside f 1 (omega arith)) in
    let next = next_chain f o c l can in
    record {
      index = lane_same f ws 1 v (omega arith) inside ∙ ap (λ n. n % 65536) (sym longer);
      entries = λ k low high. lane_other f ws 1 (entry_lane f k) v (omega arith) inside (λ e. omega arith) ∙ elim (cases_lt k m) [
        | inl h ↦ d.entries k low h ∙ sym (head_before f o c k pl h)
        | inr h ↦ (
            let e : m ≡ k = omega arith in
            subst (λ (j : ℕ). lane_at f ws (entry_lane f j) ≡ head f (Offer c ∷ o) j) e (entry ∙ sym (head_new f o c pl can.fits))
            )
      ];
      spelled = λ k here. elim (cases_eq m k) [
        | inl e ↦ subst (λ (j : ℕ). Stand us (spelling f (places f (Offer c ∷ o) j) (chain (Offer c ∷ o) j))) e
            (subst (λ (ps : List ℕ). Stand us (spelling f ps (chain (Offer c ∷ o) m))) (sym (places_new f o c pl))
            (subst (λ (cs : List Piece). Stand us (spelling f (take (borrowed f c) (free f o)) cs)) (sym (chain_new o c))
            (spelled_past f ws (take (borrowed f c) (free f o)) c (lane_word f 1) (with_lane f ws 1 v) next.0 next.1
            (λ q a. free_inside f o q pl (next_free_place f o c q a)) past stand)))
        | inr ne ↦ (
            let here2 : Contains (open_at o) k =
            Contains_from k (open_at o) (omega (
              arith,
              occurs_from k (open_at (Offer c ∷ o)) here,
              occurs_push k (open_at o) m,
              one_other m k ne,
            )) in
            let below : k < m = open_below f o k pl (occurs_from k (open_at o) here2) in
            subst (λ (ps : List ℕ). Stand us (spelling f ps (chain (Offer c ∷ o) k))) (sym (places_before f o c k pl below))
            (subst (λ (cs : List Piece). Stand us (spelling f (places f o k) cs)) (sym (chain_before o c k below))
            (open_past f o ws (lane_word f 1) (with_lane f ws 1 v) k l pl d past here2))
            )
      ];
    }

-- ---- flags, event word and bell

pub signals_descriptor : (f : Frame) (armed : Option ℕ) (bells : ℕ) (ws : List ℕ) (p x : ℕ) → IsDescriptors f p
    → DriverSignals f armed bells ws → DriverSignals f armed bells (slice_set ws p x)
signals_descriptor f armed bells ws p x own g = record {
  no_flags = λ on. lane_descriptor f ws p x 0 own (omega arith) ∙ g.no_flags on;
  no_event = λ off. lane_descriptor f ws p x (event_lane f) own (omega arith) ∙ g.no_event off;
  bit = omega (arith, g.bit, lane_descriptor f ws p x 0 own (omega arith));
  flags = λ s a off. lane_descriptor f ws p x 0 own (omega arith) ∙ g.flags s a off;
  event = λ s a on. lane_descriptor f ws p x (event_lane f) own (omega arith) ∙ g.event s a on;
  bell = get_or-set_other ws p (kick_at f) x 0 (λ e. omega (arith, areas f, descriptor_low f p own)) ∙ g.bell;
}

pub signals_past : (f : Frame) (armed : Option ℕ) (bells : ℕ) (ws : List ℕ) (p x : ℕ) → used_from f ≤ p → kick_at f ≢ p
    → DriverSignals f armed bells ws → DriverSignals f armed bells (slice_set ws p x)
signals_past f armed bells ws p x past apart g = record {
  no_flags = λ on. lane_past f ws p x 0 past (omega arith) ∙ g.no_flags on;
  no_event = λ off. lane_past f ws p x (event_lane f) past (omega arith) ∙ g.no_event off;
  bit = omega (arith, g.bit, lane_past f ws p x 0 past (omega arith));
  flags = λ s a off. lane_past f ws p x 0 past (omega arith) ∙ g.flags s a off;
  event = λ s a on. lane_past f ws p x (event_lane f) past (omega arith) ∙ g.event s a on;
  bell = get_or-set_other ws p (kick_at f) x 0 apart ∙ g.bell;
}

-- the store of another lane
pub signals_lane : (f : Frame) (armed : Option ℕ) (bells : ℕ) (ws : List ℕ) (j v : ℕ) → v < 65536 → used_from f ≤ length ws → 0 < j
    → j < f.size + 2 → DriverSignals f armed bells ws
    → DriverSignals f armed bells (slice_set ws (lane_word f j) (with_lane f ws j v))
signals_lane f armed bells ws j v small wide some low g =
    let near : lane_word f j < used_from f = lane_inside f j (omega arith) in
    let inside : lane_word f j < length ws = omega arith in record {
      no_flags = λ on. lane_other f ws j 0 v small inside (λ e. omega arith) ∙ g.no_flags on;
      no_event = λ off. lane_other f ws j (event_lane f) v small inside (λ e. omega arith) ∙ g.no_event off;
      bit = omega (arith, g.bit, lane_other f ws j 0 v small inside (λ e. omega arith));
      flags = λ s a off. lane_other f ws j 0 v small inside (λ e. omega arith) ∙ g.flags s a off;
      event = λ s a on. lane_other f ws j (event_lane f) v small inside (λ e. omega arith) ∙ g.event s a on;
      bell = get_or-set_other ws (lane_word f j) (kick_at f) (with_lane f ws j v) 0 (λ e. omega (arith, areas f)) ∙ g.bell;
    }
