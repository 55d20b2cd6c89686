-- The accesses of a give and of a rest keep the ring invariant.
use Rattle.std.proofs.Common.{◌≡◌, ◌≢◌, ℕ, ◌+◌, ◌%◌, ◌<◌, ◌≤◌, true, false, List, [], ◌∷◌, ◌++◌, length, take, Some, slice_index, slice_set, None, refl, sym, ap, ◌∙◌, subst, arith, inl, inr}
use Rattle.std.proofs.lemmas.Bool.{cases_eq}
use Rattle.std.proofs.lemmas.List.{length_push, length-take-le, get_or-set_same, get_or-set_other}
use Rattle.std.proofs.lemmas.Nat.{mod_below}
use Rattle.vd_bits.specs.Lanes.{lane16, set_lane16, lane32, set_lane32}
use Rattle.vd_bits.proofs.LaneLaws.{set_same, set_other, half_same, low_lane}
use Rattle.vd_ring.specs.declared.frame.Frame.{Frame}
use Rattle.vd_ring.specs.declared.frame.Used.{Used}
use Rattle.vd_ring.specs.declared.driver.DriverDone.{DriverDone}
use Rattle.vd_ring.specs.declared.driver.DriverView.{DriverView}
use Rattle.vd_ring.specs.declared.device.DeviceDone.{DeviceDone}
use Rattle.vd_ring.specs.declared.device.DeviceDone.TheVariants.{Give, Rest}
use Rattle.vd_ring.specs.declared.device.DeviceNow.TheVariants.{Idle, Giving, Checking, Resting}
use Rattle.vd_ring.specs.declared.device.DeviceView.{DeviceView}
use Rattle.vd_ring.specs.History.{offers, collects, takes, gives, running, taken_head, head, chain_at, occurs, given, entry, batch, with_head, IsWhole, last_used}
use Rattle.vd_ring.specs.Lists.{entry_at}
use Rattle.vd_ring.specs.laws.Signals.{moves}
use Rattle.vd_ring.specs.laws.Signals.{publishes as publishes_range}
use Rattle.vd_split_ring.specs.SplitWords.{shown_from, IsDevices, width, used_from, id_word, len_word, used_id, used_len, ack_word}
use Rattle.vd_split_ring.specs.SplitDevice.{Names, Measures, PublishesUsed, device_gives, device_rests}
use Rattle.vd_split_ring.specs.SplitRing.{Ring, Gives, EndsGive, chains_out, chains_in, entries_out, entries_in}
use Rattle.vd_ring.proofs.Counts.{occurs_from, with_head_is}
use Rattle.vd_ring.proofs.ListSteps.{some_same, batch_one, entry_is, returns_next, single_entry}
use Rattle.vd_ring.proofs.DeviceLists.{give_room, running_head, same_taken_head, entry_new, entry_old, lists_given, lists_rested}
use Rattle.vd_ring.proofs.DeviceAcks.{acks_given, acks_rested, acks_elsewhere}
use Rattle.vd_split_ring.proofs.Areas.{areas, device_stores, places_differ, high_after_id, low_after_id, lane_after_id, high_after_len, high_after_index, other_word}
use Rattle.vd_split_ring.proofs.DeviceParts.{ring_with, doing_along, signals_kept, used_no_ack, used_no_bell}

-- ---- lanes that the three stores leave

-- a word after a store, where the stored word has the part that stood there
pub same_part : (ws : List ℕ) (p q x : ℕ) (g : ℕ → ℕ) → p < length ws → g x ≡ g (slice_index ws p)
    → g (slice_index (slice_set ws p x) q) ≡ g (slice_index ws q)
same_part ws p q x g h same = elim (cases_eq q p) [
  | inl e ↦ subst (λ (i : ℕ). g (slice_index (slice_set ws p x) i) ≡ g (slice_index ws i)) (sym e)
      (ap g (get_or-set_same ws p x 0 h) ∙ same)
  | inr ne ↦ ap g (get_or-set_other ws p q x 0 ne)
]

low_two : (w v : ℕ) → v < 4294967296 → lane16 (set_lane32 w 0 v) 2 ≡ lane16 w 2
low_two w v small = omega arith

-- the device area's words past the one with flags and index
part_kept : (n j g : ℕ) → 0 < n → j < g → g < j + n → j % n ≢ g % n
part_kept n j g pos low near = places_differ n j g pos low near

-- ---- the store of the id

pub names : (ws : List ℕ) (d : DriverView) (e : DeviceView) (p x : ℕ) → Ring ws d (record e { frame = d.frame; doing = Idle })
    → e.armed ≡ None → Names d.frame e.done e.stored p x
    → Ring (slice_set ws p x) d (record e { frame = d.frame; stored = slice_set e.stored p x; doing = Giving (x ∷ []) })
    × (p < width d.frame)
names ws d e p x r unarmed n =
    let f : Frame = d.frame in let s : List DeviceDone = e.done in let o : List DriverDone = d.done in let g : ℕ = length (gives s) in
    let m : ℕ = length (collects o) in
    let E : DeviceView = record e { frame = d.frame; doing = Idle } in
    let k : ℕ = n.number in
    let runs = occurs_from k (running s) n.runs in
    let slot = mod_below g f.size r.lawful.some_place in
    let room : g < m + f.size = give_room f o s k r.places r.lists runs in
    let h : ℕ = taken_head s k in
    let hd = running_head f o s k r.places r.lists runs in
    let small : h < 4294967296 = omega (arith, r.lawful.small, hd.1) in
    let q : ℕ = id_word f g in
    let y : ℕ = set_lane32 (slice_index e.stored q) 1 h in
    let wide : length e.stored ≡ width f = r.words.wide.2 in
    let low : q ≤ used_from f + f.size = omega arith in
    let own : IsDevices f q = inl (omega arith, omega arith) in
    let inside : q < length e.stored = omega (arith, areas f) in
    subst (λ (i : ℕ). Ring (slice_set ws i x) d (record e { frame = d.frame; stored = slice_set e.stored i x; doing = Giving (x ∷ []) })
    × (i < width f)) (sym n.place)
    (subst (λ (z : ℕ). Ring (slice_set ws q z) d
    (record e { frame = d.frame; stored = slice_set e.stored q z; doing = Giving (z ∷ []) }) × (q < width f))
    (sym (n.word ∙ ap (λ i. set_lane32 (slice_index e.stored i) 1 h) n.place)) (
      ring_with ws (slice_set ws q y) d E (record e { frame = d.frame; stored = slice_set e.stored q y; doing = Giving (y ∷ []) }) r
          record {
            same = refl;
            words = device_stores f ws d.stored e.stored q y r.words own;
            lists = r.lists;
            device_words = record {
              index = lane_after_id e.stored q (used_from f) h inside ∙ r.device_words.index;
              ids = λ j u b is. let at = entry_is f s j u r.lists.entries is in
                  high_after_id e.stored q (id_word f j) h (λ e'. part_kept f.size j g r.lawful.some_place at.0 (omega arith) (omega arith))
                  ∙ r.device_words.ids j u b is;
              lens = λ j u b is. low_after_id e.stored q (len_word f j) h inside ∙ r.device_words.lens j u b is;
            };
            signals = signals_kept f e.armed e.bells e.stored q y
                (same_part e.stored q (used_from f) y (λ w. lane16 w 0) inside (low_lane (slice_index e.stored q) h 0 (omega arith)))
                (other_word e.stored q (used_from f + f.size) y (λ w. lane16 w 2) (λ e'. omega arith))
                (used_no_bell f q low) r.device_signals;
            acks = acks_elsewhere f (ack_word f) o s e.stored q y r.places r.lists (λ i b. used_no_ack f q i low) r.acks;
            driver_doing = r.driver_doing;
            device_doing = record {
              number = k;
              runs = n.runs;
              next = n.next;
              is_id = half_same (slice_index e.stored q) 1 h small;
              stands = ap (λ w. lane32 w 1) (get_or-set_same e.stored q y 0 inside);
            };
            kicks = moves (chains_out d) (chains_in E) (length (takes s)) false unarmed r.kicks;
            calls = r.calls;
            armed = unarmed;
            driver_seen = r.driver_seen;
            driver_cut = r.driver_cut;
            device_seen = r.device_seen;
            device_shown = r.device_shown;
            rested = r.rested;
          },
      omega arith,
    ))

-- ---- the store of the length

pub measures : (ws : List ℕ) (d : DriverView) (e : DeviceView) (a p x : ℕ)
    → Ring ws d (record e { frame = d.frame; doing = Giving (a ∷ []) }) → Measures d.frame e.done e.stored p x
    → Ring (slice_set ws p x) d (record e { frame = d.frame; stored = slice_set e.stored p x; doing = Giving (a ∷ x ∷ []) })
    × (p < width d.frame)
measures ws d e a p x r n =
    let f : Frame = d.frame in let s : List DeviceDone = e.done in let o : List DriverDone = d.done in let g : ℕ = length (gives s) in
    let m : ℕ = length (collects o) in
    let E : DeviceView = record e { frame = d.frame; doing = Giving (a ∷ []) } in
    let now : Gives f s e.stored a = r.device_doing in
    let runs = occurs_from now.number (running s) now.runs in
    let slot = mod_below g f.size r.lawful.some_place in
    let room : g < m + f.size = give_room f o s now.number r.places r.lists runs in
    let q : ℕ = len_word f g in
    let y : ℕ = set_lane32 (slice_index e.stored q) 0 n.len in
    let small : n.len < 4294967296 = n.small in
    let wide : length e.stored ≡ width f = r.words.wide.2 in
    let low : q ≤ used_from f + f.size = omega arith in
    let own : IsDevices f q = inl (omega arith, omega arith) in
    let inside : q < length e.stored = omega (arith, areas f) in
    subst (λ (i : ℕ). Ring (slice_set ws i x) d
    (record e { frame = d.frame; stored = slice_set e.stored i x; doing = Giving (a ∷ x ∷ []) }) × (i < width f)) (sym n.place)
    (subst (λ (z : ℕ). Ring (slice_set ws q z) d
    (record e { frame = d.frame; stored = slice_set e.stored q z; doing = Giving (a ∷ z ∷ []) }) × (q < width f))
    (sym (n.word ∙ ap (λ i. set_lane32 (slice_index e.stored i) 0 n.len) n.place)) (
      ring_with ws (slice_set ws q y) d E (record e { frame = d.frame; stored = slice_set e.stored q y; doing = Giving (a ∷ y ∷ []) }) r
          record {
            same = refl;
            words = device_stores f ws d.stored e.stored q y r.words own;
            lists = r.lists;
            device_words = record {
              index = other_word e.stored q (used_from f) y (λ w. lane16 w 1) (λ e'. omega arith) ∙ r.device_words.index;
              ids = λ j u b is. high_after_len e.stored q (id_word f j) n.len inside small ∙ r.device_words.ids j u b is;
              lens = λ j u b is. let at = entry_is f s j u r.lists.entries is in
                  other_word e.stored q (len_word f j) y (λ w. lane32 w 0)
                  (λ e'. part_kept f.size j g r.lawful.some_place at.0 (omega arith) (omega arith)) ∙ r.device_words.lens j u b is;
            };
            signals = signals_kept f e.armed e.bells e.stored q y
                (other_word e.stored q (used_from f) y (λ w. lane16 w 0) (λ e'. omega arith))
                (same_part e.stored q (used_from f + f.size) y (λ w. lane16 w 2) inside (low_two (slice_index e.stored q) n.len small))
                (used_no_bell f q low) r.device_signals;
            acks = acks_elsewhere f (ack_word f) o s e.stored q y r.places r.lists (λ i b. used_no_ack f q i low) r.acks;
            driver_doing = r.driver_doing;
            device_doing = (
              record {
                number = now.number;
                runs = now.runs;
                next = now.next;
                is_id = now.is_id;
                stands = high_after_len e.stored q (id_word f g) n.len inside small ∙ now.stands;
              },
              ap (λ w. lane32 w 0) (get_or-set_same e.stored q y 0 inside),
            );
            kicks = r.kicks;
            calls = r.calls;
            armed = r.device_armed;
            driver_seen = r.driver_seen;
            driver_cut = r.driver_cut;
            device_seen = r.device_seen;
            device_shown = r.device_shown;
            rested = r.rested;
          },
      omega arith,
    ))

-- ---- the store of the index

-- the pair that the stored words give
pub given_is : (ws : List ℕ) (d : DriverView) (e : DeviceView) (a len : ℕ) → Ring ws d e → (now : Gives d.frame e.done e.stored a)
    → given d.frame e.done (lane32 a 1) len ≡ entry now.number len ∷ []
given_is ws d e a len r now =
    let f : Frame = d.frame in let s : List DeviceDone = e.done in let o : List DriverDone = d.done in
    let k : ℕ = now.number in
    let runs = occurs_from k (running s) now.runs in
    let number : with_head (taken_head s) (running s) (lane32 a 1) ≡ k =
    with_head_is (taken_head s) (running s) (lane32 a 1) k (sym now.is_id) runs
    (λ j c e'. same_taken_head f o s j k r.places r.lists c runs (e' ∙ now.is_id)) in
    ap (λ (n : ℕ). batch f (chain_at (takes s)) (length (gives s)) n len) number
    ∙ batch_one f (chain_at (takes s)) (length (gives s)) k len (returns_next f (chain_at (takes s)) (length (gives s)) k now.next)

-- a give of one entry
-- what ended where a give ends still does after another give
cut_given : (s : List DeviceDone) (us : List Used) (n : ℕ) → n ≤ length (gives s) → EndsGive s n → EndsGive (Give us ∷ s) n
cut_given s us n low cut more = elim (cases_eq (length (gives s)) n) [
  | inl e ↦ (last_used us, entry_new s us n e)
  | inr ne ↦ let old = cut (omega (arith, ne)) in (old.0, entry_old s us n ne ∙ old.1)
]

gives_entry : (ws : List ℕ) (d : DriverView) (e : DeviceView) (a b : ℕ) (us : List Used) (u : Used) → us ≡ u ∷ []
    → Ring ws d (record e { frame = d.frame; doing = Giving (a ∷ b ∷ []) }) → (now : Gives d.frame e.done e.stored a)
    → u ≡ entry now.number (lane32 b 0)
    → used_len d.frame e.stored (length (gives e.done)) ≡ lane32 b 0
    → let q = used_from d.frame in let x = set_lane16 (slice_index e.stored q) 1 (length (gives e.done ++ us) % 65536) in
    Ring (slice_set ws q x) d (record e {
      frame = d.frame;
      done = Give us ∷ e.done;
      stored = slice_set e.stored q x;
      doing =
          Checking (length (gives e.done)) (length (gives e.done ++ us));
    })
gives_entry ws d e a b us u one r now is len =
    let f : Frame = d.frame in let s : List DeviceDone = e.done in let o : List DriverDone = d.done in let g : ℕ = length (gives s) in
    let E : DeviceView = record e { frame = d.frame; doing = Giving (a ∷ b ∷ []) } in
    let q : ℕ = used_from f in let v : ℕ = length (gives s ++ u ∷ []) % 65536 in let x : ℕ = set_lane16 (slice_index e.stored q) 1 v in
    let st : List ℕ = slice_set e.stored q x in
    let wide : length e.stored ≡ width f = r.words.wide.2 in
    let inside : q < length e.stored = omega (arith, areas f) in
    let number : u.number ≡ now.number = ap (λ (w : Used). w.number) is in
    let measured : u.len ≡ lane32 b 0 = ap (λ (w : Used). w.len) is in
    let runs : 1 ≤ occurs u.number (running s) =
    subst (λ k. 1 ≤ occurs k (running s)) (sym number) (occurs_from now.number (running s) now.runs) in
    let order : f.features.in_order ≡ true → u.number ≡ g = λ on. number ∙ returns_next f (chain_at (takes s)) g now.number now.next on in
    let hd = running_head f o s u.number r.places r.lists runs in
    let longer : length (gives s ++ u ∷ []) ≡ g + 1 = length_push (gives s) u in
    let old : (j : ℕ) (w : Used) → g ≢ j → entry_at (Give (u ∷ []) ∷ s) j ≡ Some w → entry_at s j ≡ Some w =
    λ j w ne at. sym (entry_old s (u ∷ []) j ne) ∙ at in
    let new : (j : ℕ) (w : Used) → g ≡ j → entry_at (Give (u ∷ []) ∷ s) j ≡ Some w → u ≡ w =
    λ j w e' at. some_same u w (sym (entry_new s (u ∷ []) j e') ∙ at) in
    subst (λ (vs : List Used). let x2 = set_lane16 (slice_index e.stored q) 1 (length (gives s ++ vs) % 65536) in
    Ring (slice_set ws q x2) d (record e {
      frame = d.frame;
      done = Give vs ∷ s;
      stored = slice_set e.stored q x2;
      doing =
          Checking g (length (gives s ++ vs));
    })) (sym one)
    (ring_with ws (slice_set ws q x) d E
    (record e { frame = d.frame; done = Give (u ∷ []) ∷ s; stored = st; doing = Checking g (length (gives s ++ u ∷ [])) }) r record {
      same = refl;
      words = device_stores f ws d.stored e.stored q x r.words (inl (omega arith, omega arith));
      lists = lists_given f o s u r.lists runs (single_entry f (chain_at (takes s)) g u order);
      device_words = record {
        index = ap (λ w. lane16 w 1) (get_or-set_same e.stored q x 0 inside) ∙ set_same (slice_index e.stored q) 1 v (omega arith)
            (omega arith);
        ids = λ j w low at. high_after_index e.stored q (id_word f j) v inside (omega arith) ∙ elim (cases_eq g j) [
          | inl e' ↦ ap (λ (i : ℕ). used_id f e.stored i) (sym e') ∙ now.stands ∙ now.is_id ∙ ap (taken_head s) (sym number) ∙ hd.0
              ∙ ap (λ (y : Used). head f o y.number) (new j w e' at)
          | inr ne ↦ r.device_words.ids j w low (old j w ne at)
        ];
        lens = λ j w low at. other_word e.stored q (len_word f j) x (λ y. lane32 y 0) (λ e'. omega arith) ∙ elim (cases_eq g j) [
          | inl e' ↦ ap (λ (i : ℕ). used_len f e.stored i) (sym e') ∙ len ∙ sym measured ∙ ap (λ (y : Used). y.len) (new j w e' at)
          | inr ne ↦ r.device_words.lens j w low (old j w ne at)
        ];
      };
      signals = signals_kept f e.armed e.bells e.stored q x
          (same_part e.stored q q x (λ w. lane16 w 0) inside
          (set_other (slice_index e.stored q) 1 0 v (omega arith) (omega arith) (omega arith) (λ e'. omega arith)))
          (other_word e.stored q (q + f.size) x (λ w. lane16 w 2) (λ e'. omega (arith, r.lawful.some_place)))
          (used_no_bell f q (omega arith)) r.device_signals;
      acks = acks_given f (ack_word f) o s u st r.places r.lists runs
          (acks_elsewhere f (ack_word f) o s e.stored q x r.places r.lists (λ i low. used_no_ack f q i (omega arith)) r.acks);
      driver_doing = doing_along d.doing f o d.stored d.seen s (Give (u ∷ []) ∷ s)
          (λ w at. entry_old s (u ∷ []) (length (collects o))
          (λ e'. omega (arith, (entry_is f s (length (collects o)) w r.lists.entries at).0)) ∙ at) r.driver_doing;
      device_doing = tt;
      kicks = r.kicks;
      calls = publishes_range (entries_out E) (entries_in d) (length (gives s ++ u ∷ [])) (omega (arith, longer)) refl r.calls;
      armed = (r.device_armed, record { some = omega (arith, longer); near = omega (arith, longer, r.lawful.some_place) });
      driver_seen = omega (arith, r.driver_seen);
      driver_cut = cut_given s (u ∷ []) d.seen r.driver_seen r.driver_cut;
      device_seen = r.device_seen;
      device_shown = r.device_shown;
      rested = tt;
    })

pub publishes : (ws : List ℕ) (d : DriverView) (e : DeviceView) (a b p x : ℕ)
    → Ring ws d (record e { frame = d.frame; doing = Giving (a ∷ b ∷ []) }) → PublishesUsed d.frame e.done e.stored a b p x
    → Ring (slice_set ws p x) d (device_gives (record e { frame = d.frame; doing = Giving (a ∷ b ∷ []) }) a b p x)
publishes ws d e a b p x r n =
    let f : Frame = d.frame in let s : List DeviceDone = e.done in
    let E : DeviceView = record e { frame = d.frame; doing = Giving (a ∷ b ∷ []) } in
    let now : Gives f s e.stored a = r.device_doing.0 in
    let us : List Used = given f s (lane32 a 1) (lane32 b 0) in
    let q : ℕ = used_from f in
    let word : ℕ → ℕ = λ i. set_lane16 (slice_index e.stored i) 1 (length (gives s ++ us) % 65536) in
    subst (λ (i : ℕ). Ring (slice_set ws i x) d (record e {
      frame = d.frame;
      done = Give us ∷ s;
      stored = slice_set e.stored i x;
      doing = Checking (length (gives s)) (length (gives s ++ us));
    })) (sym n.place)
    (subst (λ (z : ℕ). Ring (slice_set ws q z) d (record e {
      frame = d.frame;
      done = Give us ∷ s;
      stored = slice_set e.stored q z;
      doing = Checking (length (gives s)) (length (gives s ++ us));
    })) (sym (n.word ∙ ap word n.place))
    (gives_entry ws d e a b us (entry now.number (lane32 b 0)) (given_is ws d E a (lane32 b 0) r now) r now refl r.device_doing.1))

-- ---- the rest

pub rests : (ws : List ℕ) (d : DriverView) (e : DeviceView) (r : ℕ) → Ring ws d (record e { frame = d.frame; doing = Resting })
    → shown_from r (length (takes e.done)) ≡ length (offers d.done)
    → Ring ws d (device_rests (record e { frame = d.frame; doing = Resting }) r)
rests ws d e x r index =
    let f : Frame = d.frame in let s : List DeviceDone = e.done in let g : ℕ = length (gives s) in
    let E : DeviceView = record e { frame = d.frame; doing = Resting } in
    let is : IsWhole s = r.device_doing in
    let len : length (take g (takes s)) ≡ g = length-take-le g (takes s) (omega (arith, r.lists.count)) in
    ring_with ws ws d E (record e { frame = d.frame; done = Rest ∷ s; doing = Idle; seen = shown_from x (length (takes s)) }) r record {
      same = refl;
      words = r.words;
      lists = lists_rested f d.done s r.lists is;
      device_words = record { index = r.device_words.index; ids = r.device_words.ids; lens = r.device_words.lens };
      signals = r.device_signals;
      acks = acks_rested f (ack_word f) d.done s e.stored r.acks;
      driver_doing = doing_along d.doing f d.done d.stored d.seen s (Rest ∷ s) (λ u at. at) r.driver_doing;
      device_doing = tt;
      kicks = moves (chains_out d) (chains_in E) (length (take g (takes s))) true r.device_armed r.kicks;
      calls = r.calls;
      armed = tt;
      driver_seen = r.driver_seen;
      driver_cut = r.driver_cut;
      device_seen = omega (arith, index);
      device_shown = λ h. omega (arith, index, r.device_shown h, r.device_seen, r.lists.count);
      rested = (len, is);
    }
