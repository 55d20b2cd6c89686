-- The stores of an offer's ring entry and of the index are steps of the driver's end.
use Rattle.std.proofs.Common.{◌≡◌, ◌≢◌, ℕ, ◌+◌, ◌*◌, ◌/◌, ◌%◌, ◌<◌, ◌≤◌, Bool, false, List, [], ◌∷◌, ◌++◌, length, take, drop, if◌then◌else◌, slice_index, slice_index_or, slice_set, refl, sym, ap, ◌∙◌, subst, arith, inl, inr}
use Rattle.std.proofs.lemmas.Bool.{cases_eq, eq-eqb}
use Rattle.std.proofs.lemmas.List.{length-set, length_push, get_or-set_same, get_or-set_other, get_or-take}
use Rattle.std.proofs.lemmas.Nat.{mod_below}
use Rattle.std.specs.Vec.{with_item}
use Rattle.vd_bits.specs.Lanes.{set_lane16}
use Rattle.vd_model.specs.declared.chain.Piece.{Piece}
use Rattle.vd_words.specs.declared.access.Access.TheVariants.{Store}
use Rattle.vd_words.specs.declared.access.Op.TheVariants as op
use Rattle.vd_ring.specs.declared.act.DriverAct.TheVariants as act
use Rattle.vd_ring.specs.declared.frame.Frame.{Frame}
use Rattle.vd_ring.specs.declared.frame.Put.{Put}
use Rattle.vd_ring.specs.declared.driver.DriverDone.{DriverDone}
use Rattle.vd_ring.specs.declared.driver.DriverDone.TheVariants.{Offer}
use Rattle.vd_ring.specs.declared.driver.DriverNow.TheVariants as now
use Rattle.vd_ring.specs.declared.driver.DriverView.{DriverView}
use Rattle.vd_ring.specs.Frames.{borrowed}
use Rattle.vd_ring.specs.History.{offers, open_at, free, next_head, places, head, first, occurs}
use Rattle.vd_ring.specs.Places.{Places}
use Rattle.vd_ring.proofs.Counts.{one_same, one_other, occurs_at, occurs_push}
use Rattle.vd_ring.proofs.HeldPlaces.{borrowed_some, free_inside, open_below, offer_places, places_before, places_new, head_inside, same_head}
use Rattle.vd_split_ring.specs.SplitWords.{IsLawful, avail_from, lane_word, with_lane, entry_lane, put, words_of, staged_chain}
use Rattle.vd_split_ring.specs.SplitDriver.{CanOffer, DriverNextAt, driver_after_at, driver_after, driver_act_at, plan, stores}
use Rattle.vd_split_ring.proofs.DriverOffers.{staged_is_chain}
use Rattle.vd_split_ring.proofs.DriverParts.{room_borrowed}
use Rattle.vd_split_ring.proofs.Areas.{areas}
use Rattle.vd_layout.specs.Begun.{IsDriverOp}
use Rattle.vd_layout.specs.Driver.{DriverSays}
use Rattle.vd_split.specs.declared.driver.SplitDriver.{SplitDriver}
use Rattle.vd_split.specs.declared.driver.Slot.{Slot}
use Rattle.vd_split.specs.declared.driver.DriverStep.TheVariants as step
use Rattle.vd_split.specs.DriverEnd.{HoldsPlaces, DriverStands, DriverStepStands, Keeps, driver_begun, driver_left, DriverStepArmed}
use Rattle.vd_split.specs.laws.DriverLaws.{room_from}
use Rattle.vd_split.specs.Parts.{next_place, needed}
use Rattle.vd_split.specs.laws.Plans.{some_free, needed_is, next_mod, copies_set}
use Rattle.vd_split.specs.laws.DriverSteps.{Goes, small_places, lane_below}

-- ---- the store of the ring entry

pub head_small : (e : SplitDriver) (v : DriverView) → e.doing ≡ step.Enter → DriverStands e v
    → (0 < length e.free.items) × (slice_index e.free.items 0 < 32768)
head_small e v is st =
    let c : List Piece = e.pieces.items in
    let n : DriverStepStands step.Enter c v.frame v.done v.doing = subst (λ t. DriverStepStands t c v.frame v.done v.doing) is st.doing in
    let some : 0 < length e.free.items = omega (arith, some_free v.frame v.done c n.0, ap (λ (fr : List ℕ). length fr) st.holds.queued) in
    (some, small_places e.free.items e.free.capacity e.slots.items v.frame v.done st.holds st.made.lawful 0 0 some)

enter_at : (e : SplitDriver) (v : DriverView) (i r x : ℕ) → e.doing ≡ step.Enter → DriverStands e v
    → i ≡ entry_lane v.frame (length (offers v.done)) / 4
    → x ≡ with_lane v.frame v.stored (entry_lane v.frame (length (offers v.done))) (next_head v.frame v.done)
    → Goes e (record e { area = with_item e.area i x; doing = step.Publish }) v op.Offer (Store (avail_from v.frame + i) x) r act.Moved
enter_at e v i r x is st here word =
    let f : Frame = v.frame in let o : List DriverDone = v.done in let c : List Piece = e.pieces.items in
    let pl : List Put = plan f o c in
    let n : DriverStepStands step.Enter c f o v.doing = subst (λ t. DriverStepStands t c f o v.doing) is st.doing in
    let j : ℕ = entry_lane f (length (offers o)) in
    let below = lane_below f (length (offers o)) st.made.lawful in
    let off : e.armed ≡ false = subst (λ t. DriverStepArmed t e.armed) is st.signals.awake in
    let p : ℕ = avail_from f + i in
    let at : p ≡ lane_word f j = ap (λ k. avail_from f + k) here in
    let is_after = ap (λ t. driver_after_at t v op.Offer (Store p x) r) n.1
    ∙ ap (λ (b : Bool). stores v p x (if b then now.Entered pl else now.Offering (pl ++ put p x ∷ []))) (eq-eqb p (lane_word f j) at) in
    let e' : SplitDriver = record e { area = with_item e.area i x; doing = step.Publish } in
    record {
      next = subst (λ t. DriverNextAt t v op.Offer (Store p x)) (sym n.1)
          (inr record { chain = c; can = n.0; whole = refl; place = at; word = word });
      stands = subst (λ w. DriverStands e' w) (sym is_after) record {
        made = st.made;
        counts = st.counts;
        holds = st.holds;
        area = copies_set (avail_from f) ((f.size + 6) / 4) e.area.items v.stored i x st.area (omega arith)
            (omega (arith, st.wide, areas f));
        wide = length-set v.stored p x ∙ st.wide;
        shown = st.shown;
        kick = st.kick;
        signals = record {
          is_armed = st.signals.is_armed;
          hears = st.signals.hears;
          rings = st.signals.rings;
          few =
              omega (arith, st.signals.few);
          awake = off;
        };
        doing = (n.0, refl);
      };
      is = sym (ap (λ t. driver_act_at t v op.Offer (Store p x) r) n.1);
      of_it = subst (λ t. IsDriverOp (driver_begun t c) op.Offer) (sym is) refl;
      left = subst (λ t. 3 < driver_left t c) (sym is) (let z : 3 < 4 = omega arith in z);
      says = subst (λ t. DriverSays act.Moved (driver_begun t c) (Rattle.vd_layout.specs.Begun.DriverOp.offer c) f o
          (driver_after v op.Offer (Store p x) r).done) (sym is) (refl, ap (λ (w : DriverView). w.done) is_after);
    }

pub enter_goes : (e : SplitDriver) (v : DriverView) (r x : ℕ) → e.doing ≡ step.Enter → DriverStands e v
    → x ≡ set_lane16 (slice_index e.area.items ((e.entry + 2) / 4)) ((e.entry + 2) % 4) (slice_index e.free.items 0)
    → Goes e (record e { area = with_item e.area ((e.entry + 2) / 4) x; doing = step.Publish }) v op.Offer
    (Store (2 * e.size + (e.entry + 2) / 4) x) r act.Moved
enter_goes e v r x is st word =
    let f : Frame = v.frame in
    let j : ℕ = entry_lane f (length (offers v.done)) in
    let i : ℕ = (e.entry + 2) / 4 in
    let lane : e.entry + 2 ≡ j = ap (λ k. k + 2) st.counts.entry_at in
    let here : i ≡ j / 4 = ap (λ k. k / 4) lane in
    let below = lane_below f (length (offers v.done)) st.made.lawful in
    let old : slice_index e.area.items i ≡ slice_index v.stored (lane_word f j) =
    st.area.same i (omega arith) ∙ ap (λ k. slice_index v.stored (avail_from f + k)) here in
    let value : x ≡ with_lane f v.stored j (next_head f v.done) =
    word ∙ ap (λ w. set_lane16 w ((e.entry + 2) % 4) (slice_index e.free.items 0)) old
    ∙ ap (λ k. set_lane16 (slice_index v.stored (lane_word f j)) (k % 4) (slice_index e.free.items 0)) lane
    ∙ ap (λ (fr : List ℕ). set_lane16 (slice_index v.stored (lane_word f j)) (j % 4) (slice_index fr 0)) st.holds.queued in
    subst (λ n. Goes e (record e { area = with_item e.area i x; doing = step.Publish }) v op.Offer (Store (2 * n + i) x) r act.Moved)
    (sym st.made.sized) (enter_at e v i r x is st here value)

pub entry_below : (e : SplitDriver) (v : DriverView) → DriverStands e v → ((e.entry + 2) / 4 < length e.area.items)
    × (0 < length e.area.items) × (e.entry < e.size)
entry_below e v st =
    let m = mod_below (length (offers v.done)) v.frame.size st.made.lawful.some_place in (
      omega (arith, st.area.as_many, st.counts.entry_at),
      omega (arith, st.area.as_many, st.made.lawful.some_place),
      omega (arith, st.counts.entry_at, st.made.sized),
    )

-- ---- the store of the index

-- a chain that is offered now is kept in the slot of its head
pub holds_more : (queue : List ℕ) (capacity : ℕ) (slots : List Slot) (f : Frame) (o : List DriverDone) (c : List Piece) (s : Slot)
    (many : ℕ) → HoldsPlaces queue capacity slots f o → IsLawful f → CanOffer f o c → many ≡ borrowed f c
    → s.number ≡ length (offers o) → s.places.items ≡ take many queue
    → HoldsPlaces (drop many queue) capacity (slice_set slots (slice_index queue 0) s) f (Offer c ∷ o)
holds_more queue capacity slots f o c s many h l can borrowed number taken =
    let m : ℕ = length (offers o) in
    let room = room_borrowed f o c l can in
    let some = borrowed_some f c can.fits in
    let ps : s.places.items ≡ take (Rattle.vd_ring.specs.Frames.borrowed f c) (free f o) =
    taken ∙ ap (λ (q : List ℕ). take many q) h.queued ∙ ap (λ k. take k (free f o)) borrowed in
    let placed : Places f (Offer c ∷ o) = offer_places f o c h.held can.fits (omega arith) can.limited in
    let new : places f (Offer c ∷ o) m ≡ take (Rattle.vd_ring.specs.Frames.borrowed f c) (free f o) = places_new f o c h.held in
    let at : ℕ = slice_index queue 0 in
    let is_head : head f (Offer c ∷ o) m ≡ at = ap first new ∙ get_or-take (Rattle.vd_ring.specs.Frames.borrowed f c) (free f o) 0 0
    (omega arith) ∙ ap (λ (q : List ℕ). slice_index q 0) (sym h.queued) in
    let here : 1 ≤ occurs m (open_at (Offer c ∷ o)) = omega (arith, occurs_push m (open_at o) m, one_same m m refl) in
    let inside : at < f.size = subst (λ k. k < f.size) is_head (head_inside f (Offer c ∷ o) m placed here) in
    record {
      held = placed;
      queued = ap (λ (q : List ℕ). drop many q) h.queued ∙ ap (λ k. drop k (free f o)) borrowed;
      room = h.room;
      as_many = length-set slots at s ∙ h.as_many;
      open_chains = λ k d a. elim (cases_eq m k) [
        | inl e ↦ subst (λ q. Keeps (slice_index_or (slice_set slots at s) (head f (Offer c ∷ o) q) d) f (Offer c ∷ o) q) e
            (subst (λ q. Keeps q f (Offer c ∷ o) m)
            (sym (ap (λ q. slice_index_or (slice_set slots at s) q d) is_head
            ∙ get_or-set_same slots at s d (omega (arith, h.as_many)))) (number, ps ∙ sym new))
        | inr ne ↦ (
            let old : 1 ≤ occurs k (open_at o) = omega (arith, a, occurs_push k (open_at o) m, one_other m k ne) in
            let below : k < m = open_below f o k h.held old in
            let before : places f (Offer c ∷ o) k ≡ places f o k = places_before f o c k h.held below in
            let apart : head f o k ≢ at = λ e. ne (sym (same_head f (Offer c ∷ o) k m placed a here (ap first before ∙ e ∙ sym is_head))) in
            let kept = h.open_chains k d old in
            subst (λ q. Keeps q f (Offer c ∷ o) k)
            (sym (ap (λ q. slice_index_or (slice_set slots at s) q d) (ap first before)
            ∙ get_or-set_other slots at (head f o k) s d apart)) (kept.0, kept.1 ∙ sym before)
            )
      ];
    }

pub publish_goes : (e : SplitDriver) (v : DriverView) (r x : ℕ) (e' : SplitDriver) (s : Slot) → e.doing ≡ step.Publish → DriverStands e v
    → x ≡ set_lane16 (slice_index e.area.items 0) 1 ((e.offered + 1) % 65536)
    → e'.free.items ≡ drop (needed e.features.indirect (length e.pieces.items)) e.free.items → e'.free.capacity ≡ e.free.capacity
    → s.number ≡ e.offered → s.places.items ≡ take (needed e.features.indirect (length e.pieces.items)) e.free.items
    → Goes e (record e {
      offered = e.offered + 1;
      entry = next_place e.entry e.size;
      free = e'.free;
      slots =
          with_item e.slots (slice_index e.free.items 0) s;
      area = with_item e.area 0 x;
      doing = step.Check e.offered (e.offered + 1);
    }) v
    op.Offer (Store (2 * e.size) x) r (act.Offered e.offered)
publish_goes e v r x e' s is st word left capacity number taken =
    let f : Frame = v.frame in let o : List DriverDone = v.done in let c : List Piece = e.pieces.items in
    let m : ℕ = length (offers o) in
    let l : IsLawful f = st.made.lawful in
    let many : ℕ = needed e.features.indirect (length c) in
    let borrowed : many ≡ borrowed f c = needed_is f e.features c l st.made.featured in
    let n : DriverStepStands step.Publish c f o v.doing = subst (λ t. DriverStepStands t c f o v.doing) is st.doing in
    let can : CanOffer f o c = n.0 in
    let off : e.armed ≡ false = subst (λ t. DriverStepArmed t e.armed) is st.signals.awake in
    let ps : List Put = plan f o c in
    let spelled : staged_chain f (words_of ps) ≡ c = staged_is_chain f o c ps l can refl in
    let p : ℕ = avail_from f + 0 in
    let value : x ≡ with_lane f v.stored 1 ((m + 1) % 65536) =
    word ∙ ap (λ w. set_lane16 w 1 ((e.offered + 1) % 65536)) (st.area.same 0 (omega (arith, l.some_place)))
    ∙ ap (λ k. set_lane16 (slice_index v.stored p) 1 ((k + 1) % 65536)) st.counts.offers in
    let e2 : SplitDriver = record e {
      offered = e.offered + 1;
      entry = next_place e.entry e.size;
      free = e'.free;
      slots =
          with_item e.slots (slice_index e.free.items 0) s;
      area = with_item e.area 0 x;
      doing = step.Check e.offered (e.offered + 1);
    } in
    let longer = length_push (offers o) c in
    let is_after : driver_after v op.Offer (Store p x) r ≡ record v {
      done = Offer c ∷ o;
      stored = slice_set v.stored p x;
      doing =
          now.Checking m (m + 1);
    } =
    ap (λ t. driver_after_at t v op.Offer (Store p x) r) n.1
    ∙ ap (λ (cs : List Piece). record v { done = Offer cs ∷ o; stored = slice_set v.stored p x; doing = now.Checking m (m + 1) })
    spelled in
    let held : HoldsPlaces e'.free.items e'.free.capacity (slice_set e.slots.items (slice_index e.free.items 0) s) f (Offer c ∷ o) =
    subst (λ q. HoldsPlaces q e'.free.capacity (slice_set e.slots.items (slice_index e.free.items 0) s) f (Offer c ∷ o)) (sym left)
    (subst (λ k. HoldsPlaces (drop many e.free.items) k (slice_set e.slots.items (slice_index e.free.items 0) s) f (Offer c ∷ o))
    (sym capacity)
    (holds_more e.free.items e.free.capacity e.slots.items f o c s many st.holds l can borrowed (number ∙ st.counts.offers) taken)) in
    subst (λ q. Goes e e2 v op.Offer (Store q x) r (act.Offered e.offered)) (let z : avail_from f + 0 ≡ 2 * e.size =
    omega (arith, st.made.sized) in z) record {
      next = subst (λ t. DriverNextAt t v op.Offer (Store p x)) (sym n.1) record { place = refl; word = value };
      stands = subst (λ w. DriverStands e2 w) (sym is_after) record {
        made = st.made;
        counts = record {
          offers = omega (arith, st.counts.offers, longer);
          collects = st.counts.collects;
          entry_at = ap (λ k. next_place k e.size) st.counts.entry_at ∙ ap (λ k. next_place (m % f.size) k) st.made.sized
              ∙ next_mod m f.size l.some_place ∙ ap (λ k. k % f.size) (sym longer);
          used_at = st.counts.used_at;
        };
        holds = held;
        area = copies_set (avail_from f) ((f.size + 6) / 4) e.area.items v.stored 0 x st.area (omega (arith, l.some_place))
            (omega (arith, st.wide, areas f));
        wide = length-set v.stored p x ∙ st.wide;
        shown = st.shown;
        kick = st.kick;
        signals = record {
          is_armed = st.signals.is_armed;
          hears = st.signals.hears;
          rings = st.signals.rings;
          few =
              omega (arith, st.signals.few);
          awake = off;
        };
        doing = (ap (λ k. now.Checking k (k + 1)) (sym st.counts.offers), omega arith, omega arith);
      };
      is = ap act.Offered st.counts.offers ∙ sym (ap (λ t. driver_act_at t v op.Offer (Store p x) r) n.1);
      of_it = subst (λ t. IsDriverOp (driver_begun t c) op.Offer) (sym is) refl;
      left = subst (λ t. 2 < driver_left t c) (sym is) (let z : 2 < 3 = omega arith in z);
      says = subst (λ t. DriverSays (act.Offered e.offered) (driver_begun t c) Rattle.vd_layout.specs.Begun.DriverOp.signal f o
          (driver_after v op.Offer (Store p x) r).done) (sym is) (
            c,
            refl,
            inr refl,
            st.counts.offers,
            ap (λ (w : DriverView). w.done) is_after,
            record {
              fits = can.fits;
              room =
                  room_from e v c st (omega (arith, room_borrowed f o c l can, borrowed, ap (λ (fr : List ℕ). length fr) st.holds.queued));
              limited = can.limited;
            },
          );
    }

pub publish_head : (e : SplitDriver) (v : DriverView) → e.doing ≡ step.Publish → DriverStands e v
    → (0 < length e.free.items) × (needed e.features.indirect (length e.pieces.items) ≤ length e.free.items)
    × (slice_index e.free.items 0 < length e.slots.items)
publish_head e v is st =
    let f : Frame = v.frame in let o : List DriverDone = v.done in let c : List Piece = e.pieces.items in
    let n : DriverStepStands step.Publish c f o v.doing = subst (λ t. DriverStepStands t c f o v.doing) is st.doing in
    let same = ap (λ (fr : List ℕ). length fr) st.holds.queued in
    let some = some_free f o c n.0 in
    let inside = free_inside f o (slice_index (free f o) 0) st.holds.held (occurs_at (free f o) 0 0 some) in (
      omega arith,
      omega (arith, room_borrowed f o c st.made.lawful n.0, needed_is f e.features c st.made.lawful st.made.featured),
      omega (arith, inside, ap (λ (fr : List ℕ). slice_index fr 0) st.holds.queued, st.holds.as_many),
    )
