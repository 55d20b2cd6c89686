-- The store of the first second word is a step of the driver's end: it publishes the chain.
use Rattle.std.proofs.Common.{◌≡◌, ◌≢◌, ℕ, ◌+◌, ◌-◌, ◌*◌, ◌<◌, ◌≤◌, ◌==◌, Bool, true, false, List, [], ◌∷◌, ◌++◌, length, drop, Some, None, if◌then◌else◌, slice_index, slice_index_or, slice_set, refl, sym, ap, ◌∙◌, subst, arith, inl, inr}
use Rattle.std.proofs.lemmas.Bool.{cases_eq, eq-eqb}
use Rattle.std.proofs.lemmas.List.{length-set, length_push, get_or-set_same, get_or-set_other, get_or-take}
use Rattle.std.specs.Vec.{with_item}
use Rattle.vd_model.specs.declared.chain.Piece.{Piece}
use Rattle.vd_model.specs.declared.features.Features.{Features}
use Rattle.vd_model.specs.Chains.{needs}
use Rattle.vd_words.specs.declared.access.Access.TheVariants.{Store}
use Rattle.vd_words.specs.declared.access.Op.TheVariants as op
use Rattle.vd_ring.specs.declared.act.DriverAct.TheVariants as act
use Rattle.vd_ring.specs.declared.frame.Frame.{Frame}
use Rattle.vd_ring.specs.declared.frame.Put.{Put}
use Rattle.vd_ring.specs.declared.driver.DriverDone.{DriverDone}
use Rattle.vd_ring.specs.declared.driver.DriverDone.TheVariants.{Offer}
use Rattle.vd_ring.specs.declared.driver.DriverNow.TheVariants as now
use Rattle.vd_ring.specs.declared.driver.DriverView.{DriverView}
use Rattle.vd_ring.specs.Frames.{borrowed}
use Rattle.vd_ring.specs.History.{offers, open_at, open_size, free, next_head, head, first, occurs}
use Rattle.vd_ring.specs.Places.{Places}
use Rattle.vd_ring.proofs.Counts.{one_same, one_other, occurs_push}
use Rattle.vd_ring.proofs.HeldPlaces.{open_below, offer_places, places_before, places_new, chain_before, chain_new, head_inside, same_head}
use Rattle.vd_packed_ring.specs.PackedWords.{IsLawful, second_word, put, words_of}
use Rattle.vd_packed_ring.specs.PackedChains.{descriptors, publishing, staged_chain}
use Rattle.vd_packed_ring.specs.PackedPositions.{offer_position, collect_position}
use Rattle.vd_packed_ring.specs.PackedDriver.{CanOffer, DriverNextAt, driver_after_at, driver_after, driver_act_at, driver_offers, plan, last_put, stores}
use Rattle.vd_packed_ring.proofs.Offers.{staged_is_chain}
use Rattle.vd_packed_ring.proofs.Positions.{needs_some, driver_span, offer_position_offered, collect_position_offered, free_some}
use Rattle.vd_packed_ring.proofs.Spelled.{borrowed_one}
use Rattle.vd_layout.specs.Begun.{DriverOp, IsDriverOp}
use Rattle.vd_layout.specs.Driver.{DriverSays}
use Rattle.vd_packed.specs.declared.driver.PackedDriver.{PackedDriver}
use Rattle.vd_packed.specs.declared.driver.Slot.{Slot}
use Rattle.vd_packed.specs.declared.driver.DriverStep.TheVariants as step
use Rattle.vd_packed.specs.laws.Bounds.{limit_small, needs_few, offer_position_few}
use Rattle.vd_packed.specs.DriverEnd.{HoldsIds, DriverStands, DriverStepStands, DriverStepArmed, driver_owes, Keeps, driver_begun, driver_left}
use Rattle.vd_packed.specs.laws.DriverEnd.{not_armed}
use Rattle.vd_packed.specs.Tabled.{needed, published_word}
use Rattle.vd_packed.specs.laws.Tabling.{published_at}
use Rattle.vd_packed.specs.laws.Places.{ring_position_below, second_at, same_at}
use Rattle.vd_packed.specs.laws.DriverSteps.{Goes, size_facts, next_id_facts, needed_is}

-- ---- the store of the first second word

-- a chain that is offered now is kept in the slot of its id
pub holds_more : (queue : List ℕ) (capacity : ℕ) (slots : List Slot) (f : Frame) (o : List DriverDone) (c : List Piece) (s : Slot)
    → HoldsIds queue capacity slots f o → IsLawful f → CanOffer f o c
    → s.number ≡ length (offers o) → s.count ≡ needs f.features c
    → HoldsIds (drop 1 queue) capacity (slice_set slots (slice_index queue 0) s) f (Offer c ∷ o)
holds_more queue capacity slots f o c s h l can number count =
    let m : ℕ = length (offers o) in
    let one : borrowed f c ≡ 1 = borrowed_one f c l in
    let some = free_some f o c l h.held can.fits can.room in
    let placed : Places f (Offer c ∷ o) = offer_places f o c h.held can.fits (omega arith) can.limited in
    let at : ℕ = slice_index queue 0 in
    let is_head : head f (Offer c ∷ o) m ≡ at = ap first (places_new f o c h.held) ∙ get_or-take (borrowed f c) (free f o) 0 0
    (omega arith) ∙ ap (λ (q : List ℕ). slice_index q 0) (sym h.queued) in
    let here : 1 ≤ occurs m (open_at (Offer c ∷ o)) = omega (arith, occurs_push m (open_at o) m, one_same m m refl) in
    let inside : at < f.size = subst (λ k. k < f.size) is_head (head_inside f (Offer c ∷ o) m placed here) in
    record {
      held = placed;
      queued = ap (λ (q : List ℕ). drop 1 q) h.queued ∙ ap (λ k. drop k (free f o)) (sym one);
      room = h.room;
      as_many = length-set slots at s ∙ h.as_many;
      open_chains = λ k d a. elim (cases_eq m k) [
        | inl e ↦ subst (λ q. Keeps (slice_index_or (slice_set slots at s) (head f (Offer c ∷ o) q) d) f (Offer c ∷ o) q) e
            (subst (λ q. Keeps q f (Offer c ∷ o) m)
            (sym (ap (λ q. slice_index_or (slice_set slots at s) q d) is_head
            ∙ get_or-set_same slots at s d (omega (arith, h.as_many)))) (number, count ∙ ap (needs f.features) (sym (chain_new o c))))
        | inr ne ↦ (
            let old : 1 ≤ occurs k (open_at o) = omega (arith, a, occurs_push k (open_at o) m, one_other m k ne) in
            let below : k < m = open_below f o k h.held old in
            let before : head f (Offer c ∷ o) k ≡ head f o k = ap first (places_before f o c k h.held below) in
            let apart : head f o k ≢ at = λ e. ne (sym (same_head f (Offer c ∷ o) k m placed a here (before ∙ e ∙ sym is_head))) in
            let kept = h.open_chains k d old in
            subst (λ q. Keeps q f (Offer c ∷ o) k)
            (sym (ap (λ q. slice_index_or (slice_set slots at s) q d) before ∙ get_or-set_other slots at (head f o k) s d apart))
            (kept.0, kept.1 ∙ ap (needs f.features) (sym (chain_before o c k below)))
            )
      ];
    }

-- the open chains have as many descriptors more
open_offered : (f : Frame) (o : List DriverDone) (c : List Piece) → Places f o → Places f (Offer c ∷ o)
    → open_size f (Offer c ∷ o) ≡ open_size f o + needs f.features c
open_offered f o c p p' = omega (
  arith,
  driver_span f o p.is_open,
  driver_span f (Offer c ∷ o) p'.is_open,
  offer_position_offered f o c,
  collect_position_offered f o c p,
)

pub publish_facts : (e : PackedDriver) (v : DriverView) → e.doing ≡ step.Publish → DriverStands e v
    → (0 < length e.free.items) × (slice_index e.free.items 0 < 65536) × (0 < length e.pieces.items) × (length e.pieces.items ≤ 16)
    × (e.next.place < 32768) × (slice_index e.free.items 0 < length e.slots.items)
    × (needed e.features.indirect (length e.pieces.items) ≤ e.space)
publish_facts e v is st =
    let f : Frame = v.frame in let o : List DriverDone = v.done in let c : List Piece = e.pieces.items in
    let n : DriverStepStands step.Publish c e.at f o v.doing = subst (λ t. DriverStepStands t c e.at f o v.doing) is st.doing in
    let id = next_id_facts e v c st n.0 in
    let small = size_facts e v st in (
      id.0,
      omega (arith, id.1, small.1),
      n.0.fits.chain.0,
      n.0.fits.chain.1,
      omega (
        arith,
        ring_position_below e.next f.size (offer_position f o) (omega (arith, st.made.lawful.least)) st.counts.next_at,
        st.made.lawful.most,
      ),
      omega (arith, id.1, st.holds.as_many, st.made.sized),
      omega (arith, n.0.room, needed_is e v c st, driver_span f o st.holds.held.is_open, st.counts.left),
    )

-- its position fits 64 bits
pub position_small : (e : PackedDriver) (v : DriverView) → e.doing ≡ step.Publish → DriverStands e v
    → e.next_position + needed e.features.indirect (length e.pieces.items) < 1000000000000
position_small e v is st =
    let n : DriverStepStands step.Publish e.pieces.items e.at v.frame v.done v.doing =
    subst (λ t. DriverStepStands t e.pieces.items e.at v.frame v.done v.doing) is st.doing in
    omega (
      arith,
      n.0.limited,
      limit_small v.frame,
      st.counts.next_is,
      offer_position_few v.frame v.done st.holds.held,
      needed_is e v e.pieces.items st,
      needs_few v.frame e.pieces.items n.0.fits.chain,
    )

-- the number of a chain that is offered now fits 32 bits
pub offered_small : (e : PackedDriver) (v : DriverView) → e.doing ≡ step.Publish → DriverStands e v → e.offered < 4294967295
offered_small e v is st =
    let n : DriverStepStands step.Publish e.pieces.items e.at v.frame v.done v.doing =
    subst (λ t. DriverStepStands t e.pieces.items e.at v.frame v.done v.doing) is st.doing in
    omega (arith, n.0.limited, st.counts.offers, limit_small v.frame)

publish_at : (e : PackedDriver) (v : DriverView) (r p x k : ℕ) (e' : PackedDriver) (s : Slot) → e.doing ≡ step.Publish → DriverStands e v
    → p ≡ second_word v.frame.size (offer_position v.frame v.done) → x ≡ (last_put v.frame v.done e.pieces.items).word
    → k ≡ needs v.frame.features e.pieces.items
    → e'.free.items ≡ drop 1 e.free.items → e'.free.capacity ≡ e.free.capacity → s.number ≡ e.offered → s.count ≡ k
    → Goes e (record e {
      offered = e.offered + 1;
      next = e.at;
      next_position = e.next_position + k;
      space = e.space - k;
      free = e'.free;
      slots = with_item e.slots (slice_index e.free.items 0) s;
      doing = step.Check k;
    }) v op.Offer (Store p x) r (act.Offered e.offered)
publish_at e v r p x k e' s is st place word many left capacity number count =
    let f : Frame = v.frame in let o : List DriverDone = v.done in let c : List Piece = e.pieces.items in
    let m : ℕ = length (offers o) in let q : ℕ = offer_position f o in
    let l : IsLawful f = st.made.lawful in
    let n : DriverStepStands step.Publish c e.at f o v.doing = subst (λ t. DriverStepStands t c e.at f o v.doing) is st.doing in
    let can : CanOffer f o c = n.0 in
    let ps : List Put = plan f o c in
    let spelled : staged_chain f (words_of ps) x ≡ c = staged_is_chain f o c ps x l can refl word in
    let whole : put p x ≡ last_put f o c = ap (λ (i : ℕ). put i x) place ∙ ap (λ (i : ℕ). put (second_word f.size q) i) word in
    let on : (p == second_word f.size q) ≡ true = eq-eqb p (second_word f.size q) place in
    let e2 : PackedDriver = record e {
      offered = e.offered + 1;
      next = e.at;
      next_position = e.next_position + k;
      space = e.space - k;
      free = e'.free;
      slots = with_item e.slots (slice_index e.free.items 0) s;
      doing = step.Check k;
    } in
    let longer = length_push (offers o) c in
    let is_after : driver_after v op.Offer (Store p x) r ≡ record v {
      done = Offer c ∷ o;
      stored = slice_set v.stored p x;
      doing =
          now.Checking q (offer_position f (Offer c ∷ o));
    } =
    ap (λ t. driver_after_at t v op.Offer (Store p x) r) n.2
    ∙ (ap (λ (i : Bool). if i then driver_offers v ps p x else stores v p x (now.Offering (ps ++ put p x ∷ []))) on
    ∙ ap (λ (cs : List Piece). record v {
      done = Offer cs ∷ o;
      stored = slice_set v.stored p x;
      doing =
          now.Checking q (offer_position f (Offer cs ∷ o));
    }) spelled) in
    let held0 = holds_more e.free.items e.free.capacity e.slots.items f o c s st.holds l can (number ∙ st.counts.offers) (count ∙ many) in
    let held : HoldsIds e'.free.items e'.free.capacity (slice_set e.slots.items (slice_index e.free.items 0) s) f (Offer c ∷ o) =
    subst (λ u. HoldsIds u e'.free.capacity (slice_set e.slots.items (slice_index e.free.items 0) s) f (Offer c ∷ o)) (sym left)
    (subst (λ k. HoldsIds (drop 1 e.free.items) k (slice_set e.slots.items (slice_index e.free.items 0) s) f (Offer c ∷ o))
    (sym capacity) held0) in
    let fits = publish_facts e v is st in
    let off : e.armed ≡ false = subst (λ t. DriverStepArmed t e.armed) is st.signals.awake in
    let few : e.bells + 0 ≤ e.offered = subst (λ t. e.bells + driver_owes t ≤ e.offered) is st.signals.few in
    let past : q + k ≡ offer_position f (Offer c ∷ o) = omega (arith, offer_position_offered f o c, many) in
    record {
      of_it = subst (λ t. IsDriverOp (driver_begun t c) op.Offer) (sym is) refl;
      next = subst (λ t. DriverNextAt t v op.Offer (Store p x)) (sym n.2) (inr record { chain = c; can = can; whole = refl; last = whole });
      stands = subst (λ w. DriverStands e2 w) (sym is_after) record {
        made = st.made;
        counts = record {
          offers = omega (arith, st.counts.offers, longer);
          collects = st.counts.collects;
          next_at = same_at e.at f.size (q + needs f.features c) (offer_position f (Offer c ∷ o))
              (omega (arith, offer_position_offered f o c)) n.1;
          used_at = same_at e.used f.size (collect_position f o) (collect_position f (Offer c ∷ o))
              (sym (collect_position_offered f o c st.holds.held)) st.counts.used_at;
          next_is = omega (arith, st.counts.next_is, past);
          used_is = st.counts.used_is ∙ sym (collect_position_offered f o c st.holds.held);
          left = omega (arith, fits.6, st.counts.left, open_offered f o c st.holds.held held0.held, many, needed_is e v c st);
        };
        holds = held;
        kick = st.kick;
        signals = record {
          is_armed = not_armed e v st off
              ∙ sym (ap (λ (y : Bool). if y then Some (collect_position f (Offer c ∷ o)) else None) off);
          hears = st.signals.hears;
          rings = st.signals.rings;
          few = omega (arith, few);
          awake = off;
        };
        doing = (q, refl, past, omega (arith, needs_some f c can.fits, many), omega (arith, can.fits.size, many));
      };
      is = ap act.Offered st.counts.offers
          ∙ sym (ap (λ t. driver_act_at t v op.Offer (Store p x) r) n.2 ∙ ap (λ (i : Bool). if i then act.Offered m else act.Moved) on);
      left = subst (λ t. 2 < driver_left t c) (sym is) (let z : 2 < 3 = omega arith in z);
      says = subst (λ t. DriverSays (act.Offered e.offered) (driver_begun t c) DriverOp.signal f o
          (driver_after v op.Offer (Store p x) r).done) (sym is) (
            c,
            refl,
            inr refl,
            st.counts.offers,
            ap (λ (w : DriverView). w.done) is_after,
            record { fits = can.fits; room = omega (arith, can.room, driver_span f o st.holds.held.is_open); limited = can.limited },
          );
    }

-- the word as the end computes it
pub publish_goes : (e : PackedDriver) (v : DriverView) (r x id k : ℕ) (e' : PackedDriver) (s : Slot) → e.doing ≡ step.Publish
    → DriverStands e v
    → id ≡ slice_index e.free.items 0 → x ≡ published_word e.features.indirect e.next.wrap id e.pieces.items
    → k ≡ needed e.features.indirect (length e.pieces.items)
    → e'.free.items ≡ drop 1 e.free.items → e'.free.capacity ≡ e.free.capacity → s.number ≡ e.offered → s.count ≡ k
    → Goes e (record e {
      offered = e.offered + 1;
      next = e.at;
      next_position = e.next_position + k;
      space = e.space - k;
      free = e'.free;
      slots = with_item e.slots id s;
      doing = step.Check k;
    }) v op.Offer (Store (2 * e.next.place + 1) x) r (act.Offered e.offered)
publish_goes e v r x id k e' s is st first_id word many left capacity number count =
    let f : Frame = v.frame in let o : List DriverDone = v.done in let c : List Piece = e.pieces.items in let q : ℕ = offer_position f o in
    let fits = publish_facts e v is st in
    let is_id : id ≡ next_head f o = first_id ∙ ap first st.holds.queued in
    let value : x ≡ (last_put f o c).word =
    word ∙ (ap (λ (y : Features). published_word y.indirect e.next.wrap id c) st.made.featured
    ∙ (published_at e.next f q id c fits.2 st.counts.next_at ∙ ap (λ (i : ℕ). (publishing f.size q (descriptors f i c)).word) is_id)) in
    subst (λ i. Goes e (record e {
      offered = e.offered + 1;
      next = e.at;
      next_position = e.next_position + k;
      space = e.space - k;
      free = e'.free;
      slots = with_item e.slots i s;
      doing = step.Check k;
    }) v op.Offer (Store (2 * e.next.place + 1) x) r
    (act.Offered e.offered)) (sym first_id)
    (publish_at e v r (2 * e.next.place + 1) x k e' s is st (second_at e.next f.size q st.counts.next_at) value
    (many ∙ needed_is e v c st) left capacity number count)
