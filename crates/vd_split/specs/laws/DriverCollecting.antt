-- The last step of a collect: it is next in a view that the end stands for, and the end stands for the view after it.
use Rattle.std.proofs.Common.{◌≡◌, ℕ, ◌+◌, ◌%◌, ◌<◌, ◌≤◌, Bool, true, false, Some, None, if◌then◌else◌, not, List, [], ◌∷◌, ◌++◌, length, slice_index_or, refl, sym, ap, ◌∙◌, subst, arith}
use Rattle.std.proofs.lemmas.List.{length_push, append-nil}
use Rattle.std.proofs.lemmas.Nat.{mod_below}
use Rattle.vd_bits.specs.Lanes.{lane32}
use Rattle.vd_words.specs.declared.access.Access.TheVariants.{Load}
use Rattle.vd_words.specs.declared.access.Op.TheVariants as op
use Rattle.vd_ring.specs.declared.act.DriverAct.TheVariants as act
use Rattle.vd_ring.specs.declared.frame.Frame.{Frame}
use Rattle.vd_ring.specs.declared.frame.Used.{Used}
use Rattle.vd_ring.specs.declared.driver.DriverDone.{DriverDone}
use Rattle.vd_ring.specs.declared.driver.DriverDone.TheVariants.{Collect}
use Rattle.vd_ring.specs.declared.driver.DriverNow.TheVariants as now
use Rattle.vd_ring.specs.declared.driver.DriverView.{DriverView}
use Rattle.vd_ring.specs.Frames.{borrowed}
use Rattle.vd_ring.specs.History.{collects, open_at, free, places, head, chain, occurs, with_head, collected, entry, last_used, batch}
use Rattle.vd_ring.specs.Places.{Places}
use Rattle.vd_ring.proofs.Counts.{occurs_from, Contains_from, occurs_without, with_head_is, sum_one}
use Rattle.vd_ring.proofs.HeldPlaces.{open_below, same_head, collect_places, head_inside}
use Rattle.vd_ring.proofs.ListSteps.{batch_one, returns_next}
use Rattle.vd_split_ring.specs.SplitWords.{used_from, len_word, shows}
use Rattle.vd_split_ring.specs.SplitDriver.{NamesOpen, DriverNextAt, DriverNext, driver_after, driver_after_at, driver_act_at}
use Rattle.vd_layout.proofs.OnePair.{were_collected}
use Rattle.vd_layout.specs.Begun.{IsDriverOp, DriverOp}
use Rattle.vd_layout.specs.Driver.{DriverSays}
use Rattle.vd_split.specs.declared.driver.SplitDriver.{SplitDriver}
use Rattle.vd_split.specs.declared.driver.Slot.{Slot}
use Rattle.vd_split.specs.declared.driver.DriverStep.TheVariants as step
use Rattle.vd_split.specs.DriverEnd.{HoldsPlaces, DriverStands, DriverStepStands, DriverStepArmed, driver_begun, driver_left}
use Rattle.vd_split.specs.laws.DriverEnd.{not_armed}
use Rattle.vd_split.specs.laws.DriverSteps.{Goes}
use Rattle.vd_split.specs.Parts.{next_place, used_area}
use Rattle.vd_split.specs.laws.Plans.{next_mod}

-- the open chain that the id names, in its slot
pub record Found (queue : List ℕ) (capacity : ℕ) (slots : List Slot) (f : Frame) (o : List DriverDone) (id : ℕ) : Type 0 where
  pub number : ℕ
  pub is_open : 1 ≤ occurs number (open_at o)
  pub is_head : head f o number ≡ id
  pub in_order : f.features.in_order ≡ true → number ≡ length (collects o)
  pub inside : id < length slots
  pub kept : (d : Slot) → ((slice_index_or slots id d).number ≡ number) × ((slice_index_or slots id d).places.items ≡ places f o number)
  pub room : length queue + length (places f o number) ≤ capacity

pub found : (queue : List ℕ) (capacity : ℕ) (slots : List Slot) (f : Frame) (o : List DriverDone) (id : ℕ)
    → HoldsPlaces queue capacity slots f o → NamesOpen f o id → Found queue capacity slots f o id
found queue capacity slots f o id h n =
    let k : ℕ = n.number in
    let here : 1 ≤ occurs k (open_at o) = occurs_from k (open_at o) n.is_open in
    let many = h.held.as_many k (open_below f o k h.held here) in record {
      number = k;
      is_open = here;
      is_head = n.is_head;
      in_order = returns_next f (chain o) (length (collects o)) k n.next;
      inside = omega (arith, head_inside f o k h.held here, n.is_head, h.as_many);
      kept = λ d. subst (λ i. ((slice_index_or slots i d).number ≡ k) × ((slice_index_or slots i d).places.items ≡ places f o k))
          n.is_head (h.open_chains k d here);
      room = omega (
        arith,
        h.held.sizes,
        sum_one (λ j. borrowed f (chain o j)) k (open_at o) here,
        many,
        h.room,
        ap (λ (l : List ℕ). length l) h.queued,
      );
    }

-- what the loaded words collect
pub collects_one : (f : Frame) (o : List DriverDone) (id len k : ℕ) → Places f o → 1 ≤ occurs k (open_at o) → head f o k ≡ id
    → (f.features.in_order ≡ true → k ≡ length (collects o)) → collected f o id len ≡ entry k len ∷ []
collects_one f o id len k p here is ordered =
    let number : with_head (head f o) (open_at o) id ≡ k =
    with_head_is (head f o) (open_at o) id k is here (λ j a e. same_head f o j k p a here (e ∙ sym is)) in
    ap (λ j. batch f (chain o) (length (collects o)) j len) number ∙ batch_one f (chain o) (length (collects o)) k len ordered

-- the places of a chain that is collected are free again
pub holds_fewer : (queue : List ℕ) (capacity : ℕ) (slots : List Slot) (f : Frame) (o : List DriverDone) (k len : ℕ)
    → HoldsPlaces queue capacity slots f o → 1 ≤ occurs k (open_at o)
    → HoldsPlaces (queue ++ places f o k) capacity slots f (Collect (entry k len ∷ []) ∷ o)
holds_fewer queue capacity slots f o k len h here = record {
  held = collect_places f o (entry k len) h.held here;
  queued = ap (λ (q : List ℕ). q ++ places f o k) h.queued ∙ ap (λ (q : List ℕ). free f o ++ q) (sym (append-nil (places f o k)));
  room = h.room;
  as_many = h.as_many;
  open_chains = λ j d a. h.open_chains j d (omega (arith, a, occurs_without j k (open_at o) here));
}

pub used_below : (e : SplitDriver) (v : DriverView) → DriverStands e v → (e.used < e.size) × (e.size ≤ 32768)
used_below e v st = (
  omega (
    arith,
    st.counts.used_at,
    st.made.sized,
    mod_below (length (collects v.done)) v.frame.size st.made.lawful.some_place,
  ),
  omega (arith, st.made.sized, st.made.lawful.small),
)

pub finish_next : (e : SplitDriver) (v : DriverView) (r w : ℕ) → e.doing ≡ step.Finish r w → DriverStands e v
    → DriverNext v op.Collect (Load (used_area e.size + e.used + 1)) × NamesOpen v.frame v.done (lane32 w 1)
finish_next e v r w is st =
    let n : DriverStepStands (step.Finish r w) e.pieces.items v.frame v.done v.doing =
    subst (λ t. DriverStepStands t e.pieces.items v.frame v.done v.doing) is st.doing in
    let p : ℕ = used_area e.size + e.used + 1 in
    let at : p ≡ len_word v.frame (length (collects v.done)) = ap (λ k. used_area k + e.used + 1) st.made.sized
    ∙ ap (λ k. used_from v.frame + k + 1) st.counts.used_at in
    (subst (λ t. DriverNextAt t v op.Collect (Load p)) (sym n.0) at, n.1)

pub finish_goes : (e : SplitDriver) (v : DriverView) (r w x : ℕ) (e' : SplitDriver) (number : ℕ) → e.doing ≡ step.Finish r w
    → DriverStands e v → (hit : Found e.free.items e.free.capacity e.slots.items v.frame v.done (lane32 w 1)) → number ≡ hit.number
    → e'.free.items ≡ e.free.items ++ places v.frame v.done hit.number → e'.free.capacity ≡ e.free.capacity
    → Goes e (record e {
      collected = e.collected + 1;
      used = next_place e.used e.size;
      free = e'.free;
      shown =
          not (shows r (e.collected + 1));
      got = e'.got;
      doing = step.Idle;
    }) v op.Collect (Load (used_area e.size + e.used + 1)) x
    (act.Collected number (lane32 x 0) (lane32 w 1))
finish_goes e v r w x e' number is st hit same items capacity =
    let f : Frame = v.frame in let o : List DriverDone = v.done in let k : ℕ = hit.number in
    let n : DriverStepStands (step.Finish r w) e.pieces.items f o v.doing =
    subst (λ t. DriverStepStands t e.pieces.items f o v.doing) is st.doing in
    let p : ℕ = used_area e.size + e.used + 1 in
    let us : List Used = collected f o (lane32 w 1) (lane32 x 0) in
    let one : us ≡ entry k (lane32 x 0) ∷ [] =
    collects_one f o (lane32 w 1) (lane32 x 0) k st.holds.held hit.is_open hit.is_head hit.in_order in
    let longer = length_push (collects o) (entry k (lane32 x 0)) in
    let off : e.armed ≡ false = subst (λ t. DriverStepArmed t e.armed) is st.signals.awake in
    let e2 : SplitDriver = record e {
      collected = e.collected + 1;
      used = next_place e.used e.size;
      free = e'.free;
      shown =
          not (shows r (e.collected + 1));
      got = e'.got;
      doing = step.Idle;
    } in
    let w2 : DriverView = record v {
      done = Collect (entry k (lane32 x 0) ∷ []) ∷ o;
      shown =
          not (shows r (length (collects o ++ entry k (lane32 x 0) ∷ [])));
      doing = now.Idle;
    } in
    let is_after : driver_after v op.Collect (Load p) x ≡ w2 = ap (λ t. driver_after_at t v op.Collect (Load p) x) n.0
    ∙ ap (λ (ys : List Used). record v {
      done = Collect ys ∷ o;
      shown = not (shows r (length (collects o ++ ys)));
      doing =
          now.Idle;
    }) one in
    record {
      next = (finish_next e v r w is st).0;
      stands = subst (λ t. DriverStands e2 t) (sym is_after) record {
        made = st.made;
        counts = record {
          offers = st.counts.offers;
          collects = omega (arith, st.counts.collects, longer);
          entry_at = st.counts.entry_at;
          used_at = ap (λ j. next_place j e.size) st.counts.used_at
              ∙ ap (λ j. next_place (length (collects o) % f.size) j) st.made.sized
              ∙ next_mod (length (collects o)) f.size st.made.lawful.some_place ∙ ap (λ j. j % f.size) (sym longer);
        };
        holds = subst (λ q. HoldsPlaces q e'.free.capacity e.slots.items f (Collect (entry k (lane32 x 0) ∷ []) ∷ o)) (sym items)
            (subst (λ j. HoldsPlaces (e.free.items ++ places f o k) j e.slots.items f (Collect (entry k (lane32 x 0) ∷ []) ∷ o))
            (sym capacity)
            (holds_fewer e.free.items e.free.capacity e.slots.items f o k (lane32 x 0) st.holds hit.is_open));
        area = st.area;
        wide = st.wide;
        shown = ap (λ j. not (shows r j)) (let z : e.collected + 1 ≡ length (collects o ++ entry k (lane32 x 0) ∷ []) =
            omega (arith, st.counts.collects, longer) in z);
        kick = st.kick;
        signals = record {
          is_armed = not_armed e v st off
              ∙ sym (ap (λ (b : Bool). if b then Some (length (collects (Collect (entry k (lane32 x 0) ∷ []) ∷ o))) else None) off);
          hears = st.signals.hears;
          rings = st.signals.rings;
          few = omega (arith, st.signals.few);
          awake = tt;
        };
        doing = refl;
      };
      is = ap (λ j. act.Collected j (lane32 x 0) (lane32 w 1)) same
          ∙ sym (ap (λ t. driver_act_at t v op.Collect (Load p) x) n.0
          ∙ ap (λ (ys : List Used). act.Collected (last_used ys).number (last_used ys).len (lane32 w 1)) one);
      of_it = subst (λ t. IsDriverOp (driver_begun t e.pieces.items) op.Collect) (sym is) refl;
      left = subst (λ t. 0 < driver_left t e.pieces.items) (sym is) (let z : 0 < 1 = omega arith in z);
      says = subst (λ t. DriverSays (act.Collected number (lane32 x 0) (lane32 w 1)) (driver_begun t e.pieces.items) DriverOp.idle f o
          (driver_after v op.Collect (Load p) x).done) (sym is)
          (subst (λ j. DriverSays (act.Collected j (lane32 x 0) (lane32 w 1)) DriverOp.collect DriverOp.idle f o
          (driver_after v op.Collect (Load p) x).done) (sym same) (
            entry k (lane32 x 0) ∷ [],
            refl,
            refl,
            ap (λ (y : DriverView). y.done) is_after,
            were_collected f o k (lane32 x 0) (Contains_from k (open_at o) hit.is_open) hit.in_order,
            sym hit.is_head,
          ));
    }
