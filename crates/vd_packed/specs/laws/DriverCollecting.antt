-- The step of a collect: it is next in a view that the end stands for, and the end stands for the view after it.
use Rattle.std.proofs.Common.{◌≡◌, ℕ, ◌+◌, ◌*◌, ◌<◌, ◌≤◌, Bool, true, false, List, [], ◌∷◌, ◌++◌, length, Some, None, if◌then◌else◌, slice_index, slice_index_or, refl, sym, ap, ◌∙◌, subst, arith}
use Rattle.std.proofs.lemmas.List.{length_push, append-nil}
use Rattle.vd_model.specs.Chains.{needs}
use Rattle.vd_words.specs.declared.access.Access.TheVariants.{Load}
use Rattle.vd_words.specs.declared.access.Op.TheVariants as op
use Rattle.vd_ring.specs.declared.act.DriverAct.TheVariants as act
use Rattle.vd_ring.specs.declared.frame.Frame.{Frame}
use Rattle.vd_ring.specs.declared.frame.Used.{Used}
use Rattle.vd_ring.specs.declared.driver.DriverDone.{DriverDone}
use Rattle.vd_ring.specs.declared.driver.DriverDone.TheVariants.{Collect}
use Rattle.vd_ring.specs.declared.driver.DriverNow.TheVariants as now
use Rattle.vd_ring.specs.declared.driver.DriverView.{DriverView}
use Rattle.vd_ring.specs.Frames.{borrowed}
use Rattle.vd_ring.specs.History.{collects, open_at, open_size, free, places, head, chain, occurs, with_head, collected, entry, last_used, batch}
use Rattle.vd_ring.specs.Places.{Places}
use Rattle.vd_ring.proofs.Counts.{occurs_from, Contains_from, occurs_without, with_head_is, sum_one, sum_without}
use Rattle.vd_ring.proofs.HeldPlaces.{open_below, same_head, collect_places, head_inside}
use Rattle.vd_ring.proofs.ListSteps.{batch_one, returns_next}
use Rattle.vd_packed_ring.specs.PackedWords.{IsLawful, id_of, len_of, is_used}
use Rattle.vd_packed_ring.specs.PackedPositions.{collect_position, later}
use Rattle.vd_packed_ring.specs.PackedDriver.{NamesOpen, DriverNextAt, DriverNext, DriverTells, DriverTellsAt, driver_after, driver_after_at, driver_act_at, driver_collects, collect_act}
use Rattle.vd_packed_ring.proofs.Positions.{collect_position_collected, driver_span}
use Rattle.vd_packed_ring.proofs.Spelled.{borrowed_one}
use Rattle.vd_layout.proofs.OnePair.{were_collected}
use Rattle.vd_layout.specs.Begun.{DriverOp, IsDriverOp}
use Rattle.vd_layout.specs.Driver.{DriverSays}
use Rattle.vd_packed.specs.declared.driver.PackedDriver.{PackedDriver}
use Rattle.vd_packed.specs.declared.driver.Slot.{Slot}
use Rattle.vd_packed.specs.declared.driver.DriverStep.TheVariants as step
use Rattle.vd_packed.specs.laws.Bounds.{limit_small, offer_position_few}
use Rattle.vd_packed.specs.DriverEnd.{HoldsIds, DriverStands, DriverStepStands, DriverStepArmed, driver_owes, driver_begun, driver_left}
use Rattle.vd_packed.specs.laws.DriverEnd.{not_armed}
use Rattle.vd_packed.specs.laws.DriverSteps.{Goes}
use Rattle.vd_packed.specs.laws.Places.{second_at, same_at, forward_at, shows_used_at}
use Rattle.vd_packed.specs.Seconds.{shows_used}
use Rattle.vd_packed.specs.RingPositions.{forward}

-- ---- the look

look_off : (e : PackedDriver) (v : DriverView) → e.doing ≡ step.Look → DriverStands e v → e.armed ≡ false
look_off e v is st = subst (λ t. DriverStepArmed t e.armed) is st.signals.awake

look_few : (e : PackedDriver) (v : DriverView) → e.doing ≡ step.Look → DriverStands e v → e.bells + 0 ≤ e.offered
look_few e v is st = subst (λ t. e.bells + driver_owes t ≤ e.offered) is st.signals.few

pub look_next : (e : PackedDriver) (v : DriverView) → e.doing ≡ step.Look → DriverStands e v
    → (v.doing ≡ now.Idle) × DriverNext v op.Collect (Load (2 * e.used.place + 1))
look_next e v is st =
    let n : DriverStepStands step.Look e.pieces.items e.at v.frame v.done v.doing =
    subst (λ t. DriverStepStands t e.pieces.items e.at v.frame v.done v.doing) is st.doing in (
      n,
      subst (λ t. DriverNextAt t v op.Collect (Load (2 * e.used.place + 1))) (sym n) (
        not_armed e v st (look_off e v is st),
        second_at e.used v.frame.size (collect_position v.frame v.done) st.counts.used_at,
      ),
    )

-- where it shows none
pub nothing_goes : (e : PackedDriver) (v : DriverView) (w : ℕ) → e.doing ≡ step.Look → DriverStands e v
    → shows_used e.used.wrap w ≡ false → Goes e (record e { doing = step.Idle }) v op.Collect (Load (2 * e.used.place + 1)) w act.Nothing
nothing_goes e v w is st off =
    let f : Frame = v.frame in let o : List DriverDone = v.done in
    let p : ℕ = 2 * e.used.place + 1 in
    let n = look_next e v is st in
    let none : is_used f.size (collect_position f o) w ≡ false =
    sym (shows_used_at e.used f.size (collect_position f o) w st.counts.used_at) ∙ off in
    let e' : PackedDriver = record e { doing = step.Idle } in
    let w' : DriverView = record v { seen = later v.seen (collect_position f o); shown = false } in
    let is_after : driver_after v op.Collect (Load p) w ≡ w' = ap (λ t. driver_after_at t v op.Collect (Load p) w) n.0
    ∙ ap (λ (b : Bool). if b then driver_collects v w else w') none in
    record {
      of_it = subst (λ t. IsDriverOp (driver_begun t e.pieces.items) op.Collect) (sym is) refl;
      next = n.1;
      stands = subst (λ t. DriverStands e' t) (sym is_after) record {
        made = st.made;
        counts = st.counts;
        holds = st.holds;
        kick = st.kick;
        signals = record {
          is_armed = st.signals.is_armed;
          hears = st.signals.hears;
          rings = st.signals.rings;
          few = look_few e v is st;
          awake = tt;
        };
        doing = n.0;
      };
      is = sym (ap (λ t. driver_act_at t v op.Collect (Load p) w) n.0 ∙ ap (λ (b : Bool). if b then collect_act v w else act.Nothing) none);
      left = subst (λ t. 0 < driver_left t e.pieces.items) (sym is) (let z : 0 < 1 = omega arith in z);
      says = subst (λ t. DriverSays act.Nothing (driver_begun t e.pieces.items) DriverOp.idle f o
          (driver_after v op.Collect (Load p) w).done) (sym is) (refl, refl, ap (λ (y : DriverView). y.done) is_after);
    }

-- ---- the chain that a used descriptor names

-- the open chain with that id, in its slot
pub record Found (queue : List ℕ) (capacity : ℕ) (slots : List Slot) (space : ℕ) (f : Frame) (o : List DriverDone) (id : ℕ) : Type 0 where
  pub number : ℕ
  pub is_open : 1 ≤ occurs number (open_at o)
  pub is_head : head f o number ≡ id
  pub in_order : f.features.in_order ≡ true → number ≡ length (collects o)
  pub inside : id < length slots
  pub kept : (d : Slot) → ((slice_index_or slots id d).number ≡ number)
      × ((slice_index_or slots id d).count ≡ needs f.features (chain o number))
  pub room : length queue < capacity
  pub few : space + needs f.features (chain o number) ≤ f.size

pub found : (e : PackedDriver) (v : DriverView) (id : ℕ) → DriverStands e v → NamesOpen v.frame v.done id
    → Found e.free.items e.free.capacity e.slots.items e.space v.frame v.done id
found e v id st n =
    let f : Frame = v.frame in let o : List DriverDone = v.done in let k : ℕ = n.number in let h = st.holds in
    let here : 1 ≤ occurs k (open_at o) = occurs_from k (open_at o) n.is_open in record {
      number = k;
      is_open = here;
      is_head = n.is_head;
      in_order = returns_next f (chain o) (length (collects o)) k n.next;
      inside = omega (arith, head_inside f o k h.held here, n.is_head, h.as_many);
      kept = λ d. subst (λ i. ((slice_index_or e.slots.items i d).number ≡ k)
          × ((slice_index_or e.slots.items i d).count ≡ needs f.features (chain o k))) n.is_head (h.open_chains k d here);
      room = omega (
        arith,
        h.held.sizes,
        sum_one (λ j. borrowed f (chain o j)) k (open_at o) here,
        borrowed_one f (chain o k) st.made.lawful,
        h.room,
        ap (λ (l : List ℕ). length l) h.queued,
      );
      few = omega (arith, st.counts.left, sum_one (λ j. needs f.features (chain o j)) k (open_at o) here);
    }

-- its position stays small
pub used_small : (e : PackedDriver) (v : DriverView) (k : ℕ) → DriverStands e v → 1 ≤ occurs k (open_at v.done)
    → e.used_position + needs v.frame.features (chain v.done k) < 1000000000000
used_small e v k st here =
    let f : Frame = v.frame in let o : List DriverDone = v.done in
    omega (
      arith,
      st.counts.used_is,
      sum_one (λ j. needs f.features (chain o j)) k (open_at o) here,
      driver_span f o st.holds.held.is_open,
      offer_position_few f o st.holds.held,
      st.holds.held.limited,
      limit_small f,
    )

-- what the loaded word collects
pub collects_one : (f : Frame) (o : List DriverDone) (id len k : ℕ) → Places f o → 1 ≤ occurs k (open_at o) → head f o k ≡ id
    → (f.features.in_order ≡ true → k ≡ length (collects o)) → collected f o id len ≡ entry k len ∷ []
collects_one f o id len k p here is ordered =
    let number : with_head (head f o) (open_at o) id ≡ k =
    with_head_is (head f o) (open_at o) id k is here (λ j a e. same_head f o j k p a here (e ∙ sym is)) in
    ap (λ j. batch f (chain o) (length (collects o)) j len) number ∙ batch_one f (chain o) (length (collects o)) k len ordered

-- a chain borrowed its id alone
single : (xs : List ℕ) (id : ℕ) → length xs ≡ 1 → slice_index xs 0 ≡ id → xs ≡ id ∷ []
single [] id e h = absurd (omega arith)
single (x ∷ []) id e h = ap (λ (k : ℕ). k ∷ []) h
single (x ∷ y ∷ xs) id e h = absurd (omega arith)

-- the id of a chain that is collected is free again
pub holds_fewer : (queue : List ℕ) (capacity : ℕ) (slots : List Slot) (f : Frame) (o : List DriverDone) (k id len : ℕ) → IsLawful f
    → HoldsIds queue capacity slots f o → 1 ≤ occurs k (open_at o) → head f o k ≡ id
    → HoldsIds (queue ++ id ∷ []) capacity slots f (Collect (entry k len ∷ []) ∷ o)
holds_fewer queue capacity slots f o k id len l h here is =
    let borrowed : places f o k ≡ id ∷ [] =
    single (places f o k) id (h.held.as_many k (open_below f o k h.held here) ∙ borrowed_one f (chain o k) l) is in record {
      held = collect_places f o (entry k len) h.held here;
      queued = ap (λ (q : List ℕ). q ++ id ∷ []) h.queued
          ∙ (ap (λ (q : List ℕ). free f o ++ q) (sym borrowed) ∙ ap (λ (q : List ℕ). free f o ++ q) (sym (append-nil (places f o k))));
      room = h.room;
      as_many = h.as_many;
      open_chains = λ j d a. h.open_chains j d (omega (arith, a, occurs_without j k (open_at o) here));
    }

-- the open chains have as many descriptors fewer
open_collected : (f : Frame) (o : List DriverDone) (k len : ℕ) → 1 ≤ occurs k (open_at o) → open_size f (Collect (entry k len ∷ []) ∷ o)
    + needs f.features (chain o k) ≡ open_size f o
open_collected f o k len here = sum_without (λ j. needs f.features (chain o j)) k (open_at o) here

-- what a look that shows one tells
pub look_names : (e : PackedDriver) (v : DriverView) (w : ℕ) → e.doing ≡ step.Look → DriverStands e v → shows_used e.used.wrap w ≡ true
    → DriverTells v op.Collect (Load (2 * e.used.place + 1)) w → NamesOpen v.frame v.done (id_of w)
look_names e v w is st on told =
    let n = look_next e v is st in
    let t : DriverTellsAt now.Idle v op.Collect (Load (2 * e.used.place + 1)) w =
    subst (λ d. DriverTellsAt d v op.Collect (Load (2 * e.used.place + 1)) w) n.0 told.1 in
    t.0 (sym (shows_used_at e.used v.frame.size (collect_position v.frame v.done) w st.counts.used_at) ∙ on)

pub collect_goes : (e : PackedDriver) (v : DriverView) (w number count : ℕ) (e' : PackedDriver) → e.doing ≡ step.Look → DriverStands e v
    → shows_used e.used.wrap w ≡ true
    → (hit : Found e.free.items e.free.capacity e.slots.items e.space v.frame v.done (id_of w)) → number ≡ hit.number
    → count ≡ needs v.frame.features (chain v.done hit.number)
    → e'.free.items ≡ e.free.items ++ id_of w ∷ [] → e'.free.capacity ≡ e.free.capacity
    → Goes e (record e {
      collected = e.collected + 1;
      used = forward e.used count e.size;
      used_position = e.used_position + count;
      space = e.space + count;
      free = e'.free;
      doing = step.Idle;
    }) v op.Collect (Load (2 * e.used.place + 1)) w
    (act.Collected number (len_of w) (id_of w))
collect_goes e v w number count e' is st on hit same sized items capacity =
    let f : Frame = v.frame in let o : List DriverDone = v.done in let k : ℕ = hit.number in
    let p : ℕ = 2 * e.used.place + 1 in
    let n = look_next e v is st in
    let shows : is_used f.size (collect_position f o) w ≡ true =
    sym (shows_used_at e.used f.size (collect_position f o) w st.counts.used_at) ∙ on in
    let us : List Used = collected f o (id_of w) (len_of w) in
    let off : e.armed ≡ false = look_off e v is st in
    let one : us ≡ entry k (len_of w) ∷ [] = collects_one f o (id_of w) (len_of w) k st.holds.held hit.is_open hit.is_head hit.in_order in
    let longer = length_push (collects o) (entry k (len_of w)) in
    let o2 : List DriverDone = Collect (entry k (len_of w) ∷ []) ∷ o in
    let past : collect_position f o2 ≡ collect_position f o + needs f.features (chain o k) =
    collect_position_collected f o (entry k (len_of w)) in
    let e2 : PackedDriver = record e {
      collected = e.collected + 1;
      used = forward e.used count e.size;
      used_position =
          e.used_position + count;
      space = e.space + count;
      free = e'.free;
      doing = step.Idle;
    } in
    let w2 : DriverView = record v { done = o2; seen = later v.seen (collect_position f o2); shown = false } in
    let is_after : driver_after v op.Collect (Load p) w ≡ w2 = ap (λ t. driver_after_at t v op.Collect (Load p) w) n.0
    ∙ (ap (λ (b : Bool). if b then driver_collects v w else record v { seen = later v.seen (collect_position f o); shown = false })
    shows
    ∙ ap (λ (ys : List Used). record v {
      done = Collect ys ∷ o;
      seen = later v.seen (collect_position f (Collect ys ∷ o));
      shown =
          false;
    }) one) in
    record {
      of_it = subst (λ t. IsDriverOp (driver_begun t e.pieces.items) op.Collect) (sym is) refl;
      next = n.1;
      stands = subst (λ t. DriverStands e2 t) (sym is_after) record {
        made = st.made;
        counts = record {
          offers = st.counts.offers;
          collects = omega (arith, st.counts.collects, longer);
          next_at = st.counts.next_at;
          used_at = same_at (forward e.used count e.size) f.size (collect_position f o + count) (collect_position f o2)
              (omega (arith, past))
              (subst (λ (m : ℕ). Rattle.vd_packed.specs.RingPositions.IsAt (forward e.used count m) f.size
              (collect_position f o + count)) (sym st.made.sized)
              (forward_at e.used f.size (collect_position f o) count (omega (arith, st.made.lawful.least))
              (omega (arith, hit.few)) st.counts.used_at));
          next_is = st.counts.next_is;
          used_is = omega (arith, st.counts.used_is, past, sized);
          left = omega (arith, st.counts.left, open_collected f o k (len_of w) hit.is_open);
        };
        holds = subst (λ q. HoldsIds q e'.free.capacity e.slots.items f o2) (sym items)
            (subst (λ j. HoldsIds (e.free.items ++ id_of w ∷ []) j e.slots.items f o2) (sym capacity)
            (holds_fewer e.free.items e.free.capacity e.slots.items f o k (id_of w) (len_of w) st.made.lawful st.holds hit.is_open
            hit.is_head));
        kick = st.kick;
        signals = record {
          is_armed = not_armed e v st off
              ∙ sym (ap (λ (y : Bool). if y then Some (collect_position f o2) else None) off);
          hears = st.signals.hears;
          rings =
              st.signals.rings;
          few = look_few e v is st;
          awake = tt;
        };
        doing = n.0;
      };
      is = ap (λ j. act.Collected j (len_of w) (id_of w)) same
          ∙ sym (ap (λ t. driver_act_at t v op.Collect (Load p) w) n.0
          ∙ (ap (λ (b : Bool). if b then collect_act v w else act.Nothing) shows
          ∙ ap (λ (ys : List Used). act.Collected (last_used ys).number (last_used ys).len (id_of w)) one));
      left = subst (λ t. 0 < driver_left t e.pieces.items) (sym is) (let z : 0 < 1 = omega arith in z);
      says = subst (λ t. DriverSays (act.Collected number (len_of w) (id_of w)) (driver_begun t e.pieces.items) DriverOp.idle f o
          (driver_after v op.Collect (Load p) w).done) (sym is)
          (subst (λ j. DriverSays (act.Collected j (len_of w) (id_of w)) DriverOp.collect DriverOp.idle f o
          (driver_after v op.Collect (Load p) w).done) (sym same) (
            entry k (len_of w) ∷ [],
            refl,
            refl,
            ap (λ (y : DriverView). y.done) is_after,
            were_collected f o k (len_of w) (Contains_from k (open_at o) hit.is_open) hit.in_order,
            sym hit.is_head,
          ));
    }
