-- The load by which a whole chain is taken: the end stands for the view after it.
use Rattle.std.proofs.Common.{◌≡◌, ◌≢◌, ℕ, ◌+◌, ◌*◌, ◌<◌, ◌≤◌, Bool, true, false, not, List, [], ◌∷◌, ◌++◌, length, Option, Some, None, if◌then◌else◌, nat_lt, slice_index, slice_index_or, slice_set, refl, sym, ap, ◌∙◌, subst, arith, inl, inr}
use Rattle.std.specs.Vec.{with_item}
use Rattle.std.proofs.lemmas.Bool.{cases_lt, cases_eq}
use Rattle.std.proofs.lemmas.List.{length_push, length-append, length-set, get_or_append_left, get_or_push, get_or_past, get_or-set_same, get_or-set_other, append-nil, append_assoc}
use Rattle.vd_model.specs.declared.chain.Piece.{Piece}
use Rattle.vd_model.specs.Chains.{IsChain, needs}
use Rattle.vd_words.specs.declared.access.Access.TheVariants.{Load}
use Rattle.vd_words.specs.declared.access.Op.TheVariants as op
use Rattle.vd_ring.specs.declared.act.DeviceAct.TheVariants as act
use Rattle.vd_ring.specs.declared.frame.Frame.{Frame}
use Rattle.vd_ring.specs.declared.device.DeviceDone.{DeviceDone}
use Rattle.vd_ring.specs.declared.device.DeviceDone.TheVariants.{Take}
use Rattle.vd_ring.specs.declared.device.DeviceNow.TheVariants as now
use Rattle.vd_ring.specs.declared.device.DeviceView.{DeviceView}
use Rattle.vd_ring.specs.Frames.{limit}
use Rattle.vd_ring.specs.History.{takes, gives, heads, running, taken_head, chain_at, used_at, occurs}
use Rattle.vd_ring.proofs.Counts.{one, one_same, one_other, one_more, one_above, occurs_push, Contains_from}
use Rattle.vd_ring.proofs.ListSteps.{number_in}
use Rattle.vd_packed_ring.specs.PackedWords.{id_of, goes_on}
use Rattle.vd_packed_ring.specs.PackedChains.{piece_of, last_id, is_tabled, loaded_head, is_whole, chain_of}
use Rattle.vd_packed_ring.specs.PackedPositions.{take_position, give_position}
use Rattle.vd_packed_ring.specs.PackedDevice.{IsNewHead, BeginsChain, DeviceNext, device_after, device_after_at, device_takes, device_act_at}
use Rattle.vd_packed_ring.proofs.Positions.{needs_some, sum_entries}
use Rattle.vd_layout.specs.Begun.{DeviceOp, IsDeviceOp}
use Rattle.vd_layout.specs.Device.{DeviceSays, IsTaken}
use Rattle.vd_packed.specs.declared.device.PackedDevice.{PackedDevice}
use Rattle.vd_packed.specs.declared.device.DeviceStep.TheVariants as step
use Rattle.vd_layout.specs.declared.device.Told.{Told}
use Rattle.vd_packed.specs.declared.ring_position.RingPosition.{RingPosition}
use Rattle.vd_layout.specs.declared.device.Told.TheVariants as told
use Rattle.vd_layout.specs.Telling.{act_of}
use Rattle.vd_packed.specs.DriverEnd.{packed_words}
use Rattle.vd_packed.specs.DeviceEnd.{TakesOnce, HoldsRunning, number_at, DeviceStands, device_begun, device_left}
use Rattle.vd_packed.specs.laws.DeviceEnd.{not_armed}
use Rattle.vd_packed.specs.laws.DeviceGiving.{Goes, at_step}
use Rattle.vd_packed.specs.laws.Places.{same_at}
use Rattle.vd_packed.specs.RingPositions.{IsAt, forward}
use Rattle.vd_packed.specs.laws.DeviceTaking.{Loaded, head_direct, address_next, is_direct, is_ended, ring_position_more, more_goes, whole_chain}
use Rattle.vd_packed.specs.laws.Bounds.{few_each, limit_small, needs_few}
use Rattle.vd_packed.specs.Loaded.{HasMore, HasTaken, MayTake}
use Rattle.vd_packed.specs.laws.Loads.{id_last}
use Rattle.vd_packed.specs.laws.Tabling.{direct_needs}

-- it leaves the position of what was given
take_give_position : (f : Frame) (s : List DeviceDone) (c : List Piece) (h : ℕ) → TakesOnce s
    → give_position f (Take c h ∷ s) ≡ give_position f s
take_give_position f s c h once = sum_entries (λ u. needs f.features (chain_at (takes (Take c h ∷ s)) u.number))
    (λ u. needs f.features (chain_at (takes s) u.number)) (gives s)
    (λ j a. ap (needs f.features) (get_or_append_left (takes s) (c ∷ []) [] (used_at (gives s) j).number (below j a)))
  where
    below : (j : ℕ) → j < length (gives s) → (used_at (gives s) j).number < length (takes s)
    below j a = elim (cases_lt (used_at (gives s) j).number (length (takes s))) [
      | inl b ↦ b
      | inr b ↦ absurd (omega (
        arith,
        once.each (used_at (gives s) j).number,
        number_in (gives s) j a,
        one_above (used_at (gives s) j).number (length (takes s)) b,
      ))
    ]

-- it runs at its head
pub holds_more : (table : List (Option ℕ)) (counts : List ℕ) (guesses guesses' h n : ℕ) (f : Frame) (s : List DeviceDone)
    (c : List Piece) → HoldsRunning table counts guesses f s → IsNewHead f s h → 0 < guesses' → n ≡ needs f.features c
    → needs f.features c ≤ f.size → 0 < needs f.features c
    → HoldsRunning (slice_set table h (Some (length (takes s)))) (slice_set counts h n) guesses' f (Take c h ∷ s)
holds_more table counts guesses guesses' h n f s c held new guess sized few some = record {
  once = record {
    each = λ k. omega (arith, held.once.each k, occurs_push k (running s) t, one_more k t, ap (λ m. one (nat_lt k m)) longer);
    count = omega (arith, held.once.count, longer, length_push (running s) t);
    as_many = omega (arith, length_push (heads s) h, longer, held.once.as_many);
  };
  places = length-set table h (Some t) ∙ held.places;
  as_many = length-set counts h n ∙ held.as_many;
  guessed = guess;
  kept = λ k a. elim (cases_eq k t) [
    | inl e ↦ ap (number_at (slice_set table h (Some t))) (ap (slice_index (heads s ++ h ∷ [])) e ∙ new_head) ∙ here ∙ ap Some (sym e)
    | inr ne ↦ (
        let old = old_runs k ne a in
        ap (number_at (slice_set table h (Some t))) (old_head k (below k old)) ∙ get_or-set_other table h (taken_head s k) (Some t) None
        (new.apart k (Contains_from k (running s) old)) ∙ held.kept k old
        )
  ];
  named = λ i k there. elim (cases_eq i h) [
    | inl e ↦ (
        let is : t ≡ k = some_same t k (sym here ∙ ap (number_at (slice_set table h (Some t))) (sym e) ∙ there) in
        (omega (arith, occurs_push k (running s) t, one_same t k is), ap (slice_index (heads s ++ h ∷ [])) (sym is) ∙ new_head ∙ sym e)
        )
    | inr ne ↦ (
        let was = held.named i k (sym (get_or-set_other table h i (Some t) None ne) ∙ there) in
        (omega (arith, was.0, occurs_push k (running s) t), old_head k (below k was.0) ∙ was.1)
        )
  ];
  counted = λ k d a. elim (cases_eq k t) [
    | inl e ↦ (
        let head : slice_index (heads s ++ h ∷ []) k ≡ h = ap (slice_index (heads s ++ h ∷ [])) e ∙ new_head in
        let chain : chain_at (takes s ++ c ∷ []) k ≡ c = ap (chain_at (takes s ++ c ∷ [])) e ∙ get_or_push (takes s) c [] t refl in (
          ap (λ i. slice_index_or (slice_set counts h n) i d) head
              ∙ (get_or-set_same counts h n d (omega (arith, new.inside, held.as_many)) ∙ (sized ∙ ap (needs f.features) (sym chain))),
          subst (λ (x : List Piece). needs f.features x ≤ f.size) (sym chain) few,
          subst (λ (x : List Piece). 0 < needs f.features x) (sym chain) some,
        )
        )
    | inr ne ↦ (
        let old = old_runs k ne a in
        let chain : chain_at (takes s ++ c ∷ []) k ≡ chain_at (takes s) k = get_or_append_left (takes s) (c ∷ []) [] k (below k old) in
        let was = held.counted k d old in (
          ap (λ i. slice_index_or (slice_set counts h n) i d) (old_head k (below k old))
              ∙ (get_or-set_other counts h (taken_head s k) n d (new.apart k (Contains_from k (running s) old))
              ∙ (was.0 ∙ ap (needs f.features) (sym chain))),
          subst (λ (x : List Piece). needs f.features x ≤ f.size) (sym chain) was.1,
          subst (λ (x : List Piece). 0 < needs f.features x) (sym chain) was.2,
        )
        )
  ];
}
  where
    t : ℕ
    t = length (takes s)

    longer : length (takes s ++ c ∷ []) ≡ length (takes s) + 1
    longer = length_push (takes s) c

    some_same : (j k : ℕ) → Some j ≡ Some k → j ≡ k
    some_same j k e = cc

    here : number_at (slice_set table h (Some (length (takes s)))) h ≡ Some (length (takes s))
    here = get_or-set_same table h (Some (length (takes s))) None (omega (arith, new.inside, held.places))

    below : (k : ℕ) → 1 ≤ occurs k (running s) → k < length (takes s)
    below k a = elim (cases_lt k (length (takes s)))
        [ inl b ↦ b | inr b ↦ absurd (omega (arith, held.once.each k, one_above k (length (takes s)) b)) ]

    old_head : (k : ℕ) → k < length (takes s) → slice_index (heads s ++ h ∷ []) k ≡ taken_head s k
    old_head k a = get_or_append_left (heads s) (h ∷ []) 0 k (omega (arith, held.once.as_many))

    new_head : slice_index (heads s ++ h ∷ []) (length (takes s)) ≡ h
    new_head = get_or_push (heads s) h 0 (length (takes s)) held.once.as_many

    old_runs : (k : ℕ) → k ≢ length (takes s) → 1 ≤ occurs k (running s ++ length (takes s) ∷ []) → 1 ≤ occurs k (running s)
    old_runs k ne a = omega (arith, a, occurs_push k (running s) (length (takes s)), one_other (length (takes s)) k (λ e. ne (sym e)))

-- the chain's id is that of its last second word
told_head : (e : PackedDevice) (v : DeviceView) (x : ℕ) → (l : Loaded e v x) → DeviceStands e v → goes_on e.second ≡ false
    → l.told.head ≡ id_of e.second
told_head e v x l st off =
    let ws : List ℕ = l.had.word ∷ l.had.words ++ x ∷ [] in
    sym (l.told.complete (is_ended e v x st l ∙ ap not off)).2
    ∙ (head_direct v.frame ws l.direct ∙ (ap last_id l.words ∙ id_last l.had.whole e.second x (length e.pieces.items) l.had.even))

taken_few : (f : Frame) (s : List DeviceDone) (c : List Piece) (h : ℕ) → needs f.features c ≤ 16
    → ((k : ℕ) → needs f.features (chain_at (takes s) k) ≤ 16) → (k : ℕ) → needs f.features (chain_at (takes (Take c h ∷ s)) k) ≤ 16
taken_few f s c h short few k = elim (cases_lt k (length (takes s))) [
  | inl a ↦ subst (λ (x : List Piece). needs f.features x ≤ 16) (sym (get_or_append_left (takes s) (c ∷ []) [] k a)) (few k)
  | inr a ↦ elim (cases_eq k (length (takes s))) [
    | inl e ↦ subst (λ (x : List Piece). needs f.features x ≤ 16) (sym (get_or_push (takes s) c [] k (sym e))) short
    | inr ne ↦ subst (λ (x : List Piece). needs f.features x ≤ 16) (get_or_past (takes s) (length (takes s)) [] (omega arith)
        ∙ sym (get_or_past (takes s ++ c ∷ []) k [] (omega (arith, length_push (takes s) c)))) (few (length (takes s)))
  ]
]

-- the last load of a chain of n descriptors, which end at this ring_position
pub takes_last : (e e2 : PackedDevice) (v : DeviceView) (p h x n w : ℕ) (ws : List ℕ) (ring_position : RingPosition) (cs : List Piece)
    → DeviceStands e v → v.doing ≡ now.Taking (w ∷ ws) → DeviceNext v op.Take (Load p)
    → device_begun e.doing ≡ DeviceOp.take → (e.armed ≡ false) × (e.bells + 0 ≤ e.given)
    → 0 < device_left e.doing (length e.pieces.items) → (told : BeginsChain v.frame v.done (w ∷ ws ++ x ∷ []))
    → is_whole v.frame (w ∷ ws ++ x ∷ []) ≡ true
    → length (takes v.done) < limit v.frame → cs ≡ told.chain → told.head ≡ h → n ≡ needs v.frame.features cs
    → IsAt ring_position v.frame.size (take_position v.frame v.done + n) → 0 < length e2.guesses.items
    → Goes e (record e {
      taken = e.taken + 1;
      next = ring_position;
      next_position = e.next_position + n;
      running =
          with_item e.running h (Some e.taken);
      counts = with_item e.counts h n;
      guesses = e2.guesses;
      pieces = e2.pieces;
      at =
          ring_position;
      doing = step.Idle;
    }) v op.Take (Load p) x (act.Taken e.taken cs)
takes_last e e2 v p h x n w ws ring_position cs st had next begun u some told end limited is_told head count here guesses =
    let f : Frame = v.frame in let s : List DeviceDone = v.done in let t : ℕ = length (takes s) in
    let is_chain : chain_of f (w ∷ ws ++ x ∷ []) ≡ cs = (told.complete end).1 ∙ sym is_told in
    let new : IsNewHead f s h = subst (λ k. IsNewHead f s k) head told.is_new in
    let is_head : loaded_head f (w ∷ ws ++ x ∷ []) ≡ h = (told.complete end).2 ∙ head in
    let longer = length_push (takes s) cs in
    let few : needs f.features cs ≤ f.size = subst (λ (c : List Piece). needs f.features c ≤ f.size) (sym is_told) told.fits.size in
    let one : 1 ≤ needs f.features cs =
    subst (λ (c : List Piece). 1 ≤ needs f.features c) (sym is_told) (needs_some f told.chain told.fits) in
    let short : needs f.features cs ≤ 16 =
    subst (λ (c : List Piece). needs f.features c ≤ 16) (sym is_told) (needs_few f told.chain told.fits.chain) in
    let s2 : List DeviceDone = Take cs h ∷ s in
    let past : take_position f s2 ≡ take_position f s + needs f.features cs =
    Rattle.std.proofs.lemmas.List.Sums.sum_by_push (needs f.features) (takes s) cs in
    let v2 : DeviceView = record v { done = s2; shown = false; doing = now.Idle } in
    let is_after : device_after v op.Take (Load p) x ≡ v2 =
    ap (λ z. device_after_at z v op.Take (Load p) x) had
    ∙ (ap (λ b. if b then device_takes v (w ∷ ws ++ x ∷ []) else record v { doing = now.Taking (w ∷ ws ++ x ∷ []) }) end
    ∙ (ap (λ (c : List Piece). record v { done = Take c (loaded_head f (w ∷ ws ++ x ∷ [])) ∷ s; shown = false; doing = now.Idle })
    is_chain ∙ ap (λ k. record v { done = Take cs k ∷ s; shown = false; doing = now.Idle }) is_head)) in
    let e' : PackedDevice = record e {
      taken = e.taken + 1;
      next = ring_position;
      next_position = e.next_position + n;
      running =
          with_item e.running h (Some e.taken);
      counts = with_item e.counts h n;
      guesses = e2.guesses;
      pieces = e2.pieces;
      at =
          ring_position;
      doing = step.Idle;
    } in
    record {
      of_it = subst (λ o. IsDeviceOp o op.Take) (sym begun) refl;
      next = next;
      stands = subst (λ z. DeviceStands e' z) (sym is_after) record {
        made = st.made;
        counts = record {
          takes = omega (arith, st.counts.takes, longer);
          gives = st.counts.gives;
          next_at = same_at ring_position f.size (take_position f s + n) (take_position f s2) (omega (arith, past, count)) here;
          used_at = same_at e.used f.size (give_position f s) (give_position f s2) (sym (take_give_position f s cs h st.holds.once))
              st.counts.used_at;
          next_is = omega (arith, st.counts.next_is, past, count);
          used_is = st.counts.used_is ∙ sym (take_give_position f s cs h st.holds.once);
          few = taken_few f s cs h short st.counts.few;
        };
        holds = subst (λ k. HoldsRunning (slice_set e.running.items h (Some k)) (slice_set e.counts.items h n)
            (length e2.guesses.items) f s2) (sym st.counts.takes)
            (holds_more e.running.items e.counts.items (length e.guesses.items) (length e2.guesses.items) h n f s cs st.holds new
            guesses count few one);
        kick = st.kick;
        signals = record {
          is_armed = not_armed e v st u.0 ∙ sym (ap (λ (y : Bool). if y then Some (take_position f s2) else None) u.0);
          hears = st.signals.hears;
          rings = st.signals.rings;
          few = u.1;
          awake = tt;
        };
        doing = refl;
      };
      is = ap (λ k. act.Taken k cs) st.counts.takes
          ∙ (ap (act.Taken t) (sym is_chain)
          ∙ sym (ap (λ d. device_act_at d v op.Take (Load p) x) had
          ∙ ap (λ b. if b then act.Taken t (chain_of f (w ∷ ws ++ x ∷ [])) else act.Moved) end));
      left = some;
      says = subst (λ o. DeviceSays packed_words (act.Taken e.taken cs) o DeviceOp.idle f s (device_after v op.Take (Load p) x).done)
          (sym begun) (
            h,
            refl,
            refl,
            st.counts.takes,
            ap (λ (y : DeviceView). y.done) is_after,
            subst (λ (c : List Piece). IsTaken packed_words f s c h) (sym is_told) record {
              fits = told.fits;
              limited = limited;
              room = told.room;
              inside = new.inside;
              apart = new.apart;
              control = λ on. subst (λ k. Rattle.vd_ring.specs.Control.IsControlChain (packed_words.command f k)
                  (packed_words.ack f k) told.chain) head (told.control on);
            },
          );
      rests = refl;
    }

-- how many descriptors a chain without a table has
pub direct_count : (e : PackedDevice) (v : DeviceView) (x : ℕ) (cs : List Piece) → (l : Loaded e v x) → DeviceStands e v
    → cs ≡ e.pieces.items ++ piece_of x e.second ∷ [] → cs ≡ l.told.chain → length e.pieces.items + 1 ≡ needs v.frame.features cs
direct_count e v x cs l st spelled is_told =
    let off = subst (λ (c : List Piece). is_tabled v.frame c ≡ false) (sym is_told) (is_direct e v x st l) in
    let many : length cs ≡ length e.pieces.items + 1 = ap (λ (ps : List Piece). length ps) spelled
    ∙ length_push e.pieces.items (piece_of x e.second) in
    sym (direct_needs v.frame cs (omega (arith, many)) off ∙ many)

pub taken_goes : (e e' : PackedDevice) (v : DeviceView) (x : ℕ) → (l : Loaded e v x) → DeviceStands e v → e.doing ≡ step.Address
    → goes_on e.second ≡ false → HasTaken (piece_of x e.second) (forward e.at 1 e.size) (length e.pieces.items + 1) e e'
    → Goes e e' v op.Take (Load (2 * e.at.place)) x (act.Taken e.taken e'.pieces.items)
taken_goes e e' v x l st is off h =
    let is_told : e'.pieces.items ≡ l.told.chain = h.pushed ∙ whole_chain e v x off st l in
    let u = at_step e v step.Address is st in
    subst (λ (g : PackedDevice). Goes e g v op.Take (Load (2 * e.at.place)) x (act.Taken e.taken e'.pieces.items)) (sym h.kept)
    (takes_last e e' v (2 * e.at.place) (id_of e.second) x (length e.pieces.items + 1) l.had.word l.had.words
    (forward e.at 1 e.size) e'.pieces.items st l.had.is (address_next e v is st).0
    (ap device_begun is) (u.1, u.2) (subst (λ d. 0 < device_left d (length e.pieces.items)) (sym is) (omega arith)) l.told
    (is_ended e v x st l ∙ ap not off) l.had.limited is_told (told_head e v x l st off)
    (direct_count e v x e'.pieces.items l st h.pushed is_told) (ring_position_more e v x st l) (omega (arith, h.guesses, st.holds.guessed)))

-- a chain with this id may be counted
pub may_count : (e : PackedDevice) (v : DeviceView) (h : ℕ) → DeviceStands e v → h < v.frame.size
    → length (takes v.done) < limit v.frame → MayTake e h
may_count e v h st inside limited = record {
  running = omega (arith, inside, st.holds.places);
  counts = omega (arith, inside, st.holds.as_many);
  guesses = st.holds.guessed;
  number = omega (arith, limited, st.counts.takes, limit_small v.frame);
  position = omega (
    arith,
    st.counts.next_is,
    few_each (needs v.frame.features) (takes v.done) (λ k low. st.counts.few k),
    limited,
    limit_small v.frame,
  );
}

-- the last load may be taken in
pub may_take : (e : PackedDevice) (v : DeviceView) (x : ℕ) → Loaded e v x → DeviceStands e v → goes_on e.second ≡ false
    → MayTake e (id_of e.second)
may_take e v x l st off = may_count e v (id_of e.second) st
    (subst (λ k. k < v.frame.size) (told_head e v x l st off) l.told.is_new.inside) l.had.limited

-- what it makes is a chain
pub taken_chain : (e e' : PackedDevice) (v : DeviceView) (x : ℕ) → Loaded e v x → DeviceStands e v → goes_on e.second ≡ false
    → HasTaken (piece_of x e.second) (forward e.at 1 e.size) (length e.pieces.items + 1) e e' → IsChain e'.pieces.items
taken_chain e e' v x l st off h = subst IsChain (sym (h.pushed ∙ whole_chain e v x off st l)) l.told.fits.chain

-- the end after an address was taken in
pub loaded_goes : (e e' : PackedDevice) (v : DeviceView) (x : ℕ) (t : Told) → Loaded e v x → DeviceStands e v → e.doing ≡ step.Address
    → (goes_on e.second ≡ true → (t ≡ told.Moved) × HasMore x e e')
    → (goes_on e.second ≡ false → (t ≡ told.Taken e.taken) × HasTaken (piece_of x e.second) (forward e.at 1 e.size)
    (length e.pieces.items + 1) e e')
    → Goes e e' v op.Take (Load (2 * e.at.place)) x (act_of t e'.pieces.items)
loaded_goes e e' v x t l st is more whole = by_word (goes_on e.second) refl
  where
    by_word : (b : Bool) → goes_on e.second ≡ b → Goes e e' v op.Take (Load (2 * e.at.place)) x (act_of t e'.pieces.items)
    by_word true eq = subst (λ u. Goes e e' v op.Take (Load (2 * e.at.place)) x (act_of u e'.pieces.items)) (sym (more eq).0)
        (more_goes e e' v x l st is eq (more eq).1)
    by_word false eq = subst (λ u. Goes e e' v op.Take (Load (2 * e.at.place)) x (act_of u e'.pieces.items)) (sym (whole eq).0)
        (taken_goes e e' v x l st is eq (whole eq).1)

-- where it is taken it is a chain
pub loaded_chain : (e e' : PackedDevice) (v : DeviceView) (x k : ℕ) (t : Told) → Loaded e v x → DeviceStands e v
    → (goes_on e.second ≡ true → (t ≡ told.Moved) × HasMore x e e')
    → (goes_on e.second ≡ false → (t ≡ told.Taken e.taken) × HasTaken (piece_of x e.second) (forward e.at 1 e.size)
    (length e.pieces.items + 1) e e')
    → t ≡ told.Taken k → IsChain e'.pieces.items
loaded_chain e e' v x k t l st more whole is = by_word (goes_on e.second) refl
  where
    by_word : (b : Bool) → goes_on e.second ≡ b → IsChain e'.pieces.items
    by_word true eq = absurd (cc ((more eq).0, is))
    by_word false eq = taken_chain e e' v x l st eq (whole eq).1
