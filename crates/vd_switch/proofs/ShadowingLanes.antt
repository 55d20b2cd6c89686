-- What follows from the parts of a shadowing lane.
use Rattle.std.proofs.Common.{◌≡◌, ◌⊎◌, ℕ, ◌+◌, ◌-◌, ◌<◌, ◌≤◌, true, false, Option, Some, List, [], ◌∷◌, ◌++◌, length, map, take, drop, slice_get, slice_index_or, refl, sym, ◌∙◌, ap, subst, arith, inl, inr}
use Rattle.std.specs.List.{All}
use Rattle.std.proofs.lemmas.Bool.{cases_lt}
use Rattle.std.proofs.lemmas.List.{length-map, take-map, take-append-le, take_all, get_or_append_left, get_or-append-add, get_or-drop, get_or-take, get_or-map, length-take-le, map-append, drop-take}
use Rattle.std.proofs.lemmas.List.Elements.{All-take}
use Rattle.std.proofs.lemmas.Option.{get_or_from_slice_get}
use Rattle.std.proofs.Math.ListN.{length-append}
use Rattle.std.proofs.Math.ListN.{get_or-map as get_or_mapped}
use Rattle.std.proofs.Math.Seq.{take-append-add}
use Rattle.vd_model.specs.declared.chain.Piece.{Piece}
use Rattle.vd_model.specs.declared.map.Mapping.{Mapping}
use Rattle.vd_model.specs.declared.record.Begun.{Begun}
use Rattle.vd_model.specs.Maps.{lies_in}
use Rattle.vd_ring.specs.declared.driver.DriverView.{DriverView}
use Rattle.vd_ring.specs.declared.device.DeviceDone.{DeviceDone}
use Rattle.vd_ring.specs.declared.device.DeviceDone.TheVariants.{Rest}
use Rattle.vd_ring.specs.declared.device.DeviceView.{DeviceView}
use Rattle.vd_ring.specs.declared.frame.Frame.{Frame}
use Rattle.vd_ring.specs.declared.frame.Used.{Used}
use Rattle.vd_ring.specs.Frames.{Fits, AreInBounds}
use Rattle.vd_ring.specs.History.{entry, offers, collects, takes, gives, used_at, chain, chain_at}
use Rattle.vd_ring.specs.Lists.{Lists}
use Rattle.vd_ring.specs.Account.{Lawful}
use Rattle.vd_ring.proofs.Counts.{one_small}
use Rattle.vd_ring.proofs.ListSteps.{given_below}
use Rattle.vd_layout.specs.Driver.{DriverModel}
use Rattle.vd_layout.specs.Device.{DeviceModel}
use Rattle.vd_layout.specs.Layout.{LayoutModel, IsLawfulLayout}
use Rattle.vd_bus.specs.declared.device.Attached.{Attached}
use Rattle.vd_bus.specs.Device.{IsJournalled, chains_of, lens_of}
use Rattle.vd_relay.specs.declared.stage.Stage.{Stage}
use Rattle.vd_relay.specs.declared.stage.Stage.TheVariants as stage
use Rattle.vd_model.specs.Moved.{moved, moved_back}
use Rattle.vd_relay.specs.Tie.{Start, moves, since, shift}
use Rattle.vd_relay.specs.declared.state.State.{State}
use Rattle.vd_relay.specs.Stages.{BeforeRest, GuestIs, BackIs, EndsIs, is_rested}
use Rattle.vd_layout.specs.Begun.{DeviceOp}
use Rattle.vd_relay.proofs.Shifts.{chain_past, chain_moved}
use Rattle.vd_relay.proofs.Ties.{given_count}
use Rattle.vd_switch.specs.Account.{LeavesStill, lane_account}
use Rattle.vd_switch.specs.ShadowingLanes.{IsShadowing, KeepsShadowing, lane_begun, begun_back}
use Rattle.vd_switch.proofs.Undo.{undo_all, begun_chains, take_take, drop_front, all_back}

-- the acts before the guest's end rests
pub which : (st : Stage) (acts done : List DeviceDone) → BeforeRest st acts done → (done ≡ acts) ⊎ ((st ≡ stage.Rested) × (done ≡ Rest ∷ acts))
which stage.Rested acts done h = inr (refl, h)
which stage.Taking acts done h = inl h
which (stage.Offering k p) acts done h = inl h
which (stage.Collecting none) acts done h = inl h
which stage.Giving acts done h = inl h
which stage.ArmingGuest acts done h = inl h
which stage.ArmingShadow acts done h = inl h
which stage.HearingGuest acts done h = inl h
which stage.HearingShadow acts done h = inl h
which stage.DisarmingGuest acts done h = inl h
which stage.DisarmingShadow acts done h = inl h
which stage.Resting acts done h = inl h

live_acts : (st : Stage) (acts done : List DeviceDone) → is_rested st ≡ false → BeforeRest st acts done → done ≡ acts
live_acts st acts done live h = elim (which st acts done h) [
  | inl is ↦ is
  | inr is ↦ (let no : true ≡ false = ap is_rested (sym is.0) ∙ live in absurd (cc no))
]

-- where no give is begun, nothing is to be given
pub rested_back : (st : Stage) (a : DeviceOp) (back : List Used) → st ≡ stage.Rested → GuestIs st a → BackIs a back → back ≡ []
rested_back st a back is at h = no_back a back (subst (λ (s : Stage). GuestIs s a) is at) h
  where
    no_back : (a : DeviceOp) (back : List Used) → GuestIs stage.Rested a → BackIs a back → back ≡ []
    no_back DeviceOp.idle back at h = h
    no_back (DeviceOp.give k n) back at h = absurd at
    no_back DeviceOp.take back at h = absurd at
    no_back DeviceOp.signal back at h = absurd at
    no_back DeviceOp.arm back at h = absurd at
    no_back DeviceOp.hear back at h = absurd at
    no_back DeviceOp.disarm back at h = absurd at
    no_back DeviceOp.rest back at h = absurd at

module _ {E D : Type 0} (e : DeviceModel E) (d : DriverModel D) (l : LayoutModel) (law : IsLawfulLayout d e l) (z : Start)
    (old : List (List Piece × ℕ)) (r : State E D) (begun : List Begun) (by : Attached) (words shadow_words : List ℕ) (v : DriverView)
    (w : DeviceView) (sv : DriverView) (sw : DeviceView) (h : IsShadowing e d l z old r begun by words shadow_words v w sv sw) where
  outer : Lists v.frame v.done w.done
  outer = law.lists words v w h.ring

  inner : Lists sv.frame sv.done sw.done
  inner = law.lists shadow_words sv sw h.shadow_ring

  past_count : length h.relays.tied.past ≡ length (offers sv.done) + length h.relays.hand
  past_count = sym (length-map h.relays.tied.past (moved z.map)) ∙ ap (λ (cs : List (List Piece)). length cs) h.relays.tied.offered
      ∙ length-append (offers sv.done) h.relays.hand

  -- what the shadow ring's device took is the first of what was taken from the guest's ring since then, moved
  inner_takes : takes sw.done ≡ map (moved z.map) (take (length (takes sw.done)) h.relays.tied.past)
  inner_takes = inner.taken ∙ sym (take-append-le (length (takes sw.done)) (offers sv.done) h.relays.hand inner.some)
      ∙ ap (take (length (takes sw.done))) (sym h.relays.tied.offered) ∙ take-map (moved z.map) (length (takes sw.done)) h.relays.tied.past

  journalled : chains_of (drop by.at begun) ≡ takes sw.done
  journalled = h.serves.chains ∙ ap (λ (k : ℕ). drop k (takes sw.done)) h.from

  many : length (drop by.at begun) ≡ length (takes sw.done)
  many = sym (length-map (drop by.at begun) (λ (b : Begun). b.chain)) ∙ ap (λ (cs : List (List Piece)). length cs) journalled

  old_count : length old ≡ since z
  old_count = sym (length-map old (λ (x : List Piece × ℕ). x.0)) ∙ ap (λ (cs : List (List Piece)). length cs) h.before.chains
      ∙ h.relays.tied.even

  -- ---- once the guest's end rests

  at_rest : r.stage ≡ stage.Rested → EndsIs stage.Rested r.winding r.target h.relays.acts sv.done
  at_rest is = subst (λ (s : Stage). EndsIs s r.winding r.target h.relays.acts sv.done) is h.relays.ends

  rested_given : r.stage ≡ stage.Rested → length (gives h.relays.acts) ≡ since z + length (takes sw.done)
  rested_given is =
      let at = at_rest is in
      let winding = h.winds at.0 in
      let none : length h.relays.back ≡ 0 = ap (λ (us : List Used). length us)
      (rested_back r.stage (e.begun r.guest) h.relays.back is h.relays.guest h.relays.to_give) in
      omega (
        arith,
        given_count (moves z) r.table h.relays.acts sv.frame sv.done h.relays.hand h.relays.back h.relays.tied,
        none,
        at.1,
        winding.target,
        winding.even,
        inner.fewer,
      )

  -- ---- the chains begun

  pub record Front : Type 0 where
    pub same : z.takes ++ take (length (takes sw.done)) h.relays.tied.past ≡ take (since z + length (takes sw.done)) (takes w.done)
    pub low : since z + length (takes sw.done) ≤ length (takes w.done)

  all_taken : z.takes ++ take (length (takes sw.done)) h.relays.tied.past ≡ take (since z + length (takes sw.done))
      (z.takes ++ h.relays.tied.past)
  all_taken = sym (take-append-add z.takes h.relays.tied.past (length (takes sw.done)))
      ∙ ap (λ (k : ℕ). take (k + length (takes sw.done)) (z.takes ++ h.relays.tied.past)) h.relays.tied.even

  all_count : since z + length (takes sw.done) ≤ length (z.takes ++ h.relays.tied.past)
  all_count = omega (arith, length-append z.takes h.relays.tied.past, h.relays.tied.even, past_count, inner.some)

  front_at : (w.done ≡ h.relays.acts) ⊎ ((r.stage ≡ stage.Rested) × (w.done ≡ Rest ∷ h.relays.acts)) → Front
  front_at (inl is) =
      let same : takes w.done ≡ z.takes ++ h.relays.tied.past = ap takes is ∙ h.relays.tied.takes in record {
        same = all_taken ∙ ap (take (since z + length (takes sw.done))) (sym same);
        low = omega (arith, all_count, ap (λ (cs : List (List Piece)). length cs) same);
      }
  front_at (inr (resting, is)) =
      let n : ℕ = since z + length (takes sw.done) in
      let same : takes w.done ≡ take n (z.takes ++ h.relays.tied.past) = ap takes is
      ∙ ap (λ (k : ℕ). take k (takes h.relays.acts)) (rested_given resting) ∙ ap (take n) h.relays.tied.takes in record {
        same = all_taken ∙ sym (take_take n n (z.takes ++ h.relays.tied.past) (omega arith)) ∙ ap (take n) (sym same);
        low = omega (arith, length-take-le n (z.takes ++ h.relays.tied.past) all_count, ap (λ (cs : List (List Piece)). length cs) same);
      }

  front : Front
  front = front_at (which r.stage h.relays.acts w.done h.relays.before)

  -- what the device has journalled since its attach: the next chains taken from the guest's ring, moved
  pub journal : chains_of (drop by.at begun) ≡ map (moved z.map) (take (length (takes sw.done)) (drop (since z) (takes w.done)))
  journal =
      let n : ℕ = length (takes sw.done) in
      let front_of : List (List Piece) = take n h.relays.tied.past in
      journalled ∙ inner_takes ∙ ap (map (moved z.map)) (
      sym (drop_front z.takes front_of) ∙ ap (λ (k : ℕ). drop k (z.takes ++ front_of)) h.relays.tied.even
      ∙ ap (drop (since z)) front.same ∙ drop-take (since z) n (takes w.done)
      )

  framed : w.frame ≡ v.frame
  framed = (law.wide words v w h.ring).1

  covered : (c : List Piece) → Fits v.frame c → All (λ (p : Piece). lies_in z.map p ≡ true) c
  covered c fits = λ k x below.
      (h.relays.paired.covers (slice_index_or c k x)
      (subst (λ (b : Option (List Mapping)). AreInBounds b c)
      (ap (λ (f : Frame). f.bounds) (sym framed) ∙ h.relays.paired.bounded) fits.bounds k x below)).0

  front_fits : All (Fits v.frame) (z.takes ++ take (length (takes sw.done)) h.relays.tied.past)
  front_fits =
      let all = (law.places words v w h.ring).fits in
      let taken : All (Fits v.frame) (takes w.done) = subst (λ (cs : List (List Piece)). All (Fits v.frame) cs) (sym outer.taken)
      (All-take (Fits v.frame) (length (takes w.done)) (offers v.done) all) in
      subst (λ (cs : List (List Piece)). All (Fits v.frame) cs) (sym front.same)
      (All-take (Fits v.frame) (since z + length (takes sw.done)) (takes w.done) taken)

  undone : map (moved_back z.map) (takes sw.done) ≡ take (length (takes sw.done)) h.relays.tied.past
  undone =
      let past : List (List Piece) = take (length (takes sw.done)) h.relays.tied.past in
      let fits : All (Fits v.frame) past = all_back (Fits v.frame) z.takes past front_fits in
      ap (map (moved_back z.map)) inner_takes
      ∙ undo_all z.map h.undone past (λ k x below. covered (slice_index_or past k x) (fits k x below))

  begun_now : map (λ (x : List Piece × ℕ). x.0) (map (begun_back z.map) (drop by.at begun)) ≡ map (moved_back z.map) (takes sw.done)
  begun_now = begun_chains z.map (drop by.at begun) ∙ ap (map (moved_back z.map)) journalled

  begun_all : map (λ (x : List Piece × ℕ). x.0) (lane_begun z old begun by) ≡ z.takes ++ take (length (takes sw.done)) h.relays.tied.past
  begun_all =
      map-append (λ (x : List Piece × ℕ). x.0) old (map (begun_back z.map) (drop by.at begun))
      ∙ ap (λ (cs : List (List Piece)). cs ++ map (λ (x : List Piece × ℕ). x.0) (map (begun_back z.map) (drop by.at begun))) h.before.chains
      ∙ ap (λ (cs : List (List Piece)). z.takes ++ cs) (begun_now ∙ undone)

  pub begun_count : length (lane_begun z old begun by) ≡ since z + length (takes sw.done)
  begun_count = omega (
    arith,
    length-append old (map (begun_back z.map) (drop by.at begun)),
    length-map (drop by.at begun)
        (begun_back z.map),
    many,
    old_count,
  )

  pub begun_front : map (λ (x : List Piece × ℕ). x.0) (lane_begun z old begun by) ≡ take (length (lane_begun z old begun by)) (takes w.done)
  begun_front = begun_all ∙ front.same ∙ ap (λ (k : ℕ). take k (takes w.done)) (sym begun_count)

  begun_offered : map (λ (x : List Piece × ℕ). x.0) (lane_begun z old begun by) ≡ take (length (lane_begun z old begun by)) (offers v.done)
  begun_offered = begun_front ∙ ap (take (length (lane_begun z old begun by))) outer.taken
      ∙ take_take (length (lane_begun z old begun by)) (length (takes w.done)) (offers v.done) (omega (arith, front.low, begun_count))

  -- ---- what was given

  gives_at : (w.done ≡ h.relays.acts) ⊎ ((r.stage ≡ stage.Rested) × (w.done ≡ Rest ∷ h.relays.acts))
      → gives w.done ≡ z.gives ++ h.relays.tied.got
  gives_at (inl is) = ap gives is ∙ h.relays.tied.gives
  gives_at (inr (resting, is)) = ap gives is ∙ h.relays.tied.gives

  gives_are : gives w.done ≡ z.gives ++ h.relays.tied.got
  gives_are = gives_at (which r.stage h.relays.acts w.done h.relays.before)

  got_count : length h.relays.tied.got ≤ length (collects sv.done)
  got_count = omega (
    arith,
    length-map (collects sv.done) (shift (since z)),
    ap
        (λ (us : List Used). length us) h.relays.tied.given,
    length-append h.relays.tied.got h.relays.back,
  )

  -- an entry given since then is one that the shadow ring's device gave
  got_at : (i : ℕ) → i < length h.relays.tied.got → used_at h.relays.tied.got i ≡ shift (since z) (used_at (gives sw.done) i)
  got_at i low =
      sym (get_or_append_left h.relays.tied.got h.relays.back (entry 0 0) i low)
      ∙ ap (λ (us : List Used). used_at us i) (sym h.relays.tied.given)
      ∙ get_or-map (shift (since z)) (collects sv.done) i (entry 0 0) (entry 0 0) (omega (arith, got_count))
      ∙ ap (λ (us : List Used). shift (since z) (used_at us i)) inner.collected
      ∙ ap (shift (since z)) (get_or-take (length (collects sv.done)) (gives sw.done) i (entry 0 0) (omega (arith, got_count)))

  journal_len : (i : ℕ) → i < length (gives sw.done) → (x : List Piece × ℕ)
      → (slice_index_or (lane_begun z old begun by) (since z + (used_at (gives sw.done) i).number) x).1 ≡ (used_at (gives sw.done) i).len
  journal_len i low x =
      let u : Used = used_at (gives sw.done) i in
      let ds : List Begun = drop by.at begun in
      let none : Begun = record { chain = []; len = 0; bytes = record { items = [] } } in
      let all : All (IsJournalled begun by.at 0) (gives sw.done) = subst
      (λ (k : ℕ). All (IsJournalled begun by.at k) (drop k (gives sw.done))) h.from h.serves.given in
      let there : slice_get (lens_of begun) (u.number - 0 + by.at) ≡ Some u.len = (all i (entry 0 0) low).len in
      let below : u.number < length ds = omega (arith, given_below sv.frame sv.done sw.done i inner low, many) in
      let at : by.at + u.number ≡ u.number - 0 + by.at = omega arith in
      ap (λ (k : ℕ). (slice_index_or (lane_begun z old begun by) (k + u.number) x).1) (sym old_count)
      ∙ ap (λ (y : List Piece × ℕ). y.1)
      (get_or-append-add old (map (begun_back z.map) ds) u.number x ∙ get_or-map (begun_back z.map) ds u.number none x below)
      ∙ ap (λ (b : Begun). b.len) (get_or-drop by.at begun u.number none ∙ ap (λ (k : ℕ). slice_index_or begun k none) at)
      ∙ sym (get_or_mapped (λ (b : Begun). b.len) begun (u.number - 0 + by.at) none)
      ∙ get_or_from_slice_get (lens_of begun) (u.number - 0 + by.at) u.len 0 there

  -- ---- an entry, of before or since then

  entry_old : (j : ℕ) → j < since z → used_at (gives w.done) j ≡ used_at z.gives j
  entry_old j low = ap (λ (us : List Used). used_at us j) gives_are ∙ get_or_append_left z.gives h.relays.tied.got (entry 0 0) j low

  entry_new : (i : ℕ) → i < length h.relays.tied.got → used_at (gives w.done) (since z + i) ≡ shift (since z) (used_at (gives sw.done) i)
  entry_new i low = ap (λ (us : List Used). used_at us (since z + i)) gives_are ∙ get_or-append-add z.gives h.relays.tied.got i (entry 0 0)
      ∙ got_at i low

  gives_count : length (gives w.done) ≡ since z + length h.relays.tied.got
  gives_count = ap (λ (us : List Used). length us) gives_are ∙ length-append z.gives h.relays.tied.got

  given_there : (i : ℕ) → i < length h.relays.tied.got → i < length (gives sw.done)
  given_there i low = omega (arith, got_count, inner.fewer)

  -- it has a chain that was begun, with its length
  pub record IsBegunEntry (j : ℕ) : Type 0 where
    pub inside : (used_at (gives w.done) j).number < length (lane_begun z old begun by)
    pub len : (x : List Piece × ℕ)
        → (slice_index_or (lane_begun z old begun by) (used_at (gives w.done) j).number x).1 ≡ (used_at (gives w.done) j).len

  begun_old : (j : ℕ) → j < since z → IsBegunEntry j
  begun_old j low =
      let same = entry_old j low in
      let number : (used_at (gives w.done) j).number ≡ (used_at z.gives j).number = ap (λ (u : Used). u.number) same in
      let below = h.before.inside j low in
      record {
        inside = omega (arith, number, below, begun_count, old_count);
        len = λ x.
            ap (λ (k : ℕ). (slice_index_or (lane_begun z old begun by) k x).1) number
            ∙ ap (λ (y : List Piece × ℕ). y.1)
            (get_or_append_left old (map (begun_back z.map) (drop by.at begun)) x (used_at z.gives j).number below)
            ∙ h.before.lens j x low ∙ sym (ap (λ (u : Used). u.len) same);
      }

  begun_new : (j i : ℕ) → since z + i ≡ j → i < length h.relays.tied.got → IsBegunEntry j
  begun_new j i is low =
      let u : Used = used_at (gives sw.done) i in
      let same : used_at (gives w.done) j ≡ shift (since z) u = ap (λ (k : ℕ). used_at (gives w.done) k) (sym is) ∙ entry_new i low in
      let number : (used_at (gives w.done) j).number ≡ since z + u.number = ap (λ (y : Used). y.number) same in
      record {
        inside = omega (arith, number, begun_count, given_below sv.frame sv.done sw.done i inner (given_there i low));
        len = λ x. ap (λ (k : ℕ). (slice_index_or (lane_begun z old begun by) k x).1) number ∙ journal_len i (given_there i low) x
            ∙ sym (ap (λ (y : Used). y.len) same);
      }

  begun_entry : (j : ℕ) → j < length (gives w.done) → IsBegunEntry j
  begun_entry j low = elim (cases_lt j (since z)) [
    | inl a ↦ begun_old j a
    | inr a ↦ begun_new j (j - since z) (omega arith) (omega (arith, gives_count))
  ]

  pub lawful : Lawful (lane_account v.done (lane_begun z old begun by) w.done)
  lawful = record {
    begun = begun_offered;
    differ = λ k. omega (arith, outer.given k, one_small (Rattle.std.specs.Prelude.nat_lt k (length (takes w.done))));
    inside = λ j low. (begun_entry j low).inside;
    lengths = λ j x low. (begun_entry j low).len x;
    collected = outer.collected;
  }

  -- ---- a kept lane

  offered_at : is_rested r.stage ≡ false → (i : ℕ) → i < length (offers sv.done) → (since z + i < length (takes w.done))
      × (chain sv.done i ≡ moved z.map (chain v.done (since z + i)))
  offered_at live i low =
      let past : List (List Piece) = h.relays.tied.past in
      let same : takes w.done ≡ z.takes ++ past = ap takes (live_acts r.stage h.relays.acts w.done live h.relays.before)
      ∙ h.relays.tied.takes in
      let inside : since z + i < length (takes w.done) = omega
      (arith, ap (λ (cs : List (List Piece)). length cs) same, length-append z.takes past, past_count, h.relays.tied.even) in (
        inside,
        sym (get_or_append_left (offers sv.done) h.relays.hand [] i low)
            ∙ ap (λ (cs : List (List Piece)). chain_at cs i) (sym h.relays.tied.offered)
            ∙ chain_moved z.map past i
            ∙ ap (moved z.map) (
            sym (chain_past z.takes past (since z) i h.relays.tied.even)
            ∙ ap (λ (cs : List (List Piece)). chain_at cs (since z + i)) (sym same ∙ outer.taken)
            ∙ get_or-take (length (takes w.done)) (offers v.done) (since z + i) [] inside
            ),
      )

  pub keeps : KeepsShadowing z old r begun by v w sv sw
  keeps = record {
    lawful = lawful;
    chains = begun_front;
    past = ap (λ (k : ℕ). map (λ (x : List Piece × ℕ). x.0) (drop k (lane_begun z old begun by))) (sym old_count)
        ∙ ap (map (λ (x : List Piece × ℕ). x.0)) (drop_front old (map (begun_back z.map) (drop by.at begun))) ∙ begun_now;
    offered = offered_at;
    given = (
      h.relays.back,
      ap (λ (us : List Used). us ++ h.relays.back)
          (ap (drop (since z)) gives_are ∙ drop_front z.gives h.relays.tied.got) ∙ sym h.relays.tied.given,
    );
    table = h.relays.tied.holds;
  }

  -- ---- a stop

  pub leaves : r.stage ≡ stage.Rested → LeavesStill e r.guest (lane_begun z old begun by) v w
      × (length (gives w.done) ≡ since z + length (gives sw.done))
  leaves is =
      let rests : e.resting r.guest ≡ true = h.relays.rests ∙ ap is_rested is in
      let whole = law.device_end.whole r.guest w h.relays.serves (inl rests) in
      let winding = h.winds (at_rest is).0 in
      let acts : length (gives w.done) ≡ length (gives h.relays.acts) = ap (λ (us : List Used). length us)
      (gives_are ∙ sym h.relays.tied.gives) in
      let given : length (gives w.done) ≡ since z + length (takes sw.done) = acts ∙ rested_given is in
      let chains : map (λ (x : List Piece × ℕ). x.0) (lane_begun z old begun by) ≡ takes w.done = begun_front
      ∙ take_all (length (lane_begun z old begun by)) (takes w.done) (omega (arith, begun_count, given, whole.1)) in (
        record {
          rests = rests;
          lawful = lawful;
          even = given ∙ sym begun_count;
          chains = chains;
          base = law.device_end.based r.guest w h.relays.serves (inl rests) ∙ ap (e.base_of w.frame) (sym chains);
          next = record {
            chains = chains;
            inside = λ j low. (begun_entry j low).inside;
            lens = λ j x low. (begun_entry j low).len x;
          };
        },
        omega (arith, given, winding.even),
      )
