-- What follows from the parts of a passing lane.
use Rattle.std.proofs.Common.{◌≡◌, ℕ, ◌+◌, ◌-◌, ◌<◌, nat_lt, true, List, [], ◌∷◌, ◌++◌, length, map, take, drop, slice_index_or, refl, sym, ◌∙◌, ap, subst, arith, inl, inr}
use Rattle.std.proofs.lemmas.Bool.{cases_lt}
use Rattle.std.proofs.lemmas.List.{length-map, get_or_append_left, get_or-append-add, get_or-drop, get_or-map, map-append, length-drop}
use Rattle.std.proofs.lemmas.Option.{get_or_from_slice_get}
use Rattle.std.proofs.Math.ListN.{length-append}
use Rattle.std.proofs.Math.ListN.{get_or-map as get_or_mapped}
use Rattle.vd_model.specs.declared.chain.Piece.{Piece}
use Rattle.vd_model.specs.declared.record.Begun.{Begun}
use Rattle.vd_ring.specs.declared.driver.DriverView.{DriverView}
use Rattle.vd_ring.specs.declared.device.DeviceView.{DeviceView}
use Rattle.vd_ring.specs.declared.frame.Used.{Used}
use Rattle.vd_ring.specs.Account.{Lawful}
use Rattle.vd_ring.specs.History.{entry, offers, takes, gives, used_at}
use Rattle.vd_ring.specs.Lists.{Lists}
use Rattle.vd_ring.proofs.Counts.{one_small}
use Rattle.vd_ring.proofs.ListSteps.{given_below}
use Rattle.vd_layout.specs.Device.{DeviceModel}
use Rattle.vd_layout.specs.Driver.{DriverModel}
use Rattle.vd_layout.specs.Layout.{LayoutModel, IsLawfulLayout}
use Rattle.vd_bus.specs.declared.device.Attached.{Attached}
use Rattle.vd_bus.specs.Device.{IsJournalled, HasServedAll, chains_of, lens_of}
use Rattle.vd_switch.specs.Account.{LeavesStill, lane_account}
use Rattle.vd_switch.specs.PassingLanes.{IsPassing, KeepsPassing, lane_passed, passed}
use Rattle.vd_switch.proofs.Undo.{drop_front}

passed_chains : (bs : List Begun) → map (λ (x : List Piece × ℕ). x.0) (map passed bs) ≡ chains_of bs
passed_chains [] = refl
passed_chains (b ∷ bs) = ap (λ (cs : List (List Piece)). b.chain ∷ cs) (passed_chains bs)

module _ {D E : Type 0} (e : DeviceModel E) (d : DriverModel D) (l : LayoutModel) (law : IsLawfulLayout d e l) (ts : List (List Piece))
    (gs : List Used) (old : List (List Piece × ℕ)) (begun : List Begun) (by : Attached) (words : List ℕ) (v : DriverView) (w : DeviceView)
    (h : IsPassing l ts gs old begun by words v w) where
  outer : Lists v.frame v.done w.done
  outer = law.lists words v w h.ring

  -- ---- the chains begun

  abbrev past : List (List Piece)
  past = h.takes.0

  journalled : chains_of (drop by.at begun) ≡ past
  journalled =
      h.serves.chains ∙ ap (λ (k : ℕ). drop k (takes w.done)) (h.from ∙ sym h.even) ∙ ap (drop (length ts)) (sym h.takes.1)
      ∙ drop_front ts past

  pub chains : map (λ (x : List Piece × ℕ). x.0) (lane_passed old begun by) ≡ takes w.done
  chains =
      map-append (λ (x : List Piece × ℕ). x.0) old (map passed (drop by.at begun))
      ∙ ap (λ (cs : List (List Piece)). cs ++ map (λ (x : List Piece × ℕ). x.0) (map passed (drop by.at begun))) h.before.chains
      ∙ ap (λ (cs : List (List Piece)). ts ++ cs) (passed_chains (drop by.at begun) ∙ journalled) ∙ h.takes.1

  pub passed_count : length (lane_passed old begun by) ≡ length (takes w.done)
  passed_count =
      sym (length-map (lane_passed old begun by) (λ (x : List Piece × ℕ). x.0)) ∙ ap (λ (cs : List (List Piece)). length cs) chains

  old_count : length old ≡ length gs
  old_count =
      sym (length-map old (λ (x : List Piece × ℕ). x.0)) ∙ ap (λ (cs : List (List Piece)). length cs) h.before.chains ∙ h.even

  -- ---- what was given: an entry of before or since the attach

  pub record IsBegunEntry (j : ℕ) : Type 0 where
    pub inside : (used_at (gives w.done) j).number < length (lane_passed old begun by)
    pub len : (x : List Piece × ℕ)
        → (slice_index_or (lane_passed old begun by) (used_at (gives w.done) j).number x).1 ≡ (used_at (gives w.done) j).len

  inside : (j : ℕ) → j < length (gives w.done) → (used_at (gives w.done) j).number < length (lane_passed old begun by)
  inside j low = omega (arith, passed_count, given_below v.frame v.done w.done j outer low)

  entry_old : (j : ℕ) → j < length gs → used_at (gives w.done) j ≡ used_at gs j
  entry_old j low =
      ap (λ (us : List Used). used_at us j) (sym h.gives.1) ∙ get_or_append_left gs h.gives.0 (entry 0 0) j low

  begun_old : (j : ℕ) → j < length (gives w.done) → j < length gs → IsBegunEntry j
  begun_old j low early =
      let same = entry_old j early in
      let number : (used_at (gives w.done) j).number ≡ (used_at gs j).number = ap (λ (u : Used). u.number) same in
      let below = h.before.inside j early in record {
        inside = inside j low;
        len = λ x.
            ap (λ (k : ℕ). (slice_index_or (lane_passed old begun by) k x).1) number
            ∙ ap (λ (y : List Piece × ℕ). y.1) (get_or_append_left old (map passed (drop by.at begun)) x (used_at gs j).number below)
            ∙ h.before.lens j x early ∙ sym (ap (λ (u : Used). u.len) same);
      }

  begun_new : (j i : ℕ) → length gs + i ≡ j → j < length (gives w.done) → IsBegunEntry j
  begun_new j i is low =
      let none : Begun = record { chain = []; len = 0; bytes = record { items = [] } } in
      let given = gives w.done in
      let fits : i < length (drop by.from given) = omega (arith, length-drop by.from given, h.from) in
      let there : used_at (drop by.from given) i ≡ used_at given j =
      get_or-drop by.from given i (entry 0 0)
      ∙ ap (λ (k : ℕ). used_at given k) (let e : by.from + i ≡ j = omega (arith, h.from) in e) in
      let told : IsJournalled begun by.at by.from (used_at given j) = subst (IsJournalled begun by.at by.from) there
      (h.serves.given i (entry 0 0) fits) in
      let u : Used = used_at given j in
      let k : ℕ = u.number - by.from in
      let number : length old + k ≡ u.number = omega (arith, old_count, h.from, told.since) in
      let below : k < length (drop by.at begun) = omega (
        arith,
        inside j low,
        length-append old (map passed (drop by.at begun)),
        length-map (drop by.at begun) passed,
      ) in record {
        inside = inside j low;
        len = λ x.
            ap (λ (n : ℕ). (slice_index_or (lane_passed old begun by) n x).1) (sym number)
            ∙ ap (λ (y : List Piece × ℕ). y.1) (
            get_or-append-add old (map passed (drop by.at begun)) k x ∙ get_or-map passed (drop by.at begun) k none x below
            )
            ∙ ap (λ (b : Begun). b.len) (
            get_or-drop by.at begun k none
            ∙ ap (λ (n : ℕ). slice_index_or begun n none) (let e : by.at + k ≡ k + by.at = omega arith in e)
            )
            ∙ sym (get_or_mapped (λ (b : Begun). b.len) begun (k + by.at) none)
            ∙ get_or_from_slice_get (lens_of begun) (k + by.at) u.len 0 told.len;
      }

  begun_entry : (j : ℕ) → j < length (gives w.done) → IsBegunEntry j
  begun_entry j low = elim (cases_lt j (length gs)) [
    | inl a ↦ begun_old j low a
    | inr a ↦ begun_new j (j - length gs) (omega arith) low
  ]

  pub lawful : Lawful (lane_account v.done (lane_passed old begun by) w.done)
  lawful = record {
    begun = chains ∙ outer.taken ∙ ap (λ (k : ℕ). take k (offers v.done)) (sym passed_count);
    differ = λ k. omega (arith, outer.given k, one_small (nat_lt k (length (takes w.done))));
    inside = inside;
    lengths = λ j x low. (begun_entry j low).len x;
    collected = outer.collected;
  }

  pub keeps : KeepsPassing old begun by v w
  keeps = record { lawful = lawful; chains = chains }

  -- ---- a stop

  pub leaves : (end : E) → e.stands end w → e.resting end ≡ true → HasServedAll (length begun) by w
      → LeavesStill e end (lane_passed old begun by) v w
  leaves end stands rests all = record {
    rests = rests;
    lawful = lawful;
    even = sym (passed_count ∙ all.as_many);
    chains = chains;
    base = law.device_end.based end w stands (inl rests) ∙ ap (e.base_of w.frame) (sym chains);
    next = record {
      chains = chains;
      inside = inside;
      lens = λ j x low. (begun_entry j low).len x;
    };
  }
