-- What a device's acts do to the bag of a ring's chains.
use Rattle.std.proofs.Common.{◌≡◌, ◌≢◌, ℕ, zero, suc, ◌<◌, ◌≤◌, List, [], ◌∷◌, length, map, slice_set, refl, sym, ap, ◌∙◌, subst, arith, inl, inr}
use Rattle.std.proofs.lemmas.Bool.{cases_eq, cases_lt}
use Rattle.std.proofs.lemmas.List.{length_push, length-set, length-map, get_or_append_left, get_or_push, get_or-set_same, get_or-set_other}
use Rattle.vd_model.specs.declared.chain.Piece.{Piece}
use Rattle.vd_ring.specs.declared.frame.Frame.{Frame}
use Rattle.vd_ring.specs.declared.frame.Used.{Used}
use Rattle.vd_ring.specs.declared.driver.DriverDone.{DriverDone}
use Rattle.vd_ring.specs.declared.device.DeviceDone.{DeviceDone}
use Rattle.vd_ring.specs.declared.device.DeviceDone.TheVariants.{Take, Give, Rest}
use Rattle.vd_ring.specs.History.{offers, takes, gives, running, numbers, occurs, used_at, entry, IsWhole}
use Rattle.vd_ring.specs.Bag.{State, offered, returned, state, back, IsBegin, IsEnd, IsTakeBack}
use Rattle.vd_ring.specs.Bag.{running as runs_now}
use Rattle.vd_ring.specs.Lists.{Lists}
use Rattle.vd_ring.specs.Steps.{StandsFor}
use Rattle.vd_ring.proofs.Counts.{one_same, one_above}
use Rattle.vd_ring.proofs.HeldPlaces.{numbers_push}
use Rattle.vd_ring.proofs.ListSteps.{number_in, given_below}
use Rattle.vd_ring.proofs.DeviceLists.{running_below}

pub begin_step : (f : Frame) (o : List DriverDone) (s : List DeviceDone) (c : List Piece) (h : ℕ) (b : List State) → Lists f o s
    → length (takes s) < length (offers o) → StandsFor o s b
    → (b2 : List State) × IsBegin (length (takes s)) b b2 × StandsFor o (Take c h ∷ s) b2
begin_step f o s c h b l below st =
    let t : ℕ = length (takes s) in
    let longer = length_push (takes s) c in
    let inside : t < length b = omega (arith, st.all) in
    let other = λ (k : ℕ) (ne : k ≢ t). get_or-set_other b t k runs_now offered ne in (
      slice_set b t runs_now,
      (inside, st.waits t (omega arith) below, refl),
      record {
        all = length-set b t runs_now ∙ st.all;
        waits = λ k low high. other k (λ e. omega arith) ∙ st.waits k (omega arith) high;
        runs = λ k low none. elim (cases_eq k t) [
          | inl e ↦ subst (λ j. state (slice_set b t runs_now) j ≡ runs_now) (sym e) (get_or-set_same b t runs_now offered inside)
          | inr ne ↦ other k ne ∙ st.runs k (elim (cases_lt k t) [ inl a ↦ a | inr a ↦ absurd (ne (omega arith)) ]) none
        ];
        done = λ j a. other (used_at (gives s) j).number (λ e. omega (arith, given_below f o s j l a)) ∙ st.done j a;
      },
    )

pub end_step : (f : Frame) (o : List DriverDone) (s : List DeviceDone) (u : Used) (b : List State) → Lists f o s
    → 1 ≤ occurs u.number (running s) → StandsFor o s b
    → (b2 : List State) × IsEnd f.features.in_order (u ∷ []) b b2 × StandsFor o (Give (u ∷ []) ∷ s) b2
end_step f o s u b l runs st =
    let k : ℕ = u.number in
    let below = running_below f o s k l runs in
    let inside : k < length b = omega (arith, st.all, l.some, below.0) in
    let other = λ (j : ℕ) (ne : j ≢ k). get_or-set_other b k j (returned u.len) offered ne in (
      slice_set b k (returned u.len),
      record {
        some = omega arith;
        ends = (inside, st.runs k below.0 below.1, refl);
        ordered = λ two. absurd (omega arith);
        lowest = λ two. absurd (omega arith);
      },
      record {
        all = length-set b k (returned u.len) ∙ st.all;
        waits = λ j low high. other j (λ e. omega (arith, below.0)) ∙ st.waits j low high;
        runs = λ j low none. other j (λ e. omega (arith, numbers_push (gives s) u j, one_same k j (sym e)))
            ∙ st.runs j low (omega (arith, numbers_push (gives s) u j));
        done = λ j a. elim (cases_lt j (length (gives s))) [
          | inl h ↦ (
              let same = get_or_append_left (gives s) (u ∷ []) (entry 0 0) j h in
              subst (λ (v : Used). state (slice_set b k (returned u.len)) v.number ≡ returned v.len) (sym same)
              (other (used_at (gives s) j).number (λ e. omega (
                arith,
                number_in (gives s) j h,
                ap (λ n. occurs n (numbers (gives s))) e,
                below.1,
              )) ∙ st.done j h)
              )
          | inr h ↦ (
              let same = get_or_push (gives s) u (entry 0 0) j (let e : length (gives s) ≡ j = omega (arith, length_push (gives s) u) in
              e) in
              subst (λ (v : Used). state (slice_set b k (returned u.len)) v.number ≡ returned v.len) (sym same)
              (get_or-set_same b k (returned u.len) offered inside)
              )
        ];
      },
    )

back_at : (b : List State) (k : ℕ) → state (map back b) k ≡ back (state b k)
back_at [] k = refl
back_at (x ∷ b) zero = refl
back_at (x ∷ b) (suc k) = back_at b k

pub take_back_step : (f : Frame) (o : List DriverDone) (s : List DeviceDone) (b : List State) → Lists f o s → Lists f o (Rest ∷ s)
    → IsWhole s → StandsFor o s b
    → (b2 : List State) × IsTakeBack b b2 × StandsFor o (Rest ∷ s) b2
take_back_step f o s b l after is st =
    let g : ℕ = length (gives s) in
    let len : length (takes (Rest ∷ s)) ≡ g = omega (arith, after.count) in (
      map back b,
      refl,
      record {
        all = length-map b back ∙ st.all;
        waits = λ k low high. back_at b k ∙ elim (cases_lt k (length (takes s))) [
          | inl h ↦ ap back (st.runs k h (omega (arith, after.given k, one_above k (length (takes (Rest ∷ s))) low)))
          | inr h ↦ ap back (st.waits k h high)
        ];
        runs = λ k low none. absurd (omega (arith, is k (omega arith)));
        done = λ j a. back_at b (used_at (gives s) j).number ∙ ap back (st.done j a);
      },
    )
