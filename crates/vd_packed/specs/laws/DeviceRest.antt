-- The look of a rest: it is next in a view that the end stands for, and the end stands for the view after it.
use Rattle.std.proofs.Common.{◌≡◌, ℕ, ◌+◌, ◌*◌, ◌<◌, ◌≤◌, Bool, if◌then◌else◌, List, [], ◌∷◌, length, take, Option, Some, None, refl, sym, ap, ◌∙◌, subst, arith, inl, inr}
use Rattle.std.proofs.lemmas.Bool.{cases_lt}
use Rattle.std.proofs.lemmas.List.{length-map, length-take, length-take-le, get_or-take, get_or_past}
use Rattle.vd_model.specs.declared.chain.Piece.{Piece}
use Rattle.vd_model.specs.Chains.{needs}
use Rattle.vd_words.specs.declared.access.Access.TheVariants.{Load}
use Rattle.vd_words.specs.declared.access.Op.TheVariants as op
use Rattle.vd_ring.specs.declared.act.DeviceAct.TheVariants as act
use Rattle.vd_ring.specs.declared.frame.Frame.{Frame}
use Rattle.vd_ring.specs.declared.frame.Used.{Used}
use Rattle.vd_ring.specs.declared.device.DeviceDone.{DeviceDone}
use Rattle.vd_ring.specs.declared.device.DeviceDone.TheVariants.{Rest}
use Rattle.vd_ring.specs.declared.device.DeviceNow.TheVariants as now
use Rattle.vd_ring.specs.declared.device.DeviceView.{DeviceView}
use Rattle.vd_ring.specs.History.{takes, gives, heads, running_size, chain_at, numbers, used_at, occurs, IsWhole}
use Rattle.vd_ring.proofs.Counts.{one_below, one_above, occurs_rest}
use Rattle.vd_ring.proofs.ListSteps.{number_in}
use Rattle.vd_packed_ring.specs.PackedPositions.{take_position, give_position, later}
use Rattle.vd_packed_ring.specs.PackedDevice.{DeviceNextAt, device_after_at, device_after, device_act_at, seen_to}
use Rattle.vd_packed_ring.proofs.Positions.{device_span, sum_entries}
use Rattle.vd_layout.specs.Begun.{DeviceOp, IsDeviceOp}
use Rattle.vd_layout.specs.Device.{DeviceSays}
use Rattle.vd_packed.specs.declared.device.PackedDevice.{PackedDevice}
use Rattle.vd_packed.specs.declared.device.DeviceStep.TheVariants as step
use Rattle.vd_packed.specs.DriverEnd.{packed_words}
use Rattle.vd_packed.specs.DeviceEnd.{TakesOnce, HoldsRunning, number_at, DeviceStands, device_begun, device_left}
use Rattle.vd_packed.specs.laws.DeviceEnd.{not_armed}
use Rattle.vd_packed.specs.laws.DeviceGiving.{Goes, at_step}
use Rattle.vd_packed.specs.laws.Places.{second_at, same_at}

rests_running : (table : List (Option ℕ)) (counts : List ℕ) (guesses : ℕ) (f : Frame) (s : List DeviceDone) (table' : List (Option ℕ))
    → HoldsRunning table counts guesses f s → IsWhole s → length table' ≡ length table → ((h : ℕ) → number_at table' h ≡ None)
    → HoldsRunning table' counts guesses f (Rest ∷ s)
rests_running table counts guesses f s table' h whole long none = record {
  once = record {
    each = λ k. elim (cases_lt k (length (gives s))) [
      | inl a ↦ omega (arith, whole k a, kept, one_below k (length (take (length (gives s)) (takes s))) (omega (arith, kept)))
      | inr a ↦ omega (arith, few k a, kept, one_above k (length (take (length (gives s)) (takes s))) (omega (arith, kept)))
    ];
    count = omega (arith, kept);
    as_many = length-take-le (length (gives s)) (heads s) (omega (arith, h.once.count, h.once.as_many)) ∙ sym kept;
  };
  places = long ∙ h.places;
  as_many = h.as_many;
  guessed = h.guessed;
  kept = λ k a. absurd (omega arith);
  named = λ i k there. absurd (no k (sym (none i) ∙ there));
  counted = λ k d a. absurd (omega arith);
}
  where
    kept : length (take (length (gives s)) (takes s)) ≡ length (gives s)
    kept = length-take-le (length (gives s)) (takes s) (omega (arith, h.once.count))

    no : (k : ℕ) → None ≡ Some k → ⊥
    no k e = cc e

    -- what is given and whole has no other number
    few : (k : ℕ) → length (gives s) ≤ k → occurs k (numbers (gives s)) ≡ 0
    few k a = omega (
      arith,
      occurs_rest (length (gives s)) k (numbers (gives s)) a (λ j b. omega (arith, whole j b)),
      length-map (gives s) (λ (u : Used). u.number),
    )

-- a rest leaves the position of what was given, and what is taken ends there
rest_give_position : (f : Frame) (s : List DeviceDone) → TakesOnce (Rest ∷ s) → give_position f (Rest ∷ s) ≡ give_position f s
rest_give_position f s once = sum_entries (λ u. needs f.features (chain_at (takes (Rest ∷ s)) u.number))
    (λ u. needs f.features (chain_at (takes s) u.number)) (gives s)
    (λ j a. ap (needs f.features) (get_or-take (length (gives s)) (takes s) (used_at (gives s) j).number [] (below j a)))
  where
    below : (j : ℕ) → j < length (gives s) → (used_at (gives s) j).number < length (gives s)
    below j a = elim (cases_lt (used_at (gives s) j).number (length (gives s))) [
      | inl b ↦ b
      | inr b ↦ absurd (omega (
        arith,
        once.each (used_at (gives s) j).number,
        number_in (gives s) j a,
        once.count,
        one_above (used_at (gives s) j).number (length (take (length (gives s)) (takes s))) (omega (arith, once.count)),
      ))
    ]

rest_take_position : (f : Frame) (s : List DeviceDone) → TakesOnce (Rest ∷ s) → take_position f (Rest ∷ s) ≡ give_position f s
rest_take_position f s once = let none : running_size f (Rest ∷ s) ≡ 0 = refl in
    omega (arith, device_span f (Rest ∷ s) once.each, rest_give_position f s once, none)

-- the chains that are kept are as short as they were
rest_few : (f : Frame) (s : List DeviceDone) → ((k : ℕ) → needs f.features (chain_at (takes s) k) ≤ 16) → (k : ℕ)
    → needs f.features (chain_at (takes (Rest ∷ s)) k) ≤ 16
rest_few f s few k = elim (cases_lt k (length (gives s))) [
  | inl a ↦ subst (λ (c : List Piece). needs f.features c ≤ 16) (sym (get_or-take (length (gives s)) (takes s) k [] a)) (few k)
  | inr a ↦ subst (λ (c : List Piece). needs f.features c ≤ 16)
      (sym (get_or_past (take (length (gives s)) (takes s)) k [] (omega (arith, length_take_most (length (gives s)) (takes s)))))
      (subst (λ (c : List Piece). needs f.features c ≤ 16) (get_or_past (takes s) (length (takes s)) [] (omega arith))
      (few (length (takes s))))
]
  where
    length_take_most : (n : ℕ) (cs : List (List Piece)) → length (take n cs) ≤ n
    length_take_most n cs = omega (arith, length-take n cs)

pub rest_goes : (e e2 : PackedDevice) (v : DeviceView) (r : ℕ) → e.doing ≡ step.RestLook → DeviceStands e v
    → length e2.running.items ≡ length e.running.items → ((h : ℕ) → number_at e2.running.items h ≡ None)
    → Goes e (record e { taken = e.given; next = e.used; next_position = e.used_position; running = e2.running; doing = step.Resting })
    v op.Rest (Load (2 * e.next.place + 1)) r act.Rested
rest_goes e e2 v r is st long none =
    let f : Frame = v.frame in let s : List DeviceDone = v.done in
    let t = at_step e v step.RestLook is st in
    let p : ℕ = 2 * e.next.place + 1 in
    let held = rests_running e.running.items e.counts.items (length e.guesses.items) f s e2.running.items st.holds t.0.1 long none in
    let ends : take_position f (Rest ∷ s) ≡ give_position f s = rest_take_position f s held.once in
    let e' : PackedDevice = record e {
      taken = e.given;
      next = e.used;
      next_position = e.used_position;
      running = e2.running;
      doing =
          step.Resting;
    } in
    let is_after : device_after v op.Rest (Load p) r ≡ record v {
      done = Rest ∷ s;
      seen = later v.seen (seen_to v r);
      doing =
          now.Idle;
    } = ap (λ d. device_after_at d v op.Rest (Load p) r) t.0.0 in
    record {
      of_it = subst (λ d. IsDeviceOp (device_begun d) op.Rest) (sym is) refl;
      next = subst (λ d. DeviceNextAt d v op.Rest (Load p)) (sym t.0.0) (second_at e.next f.size (take_position f s) st.counts.next_at);
      stands = subst (λ w. DeviceStands e' w) (sym is_after) record {
        made = st.made;
        counts = record {
          takes = omega (arith, st.counts.gives, held.once.count);
          gives = st.counts.gives;
          next_at = same_at e.used f.size (give_position f s) (take_position f (Rest ∷ s)) (sym ends) st.counts.used_at;
          used_at = same_at e.used f.size (give_position f s) (give_position f (Rest ∷ s)) (sym (rest_give_position f s held.once))
              st.counts.used_at;
          next_is = st.counts.used_is ∙ sym ends;
          used_is = st.counts.used_is ∙ sym (rest_give_position f s held.once);
          few = rest_few f s st.counts.few;
        };
        holds = held;
        kick = st.kick;
        signals = record {
          is_armed = not_armed e v st t.1
              ∙ sym (ap (λ (y : Bool). if y then Some (take_position f (Rest ∷ s)) else None) t.1);
          hears = st.signals.hears;
          rings =
              st.signals.rings;
          few = t.2;
          awake = t.1;
        };
        doing = (refl, refl, t.0.1);
      };
      is = sym (ap (λ d. device_act_at d v op.Rest (Load p) r) t.0.0);
      left = subst (λ d. 0 < device_left d (length e.pieces.items)) (sym is) (let y : 0 < 1 = omega arith in y);
      says = subst (λ d. DeviceSays packed_words act.Rested (device_begun d) DeviceOp.idle f s (device_after v op.Rest (Load p) r).done)
          (sym is) (refl, refl, ap (λ (w : DeviceView). w.done) is_after, t.0.1);
      rests = refl;
    }
