-- The look of a rest is a step of the device's end.
use Rattle.std.proofs.Common.{◌≡◌, ℕ, ◌*◌, ◌%◌, ◌<◌, ◌≤◌, List, ◌∷◌, length, take, Option, Some, None, refl, sym, ap, ◌∙◌, subst, arith, inl, inr, Bool, false, if◌then◌else◌}
use Rattle.std.proofs.lemmas.Bool.{cases_lt}
use Rattle.std.proofs.lemmas.List.{length-map, length-take-le}
use Rattle.vd_words.specs.declared.access.Access.TheVariants.{Load}
use Rattle.vd_words.specs.declared.access.Op.TheVariants as op
use Rattle.vd_ring.specs.declared.act.DeviceAct.TheVariants as act
use Rattle.vd_ring.specs.declared.frame.Frame.{Frame}
use Rattle.vd_ring.specs.declared.frame.Used.{Used}
use Rattle.vd_ring.specs.declared.device.DeviceDone.{DeviceDone}
use Rattle.vd_ring.specs.declared.device.DeviceDone.TheVariants.{Rest}
use Rattle.vd_ring.specs.declared.device.DeviceView.{DeviceView}
use Rattle.vd_ring.specs.History.{takes, gives, heads, numbers, occurs, IsWhole}
use Rattle.vd_ring.proofs.Counts.{one_below, one_above, occurs_rest}
use Rattle.vd_split_ring.specs.SplitWords.{lane_word}
use Rattle.vd_split_ring.specs.SplitDevice.{DeviceNextAt, device_after_at, device_after, device_act_at}
use Rattle.vd_layout.specs.Begun.{IsDeviceOp, DeviceOp}
use Rattle.vd_layout.specs.Device.{DeviceSays}
use Rattle.vd_split.specs.declared.device.SplitDevice.{SplitDevice}
use Rattle.vd_split.specs.declared.device.DeviceStep.TheVariants as step
use Rattle.vd_split.specs.DriverEnd.{split_words}
use Rattle.vd_split.specs.DeviceEnd.{DeviceStepArmed, HoldsRunning, number_at, DeviceStands, DeviceStepStands, device_begun, device_left}
use Rattle.vd_split.specs.laws.DeviceEnd.{not_armed}
use Rattle.vd_split.specs.laws.DeviceSteps.{Goes}

-- ---- the look of a rest

rests_running : (table : List (Option ℕ)) (guesses : ℕ) (f : Frame) (s : List DeviceDone) (table' : List (Option ℕ))
    → HoldsRunning table guesses f s → IsWhole s → length table' ≡ length table → ((h : ℕ) → number_at table' h ≡ None)
    → HoldsRunning table' guesses f (Rest ∷ s)
rests_running table guesses f s table' h whole long none = record {
  once = record {
    each = λ k. elim (cases_lt k (length (gives s))) [
      | inl a ↦ omega (arith, whole k a, kept, one_below k (length (take (length (gives s)) (takes s))) (omega (arith, kept)))
      | inr a ↦ omega (arith, few k a, kept, one_above k (length (take (length (gives s)) (takes s))) (omega (arith, kept)))
    ];
    count = omega (arith, kept);
    as_many = length-take-le (length (gives s)) (heads s) (omega (arith, h.once.count, h.once.as_many)) ∙ sym kept;
  };
  places = long ∙ h.places;
  guessed = h.guessed;
  kept = λ k a. absurd (omega arith);
  named = λ i k there. absurd (no k (sym (none i) ∙ there));
}
  where
    kept : length (take (length (gives s)) (takes s)) ≡ length (gives s)
    kept = length-take-le (length (gives s)) (takes s) (omega (arith, h.once.count))

    no : (k : ℕ) → None ≡ Some k → ⊥
    no k e = cc e

    -- what is given and whole has no other number
    few : (k : ℕ) → length (gives s) ≤ k → occurs k (numbers (gives s)) ≡ 0
    few k a = omega (
      arith,
      occurs_rest (length (gives s)) k (numbers (gives s)) a (λ j b. omega (arith, whole j b)),
      length-map (gives s) (λ (u : Used). u.number),
    )

pub rest_goes : (e e2 : SplitDevice) (v : DeviceView) (r : ℕ) → e.doing ≡ step.RestLook → DeviceStands e v
    → length e2.running.items ≡ length e.running.items → ((h : ℕ) → number_at e2.running.items h ≡ None)
    → Goes e (record e { taken = e.given; entry = e.used; running = e2.running; doing = step.Resting }) v op.Rest
    (Load (2 * e.size)) r act.Rested
rest_goes e e2 v r is st long none =
    let f : Frame = v.frame in let s : List DeviceDone = v.done in
    let n : DeviceStepStands step.RestLook e.pieces.items e.addr f s v.doing =
    subst (λ t. DeviceStepStands t e.pieces.items e.addr f s v.doing) is st.doing in
    let off : e.armed ≡ false = subst (λ t. DeviceStepArmed t e.armed) is st.signals.awake in
    let p : ℕ = 2 * e.size in
    let len : length (take (length (gives s)) (takes s)) ≡ length (gives s) =
    length-take-le (length (gives s)) (takes s) (omega (arith, st.holds.once.count)) in
    let here : p ≡ lane_word f 1 = omega (arith, st.made.sized) in
    let e' : SplitDevice = record e { taken = e.given; entry = e.used; running = e2.running; doing = step.Resting } in
    let is_after = ap (λ t. device_after_at t v op.Rest (Load p) r) n.0 in
    record {
      next = subst (λ t. DeviceNextAt t v op.Rest (Load p)) (sym n.0) here;
      stands = subst (λ t. DeviceStands e' t) (sym is_after) record {
        made = st.made;
        counts = record {
          takes = st.counts.gives ∙ sym len;
          gives = st.counts.gives;
          entry_at = st.counts.used_at ∙ ap (λ k. k % f.size) (sym len);
          used_at = st.counts.used_at;
        };
        holds = rests_running e.running.items (length e.guesses.items) f s e2.running.items st.holds n.1 long none;
        area = st.area;
        wide = st.wide;
        shown = st.shown;
        kick = st.kick;
        signals = record {
          is_armed = not_armed e v st off
              ∙ sym (ap (λ (b : Bool). if b then Some (length (takes (Rest ∷ s))) else None) off);
          hears = st.signals.hears;
          rings =
              st.signals.rings;
          few = omega (arith, st.signals.few);
          awake = off;
        };
        doing = (refl, refl, n.1);
      };
      is = sym (ap (λ t. device_act_at t v op.Rest (Load p) r) n.0);
      of_it = subst (λ t. IsDeviceOp (device_begun t) op.Rest) (sym is) refl;
      left = subst (λ t. 0 < device_left t (length e.pieces.items)) (sym is) (let y : 0 < 1 = omega arith in y);
      says = subst (λ t. DeviceSays split_words act.Rested (device_begun t) DeviceOp.idle f s (device_after v op.Rest (Load p) r).done)
          (sym is) (refl, refl, ap (λ (w : DeviceView). w.done) is_after, n.1);
      rests = refl;
    }
