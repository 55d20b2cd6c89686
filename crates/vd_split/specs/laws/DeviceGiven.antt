-- The store of the used index is a step of the device's end: it gives the chain back.
use Rattle.std.proofs.Common.{◌≡◌, ℕ, ◌+◌, ◌%◌, ◌<◌, ◌≤◌, true, nat_lt, List, [], ◌∷◌, ◌++◌, length, Option, Some, None, slice_index, slice_set, refl, sym, ap, ◌∙◌, subst, arith, inl, inr, false}
use Rattle.std.specs.Vec.{with_item}
use Rattle.std.proofs.lemmas.Bool.{cases_lt, cases_eq}
use Rattle.std.proofs.lemmas.List.{length_push, length-set, get_or-set_same, get_or-set_other}
use Rattle.vd_bits.specs.Lanes.{lane32, set_lane16}
use Rattle.vd_words.specs.declared.access.Access.TheVariants.{Store}
use Rattle.vd_words.specs.declared.access.Op.TheVariants as op
use Rattle.vd_ring.specs.declared.act.DeviceAct.TheVariants as act
use Rattle.vd_ring.specs.declared.frame.Frame.{Frame}
use Rattle.vd_ring.specs.declared.frame.Used.{Used}
use Rattle.vd_ring.specs.declared.device.DeviceDone.{DeviceDone}
use Rattle.vd_ring.specs.declared.device.DeviceDone.TheVariants.{Give}
use Rattle.vd_ring.specs.declared.device.DeviceNow.TheVariants as now
use Rattle.vd_ring.specs.declared.device.DeviceView.{DeviceView}
use Rattle.vd_ring.specs.History.{takes, gives, running, taken_head, given, with_head, batch, chain_at, entry, last_used, occurs}
use Rattle.vd_ring.proofs.Counts.{one_same, one_other, one_small, one_above, occurs_without, length_without, with_head_is, Contains_from}
use Rattle.vd_ring.proofs.HeldPlaces.{numbers_push}
use Rattle.vd_ring.proofs.ListSteps.{batch_one}
use Rattle.vd_split_ring.specs.SplitWords.{used_from}
use Rattle.vd_split_ring.specs.SplitDevice.{DeviceNextAt, device_after_at, device_after, device_act_at}
use Rattle.vd_split_ring.proofs.Areas.{areas}
use Rattle.vd_layout.proofs.OnePair.{were_given}
use Rattle.vd_layout.specs.Begun.{IsDeviceOp, DeviceOp}
use Rattle.vd_layout.specs.Device.{DeviceSays}
use Rattle.vd_split.specs.declared.device.SplitDevice.{SplitDevice}
use Rattle.vd_split.specs.declared.device.DeviceStep.TheVariants as step
use Rattle.vd_split.specs.DriverEnd.{split_words}
use Rattle.vd_split.specs.DeviceEnd.{DeviceStepArmed, device_owes, HoldsRunning, number_at, IsNext, DeviceStands, DeviceStepStands, device_begun, device_left}
use Rattle.vd_split.specs.Parts.{next_place, used_area}
use Rattle.vd_split.specs.laws.Plans.{next_mod, copies_set}
use Rattle.vd_split.specs.laws.DeviceSteps.{Goes, used_below}

-- ---- the store of the index

-- what the stored words give
pub gives_one : (f : Frame) (s : List DeviceDone) (table : List (Option ℕ)) (guesses id len k : ℕ) → HoldsRunning table guesses f s
    → 1 ≤ occurs k (running s) → taken_head s k ≡ id → (f.features.in_order ≡ true → k ≡ length (gives s))
    → given f s id len ≡ entry k len ∷ []
gives_one f s table guesses id len k h runs is ordered =
    let number : with_head (taken_head s) (running s) id ≡ k =
    with_head_is (taken_head s) (running s) id k is runs
    (λ j a e. same (Some j) (Some k) j k refl refl (sym (h.kept j a) ∙ ap (number_at table) (e ∙ sym is) ∙ h.kept k runs)) in
    ap (λ j. batch f (chain_at (takes s)) (length (gives s)) j len) number
    ∙ batch_one f (chain_at (takes s)) (length (gives s)) k len ordered
  where
    same : (a b : Option ℕ) (j k : ℕ) → a ≡ Some j → b ≡ Some k → a ≡ b → j ≡ k
    same a b j k x y z = cc

-- a chain that is given runs no longer
pub holds_fewer : (table : List (Option ℕ)) (guesses head number len : ℕ) (f : Frame) (s : List DeviceDone)
    → HoldsRunning table guesses f s → 1 ≤ occurs number (running s) → taken_head s number ≡ head → head < f.size
    → HoldsRunning (slice_set table head None) guesses f (Give (entry number len ∷ []) ∷ s)
holds_fewer table guesses head number len f s h runs is inside = record {
  once = record {
    each = λ k. omega (arith, h.once.each k, occurs_without k number (running s) runs, numbers_push (gives s) (entry number len) k);
    count = omega (arith, h.once.count, length_push (gives s) (entry number len), length_without number (running s) runs);
    as_many = h.once.as_many;
  };
  places = length-set table head None ∙ h.places;
  guessed = h.guessed;
  kept = λ k a.
      let old : 1 ≤ occurs k (running s) = omega (arith, a, occurs_without k number (running s) runs) in
      elim (cases_eq number k) [
        | inl e ↦ absurd (omega (arith, a, occurs_without k number (running s) runs, one_same number k e, once_running k))
        | inr ne ↦ get_or-set_other table head (taken_head s k) None None (λ e. ne (same k old e)) ∙ h.kept k old
      ];
  named = λ i k there. elim (cases_eq i head) [
    | inl e ↦ absurd (no k (sym (get_or-set_same table head None None (omega (arith, h.places)))
        ∙ ap (number_at (slice_set table head None)) (sym e) ∙ there))
    | inr ne ↦ (
        let was = h.named i k (sym (get_or-set_other table head i None None ne) ∙ there) in (
          elim (cases_eq number k) [
            | inl e ↦ absurd (ne (sym was.1 ∙ ap (taken_head s) (sym e) ∙ is))
            | inr nk ↦ omega (arith, was.0, occurs_without k number (running s) runs, one_other number k nk)
          ],
          was.1,
        )
        )
  ];
}
  where
    no : (k : ℕ) → None ≡ Some k → ⊥
    no k e = cc e

    some_same : (a b : Option ℕ) (j k : ℕ) → a ≡ Some j → b ≡ Some k → a ≡ b → j ≡ k
    some_same a b j k x y z = cc

    same : (k : ℕ) → 1 ≤ occurs k (running s) → taken_head s k ≡ head → number ≡ k
    same k a e = some_same (Some number) (Some k) number k refl refl (sym (h.kept number runs) ∙ ap (number_at table) (is ∙ sym e)
        ∙ h.kept k a)

    once_running : (k : ℕ) → occurs k (running s) ≤ 1
    once_running k = elim (cases_lt k (length (takes s))) [
      | inl a ↦ omega (arith, h.once.each k, one_small (nat_lt k (length (takes s))))
      | inr a ↦ omega (arith, h.once.each k, one_above k (length (takes s)) a)
    ]

pub publish_goes : (e : SplitDevice) (v : DeviceView) (r number head len x : ℕ) → e.doing ≡ step.StoreIndex number head len
    → DeviceStands e v
    → x ≡ set_lane16 (slice_index e.area.items 0) 1 ((e.given + 1) % 65536)
    → Goes e (record e {
      given = e.given + 1;
      used = next_place e.used e.size;
      running = with_item e.running head None;
      area =
          with_item e.area 0 x;
      doing = step.Check e.given (e.given + 1);
    }) v op.Give (Store (used_area e.size) x) r (act.Given number)
publish_goes e v r number head len x is st word =
    let f : Frame = v.frame in let s : List DeviceDone = v.done in
    let n : DeviceStepStands (step.StoreIndex number head len) e.pieces.items e.addr f s v.doing =
    subst (λ t. DeviceStepStands t e.pieces.items e.addr f s v.doing) is st.doing in
    let a : ℕ = n.0 in let b : ℕ = n.1 in let next : IsNext f s number head len = n.5 in
    let us : List Used = given f s (lane32 a 1) (lane32 b 0) in
    let one : us ≡ entry number len ∷ [] =
    gives_one f s e.running.items (length e.guesses.items) (lane32 a 1) (lane32 b 0) number st.holds next.runs
    (next.is_head ∙ sym n.3) next.in_order ∙ ap (λ k. entry number k ∷ []) n.4 in
    let off : e.armed ≡ false = subst (λ t. DeviceStepArmed t e.armed) is st.signals.awake in
    let below = used_below e v st in
    let p : ℕ = used_from f + 0 in
    let longer = length_push (gives s) (entry number len) in
    let value : x ≡ set_lane16 (slice_index v.stored p) 1 (length (gives s ++ us) % 65536) =
    word ∙ ap (λ w. set_lane16 w 1 ((e.given + 1) % 65536)) (st.area.same 0 (omega (arith, st.area.as_many)))
    ∙ ap (λ k. set_lane16 (slice_index v.stored p) 1 (k % 65536)) (let z : e.given + 1 ≡ length (gives s ++ entry number len ∷ []) =
    omega (arith, st.counts.gives, longer) in z)
    ∙ ap (λ (ys : List Used). set_lane16 (slice_index v.stored p) 1 (length (gives s ++ ys) % 65536)) (sym one) in
    let e' : SplitDevice = record e {
      given = e.given + 1;
      used = next_place e.used e.size;
      running = with_item e.running head None;
      area = with_item e.area 0 x;
      doing = step.Check e.given (e.given + 1);
    } in
    let is_after : device_after v op.Give (Store p x) r ≡ record v {
      done = Give (entry number len ∷ []) ∷ s;
      stored =
          slice_set v.stored p x;
      doing = now.Checking (length (gives s)) (length (gives s ++ entry number len ∷ []));
    } =
    ap (λ t. device_after_at t v op.Give (Store p x) r) n.2
    ∙ ap (λ (ys : List Used). record v {
      done = Give ys ∷ s;
      stored = slice_set v.stored p x;
      doing =
          now.Checking (length (gives s)) (length (gives s ++ ys));
    }) one in
    let z : used_from f + 0 ≡ used_area e.size = omega (arith, ap used_area (sym st.made.sized)) in
    subst (λ q. Goes e e' v op.Give (Store q x) r (act.Given number)) z record {
      next = subst (λ t. DeviceNextAt t v op.Give (Store p x)) (sym n.2) record {
        place =
            (let y : used_from f + 0 ≡ used_from f = omega arith in y);
        word = value;
      };
      stands = subst (λ t. DeviceStands e' t) (sym is_after) record {
        made = st.made;
        counts = record {
          takes = st.counts.takes;
          gives = omega (arith, st.counts.gives, longer);
          entry_at = st.counts.entry_at;
          used_at = ap (λ k. next_place k e.size) st.counts.used_at ∙ ap (λ k. next_place (length (gives s) % f.size) k) st.made.sized
              ∙ next_mod (length (gives s)) f.size st.made.lawful.some_place ∙ ap (λ k. k % f.size) (sym longer);
        };
        holds = holds_fewer e.running.items (length e.guesses.items) head number len f s st.holds next.runs next.is_head next.inside;
        area = copies_set (used_from f) (f.size + 1) e.area.items v.stored 0 x st.area (omega arith) (omega (arith, st.wide, areas f));
        wide = length-set v.stored p x ∙ st.wide;
        shown = st.shown;
        kick = st.kick;
        signals = record {
          is_armed = st.signals.is_armed;
          hears = st.signals.hears;
          rings = st.signals.rings;
          few =
              omega (arith, subst (λ t. e.bells + device_owes t ≤ e.given) is st.signals.few);
          awake = off;
        };
        doing = (
          ap (λ k. now.Checking k (length (gives s ++ entry number len ∷ []))) (sym st.counts.gives)
              ∙ ap (now.Checking e.given) (let y : length (gives s ++ entry number len ∷ []) ≡ e.given + 1 =
              omega (arith, st.counts.gives, longer) in y),
          omega arith,
          omega arith,
        );
      };
      is = sym (ap (λ t. device_act_at t v op.Give (Store p x) r) n.2 ∙ ap (λ (ys : List Used). act.Given (last_used ys).number) one);
      of_it = subst (λ t. IsDeviceOp (device_begun t) op.Give) (sym is) refl;
      left = subst (λ t. 2 < device_left t (length e.pieces.items)) (sym is) (let y : 2 < 3 = omega arith in y);
      says = subst (λ t. DeviceSays split_words (act.Given number) (device_begun t) DeviceOp.signal f s
          (device_after v op.Give (Store p x) r).done) (sym is) (
            len,
            entry number len ∷ [],
            refl,
            inr refl,
            ap (λ (w : DeviceView). w.done) is_after,
            were_given f s number len (Contains_from number (running s) next.runs) next.in_order,
          );
      rests = refl;
    }
