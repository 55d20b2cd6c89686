-- The step of a give: it is next in a view that the end stands for, and the end stands for the view after it.
use Rattle.std.proofs.Common.{◌≡◌, ℕ, ◌+◌, ◌*◌, ◌<◌, ◌≤◌, true, false, nat_lt, List, [], ◌∷◌, length, Option, Some, None, slice_index_or, slice_set, refl, sym, ap, ◌∙◌, subst, arith, inl, inr}
use Rattle.std.specs.Vec.{with_item}
use Rattle.std.proofs.lemmas.Bool.{cases_lt, cases_eq}
use Rattle.std.proofs.lemmas.List.{length_push, length-set, get_or-set_same, get_or-set_other}
use Rattle.vd_model.specs.Chains.{needs}
use Rattle.vd_words.specs.declared.access.Access.{Access}
use Rattle.vd_words.specs.declared.access.Access.TheVariants.{Store}
use Rattle.vd_words.specs.declared.access.Op.{Op}
use Rattle.vd_words.specs.declared.access.Op.TheVariants as op
use Rattle.vd_words.specs.Model.{PortModel}
use Rattle.vd_ring.specs.declared.act.DeviceAct.{DeviceAct}
use Rattle.vd_ring.specs.declared.act.DeviceAct.TheVariants as act
use Rattle.vd_ring.specs.declared.frame.Frame.{Frame}
use Rattle.vd_ring.specs.declared.frame.Used.{Used}
use Rattle.vd_ring.specs.declared.device.DeviceDone.{DeviceDone}
use Rattle.vd_ring.specs.declared.device.DeviceDone.TheVariants.{Give}
use Rattle.vd_ring.specs.declared.device.DeviceNow.TheVariants as now
use Rattle.vd_ring.specs.declared.device.DeviceView.{DeviceView}
use Rattle.vd_ring.specs.History.{takes, gives, heads, running, running_size, taken_head, given, with_head, batch, chain_at, entry, last_used, numbers, used_at, occurs, IsWhole}
use Rattle.vd_ring.proofs.Counts.{one_same, one_other, one_small, one_below, one_above, occurs_rest, occurs_without, length_without, with_head_is, Contains_from}
use Rattle.vd_ring.proofs.HeldPlaces.{numbers_push}
use Rattle.vd_ring.proofs.ListSteps.{batch_one, may_return}
use Rattle.vd_packed_ring.specs.PackedWords.{second_word, used_word, id_of, len_of}
use Rattle.vd_packed_ring.specs.PackedPositions.{take_position, give_position}
use Rattle.vd_packed_ring.specs.PackedDevice.{DeviceNextAt, DeviceNext, device_after_at, device_after, device_act, device_act_at}
use Rattle.vd_packed_ring.proofs.Positions.{give_position_given}
use Rattle.vd_packed_ring.proofs.WordFacts.{used_id, used_len}
use Rattle.vd_layout.proofs.OnePair.{were_given}
use Rattle.vd_layout.specs.Begun.{DeviceOp, IsDeviceOp}
use Rattle.vd_layout.specs.Device.{DeviceSays, IsDeviceStep, is_rested}
use Rattle.vd_packed.specs.declared.device.PackedDevice.{PackedDevice}
use Rattle.vd_packed.specs.declared.device.DeviceStep.{DeviceStep}
use Rattle.vd_packed.specs.declared.device.DeviceStep.TheVariants as step
use Rattle.vd_packed.specs.DriverEnd.{packed_words}
use Rattle.vd_packed.specs.DeviceEnd.{HoldsRunning, IsCount, number_at, IsNext, DeviceStands, DeviceStepStands, DeviceStepArmed, device_owes, device_begun, device_left, is_resting, packed_device}
use Rattle.vd_packed.specs.laws.DeviceEnd.{not_armed}
use Rattle.vd_packed.specs.laws.Bounds.{few_used}
use Rattle.vd_packed.specs.laws.Places.{ring_position_below, second_at, same_at, forward_at, used_second_at}
use Rattle.vd_packed.specs.Seconds.{used_second}
use Rattle.vd_packed.specs.RingPositions.{IsAt, forward}

-- what one step of the end owes in a view
pub record Goes (e e' : PackedDevice) (v : DeviceView) (o : Op) (a : Access) (r : ℕ) (answer : DeviceAct) : Type 0 where
  pub of_it : IsDeviceOp (device_begun e.doing) o
  pub next : DeviceNext v o a
  pub stands : DeviceStands e' (device_after v o a r)
  pub is : answer ≡ device_act v o a r
  pub left : device_left e'.doing (length e'.pieces.items) < device_left e.doing (length e.pieces.items)
  pub says : DeviceSays packed_words answer (device_begun e.doing) (device_begun e'.doing) v.frame v.done (device_after v o a r).done
  pub rests : is_resting e'.doing ≡ is_rested answer

pub made : {P : Type 0} (port : PortModel P) (p q : P) (e e' : PackedDevice) (v : DeviceView) (o : Op) (a : Access) (r : ℕ)
    (answer : DeviceAct) → Goes e e' v o a r answer → port.moves p o a r q → IsDeviceStep port packed_device p q v e e' answer
made port p q e e' v o a r answer go moved = record {
  op = o;
  access = a;
  got = r;
  of_it = go.of_it;
  was_next = go.next;
  moved = moved;
  now_stands = go.stands;
  is_answer = go.is;
  left = go.left;
  says = go.says;
  rests = go.rests;
}

pub size_facts : (e : PackedDevice) (v : DeviceView) → DeviceStands e v → (0 < e.size) × (e.size ≤ 32768) × (e.size ≡ v.frame.size)
size_facts e v st = (omega (arith, st.made.sized, st.made.lawful.least), omega (arith, st.made.sized, st.made.lawful.most), st.made.sized)

-- the two ring_positions are the ring's
pub ring_positions_below : (e : PackedDevice) (v : DeviceView) → DeviceStands e v → (e.next.place < e.size) × (e.used.place < e.size)
ring_positions_below e v st =
    let some : 0 < v.frame.size = omega (arith, st.made.lawful.least) in (
      omega (arith, ring_position_below e.next v.frame.size (take_position v.frame v.done) some st.counts.next_at, st.made.sized),
      omega (arith, ring_position_below e.used v.frame.size (give_position v.frame v.done) some st.counts.used_at, st.made.sized),
    )

-- what a step's stage says
pub at_step : (e : PackedDevice) (v : DeviceView) (t : DeviceStep) → e.doing ≡ t → DeviceStands e v
    → DeviceStepStands t e.pieces.items e.second e.at v.frame v.done v.doing × DeviceStepArmed t e.armed
    × (e.bells + device_owes t ≤ e.given)
at_step e v t is st = (
  subst (λ s. DeviceStepStands s e.pieces.items e.second e.at v.frame v.done v.doing) is st.doing,
  subst (λ s. DeviceStepArmed s e.armed) is st.signals.awake,
  subst (λ s. e.bells + device_owes s ≤ e.given) is st.signals.few,
)

-- ---- the store of a used descriptor

-- what the stored word gives
pub gives_one : (f : Frame) (s : List DeviceDone) (table : List (Option ℕ)) (counts : List ℕ) (guesses id len k : ℕ)
    → HoldsRunning table counts guesses f s → 1 ≤ occurs k (running s) → taken_head s k ≡ id
    → (f.features.in_order ≡ true → k ≡ length (gives s)) → given f s id len ≡ entry k len ∷ []
gives_one f s table counts guesses id len k h runs is ordered =
    let number : with_head (taken_head s) (running s) id ≡ k =
    with_head_is (taken_head s) (running s) id k is runs
    (λ j a e. same (Some j) (Some k) j k refl refl (sym (h.kept j a) ∙ ap (number_at table) (e ∙ sym is) ∙ h.kept k runs)) in
    ap (λ j. batch f (chain_at (takes s)) (length (gives s)) j len) number
    ∙ batch_one f (chain_at (takes s)) (length (gives s)) k len ordered
  where
    same : (a b : Option ℕ) (j k : ℕ) → a ≡ Some j → b ≡ Some k → a ≡ b → j ≡ k
    same a b j k x y z = cc

-- a chain that is given runs no longer
pub holds_fewer : (table : List (Option ℕ)) (counts : List ℕ) (guesses head number len : ℕ) (f : Frame) (s : List DeviceDone)
    → HoldsRunning table counts guesses f s → 1 ≤ occurs number (running s) → taken_head s number ≡ head → head < f.size
    → HoldsRunning (slice_set table head None) counts guesses f (Give (entry number len ∷ []) ∷ s)
holds_fewer table counts guesses head number len f s h runs is inside = record {
  once = record {
    each = λ k. omega (arith, h.once.each k, occurs_without k number (running s) runs, numbers_push (gives s) (entry number len) k);
    count = omega (arith, h.once.count, length_push (gives s) (entry number len), length_without number (running s) runs);
    as_many = h.once.as_many;
  };
  places = length-set table head None ∙ h.places;
  as_many = h.as_many;
  guessed = h.guessed;
  kept = λ k a.
      let old = before k a in
      elim (cases_eq number k) [
        | inl e ↦ absurd (omega (arith, a, occurs_without k number (running s) runs, one_same number k e, once_running k))
        | inr ne ↦ get_or-set_other table head (taken_head s k) None None (λ e. ne (same k old e)) ∙ h.kept k old
      ];
  named = λ i k there. elim (cases_eq i head) [
    | inl e ↦ absurd (no k (sym (get_or-set_same table head None None (omega (arith, h.places)))
        ∙ ap (number_at (slice_set table head None)) (sym e) ∙ there))
    | inr ne ↦ (
        let was = h.named i k (sym (get_or-set_other table head i None None ne) ∙ there) in (
          elim (cases_eq number k) [
            | inl e ↦ absurd (ne (sym was.1 ∙ ap (taken_head s) (sym e) ∙ is))
            | inr nk ↦ omega (arith, was.0, occurs_without k number (running s) runs, one_other number k nk)
          ],
          was.1,
        )
        )
  ];
  counted = λ k d a. h.counted k d (before k a);
}
  where
    no : (k : ℕ) → None ≡ Some k → ⊥
    no k e = cc e

    some_same : (a b : Option ℕ) (j k : ℕ) → a ≡ Some j → b ≡ Some k → a ≡ b → j ≡ k
    some_same a b j k x y z = cc

    before : (k : ℕ) → 1 ≤ occurs k (Rattle.vd_ring.specs.History.without number (running s)) → 1 ≤ occurs k (running s)
    before k a = omega (arith, a, occurs_without k number (running s) runs)

    same : (k : ℕ) → 1 ≤ occurs k (running s) → taken_head s k ≡ head → number ≡ k
    same k a e = some_same (Some number) (Some k) number k refl refl (sym (h.kept number runs) ∙ ap (number_at table) (is ∙ sym e)
        ∙ h.kept k a)

    once_running : (k : ℕ) → occurs k (running s) ≤ 1
    once_running k = elim (cases_lt k (length (takes s))) [
      | inl a ↦ omega (arith, h.once.each k, one_small (nat_lt k (length (takes s))))
      | inr a ↦ omega (arith, h.once.each k, one_above k (length (takes s)) a)
    ]

-- the count at the head of a chain that may be given
pub give_facts : (e : PackedDevice) (v : DeviceView) (number head len : ℕ) → e.doing ≡ step.Give number head len → DeviceStands e v
    → (head < 65536) × (head < length e.counts.items) × (head < length e.running.items)
    × ((d : ℕ) → IsCount (slice_index_or e.counts.items head d) v.frame v.done number) × (v.doing ≡ now.Idle)
    × IsNext v.frame v.done number head len
give_facts e v number head len is st =
    let f : Frame = v.frame in let s : List DeviceDone = v.done in
    let n : DeviceStepStands (step.Give number head len) e.pieces.items e.second e.at f s v.doing =
    subst (λ t. DeviceStepStands t e.pieces.items e.second e.at f s v.doing) is st.doing in (
      omega (arith, n.1.inside, st.made.lawful.most),
      omega (arith, n.1.inside, st.holds.as_many),
      omega (arith, n.1.inside, st.holds.places),
      λ d. subst (λ (k : ℕ). IsCount (slice_index_or e.counts.items k d) f s number) n.1.is_head (st.holds.counted number d n.1.runs),
      n.0,
      n.1,
    )

-- its position fits 64 bits
pub given_fits : (e : PackedDevice) (v : DeviceView) (number count : ℕ) → DeviceStands e v
    → count ≡ needs v.frame.features (chain_at (takes v.done) number) → e.given < 4294967296 → e.used_position + count < 1000000000000
given_fits e v number count st sized small =
    let f : Frame = v.frame in let s : List DeviceDone = v.done in
    omega (
      arith,
      sized,
      st.counts.few number,
      st.counts.used_is,
      st.counts.gives,
      few_used (λ u. needs f.features (chain_at (takes s) u.number)) (gives s) (λ u. st.counts.few u.number),
    )

-- the number of a chain that is given now fits 32 bits, since it was taken
pub given_small : (e : PackedDevice) (v : DeviceView) (number head len : ℕ) → e.doing ≡ step.Give number head len → DeviceStands e v
    → e.given < e.taken
given_small e v number head len is st =
    let n = (give_facts e v number head len is st).5 in
    omega (
      arith,
      st.counts.takes,
      st.counts.gives,
      st.holds.once.count,
      Rattle.vd_ring.proofs.Counts.occurs_some number (running v.done) n.runs,
    )

pub give_goes : (e : PackedDevice) (v : DeviceView) (r number head len x count : ℕ) → e.doing ≡ step.Give number head len
    → DeviceStands e v → x ≡ used_second e.used.wrap head len → IsCount count v.frame v.done number
    → Goes e (record e {
      given = e.given + 1;
      used = forward e.used count e.size;
      used_position = e.used_position + count;
      running =
          with_item e.running head None;
      doing = step.Check count;
    }) v op.Give (Store (2 * e.used.place + 1) x) r (act.Given number)
give_goes e v r number head len x count is st word sized =
    let f : Frame = v.frame in let s : List DeviceDone = v.done in let q : ℕ = give_position f s in
    let facts = give_facts e v number head len is st in
    let n : IsNext f s number head len = facts.5 in
    let p : ℕ = 2 * e.used.place + 1 in
    let place : p ≡ second_word f.size q = second_at e.used f.size q st.counts.used_at in
    let value : x ≡ used_word f.size q head len = word ∙ used_second_at e.used f.size q head len st.counts.used_at in
    let id : id_of x ≡ head = ap id_of value ∙ used_id f.size q head len facts.0 n.small in
    let length_is : len_of x ≡ len = ap len_of value ∙ used_len f.size q head len n.small in
    let us : List Used = given f s (id_of x) (len_of x) in
    let one : us ≡ entry number len ∷ [] = gives_one f s e.running.items e.counts.items (length e.guesses.items) (id_of x)
    (len_of x) number st.holds n.runs (n.is_head ∙ sym id) n.in_order ∙ ap (λ k. entry number k ∷ []) length_is in
    let longer = length_push (gives s) (entry number len) in
    let s2 : List DeviceDone = Give (entry number len ∷ []) ∷ s in
    let past : give_position f s2 ≡ q + needs f.features (chain_at (takes s) number) = give_position_given f s (entry number len) in
    let e' : PackedDevice = record e {
      given = e.given + 1;
      used = forward e.used count e.size;
      used_position = e.used_position + count;
      running = with_item e.running head None;
      doing = step.Check count;
    } in
    let is_after : device_after v op.Give (Store p x) r ≡ record v {
      done = s2;
      stored = slice_set v.stored p x;
      doing =
          now.Checking q (give_position f s2);
    } =
    ap (λ t. device_after_at t v op.Give (Store p x) r) facts.4
    ∙ ap (λ (ys : List Used). record v {
      done = Give ys ∷ s;
      stored = slice_set v.stored p x;
      doing =
          now.Checking q (give_position f (Give ys ∷ s));
    }) one in
    let t = at_step e v (step.Give number head len) is st in
    let off : e.armed ≡ false = t.1 in
    let some : 0 < needs f.features (chain_at (takes s) number) = sized.2 in
    record {
      of_it = subst (λ t. IsDeviceOp (device_begun t) op.Give) (sym is) refl;
      next = subst (λ t. DeviceNextAt t v op.Give (Store p x)) (sym facts.4) (
        not_armed e v st off,
        record {
          number = number;
          runs = Contains_from number (running s) n.runs;
          next =
              may_return f (chain_at (takes s)) (length (gives s)) number n.in_order;
          len = len;
          small = n.small;
          place = place;
          word =
              value ∙ ap (λ (h : ℕ). used_word f.size q h len) (sym n.is_head);
        },
      );
      stands = subst (λ t. DeviceStands e' t) (sym is_after) record {
        made = st.made;
        counts = record {
          takes = st.counts.takes;
          gives = omega (arith, st.counts.gives, longer);
          next_at = st.counts.next_at;
          next_is = st.counts.next_is;
          used_is = omega (arith, st.counts.used_is, past, sized.0);
          few = st.counts.few;
          used_at = same_at (forward e.used count e.size) f.size (q + count) (give_position f s2) (omega (arith, past, sized.0))
              (subst (λ (m : ℕ). IsAt (forward e.used count m) f.size (q + count)) (sym st.made.sized)
              (forward_at e.used f.size q count (omega (arith, st.made.lawful.least))
              (omega (arith, sized.0, sized.1)) st.counts.used_at));
        };
        holds = holds_fewer e.running.items e.counts.items (length e.guesses.items) head number len f s st.holds n.runs n.is_head n.inside;
        kick = st.kick;
        signals = record {
          is_armed = st.signals.is_armed;
          hears = st.signals.hears;
          rings = st.signals.rings;
          few = omega (arith, t.2);
          awake = off;
        };
        doing = (q, refl, omega (arith, past, sized.0), omega (arith, sized.0, some), omega (arith, sized.0, sized.1));
      };
      is = sym (ap (λ t. device_act_at t v op.Give (Store p x) r) facts.4 ∙ ap (λ (ys : List Used). act.Given (last_used ys).number) one);
      left = subst (λ t. 2 < device_left t (length e.pieces.items)) (sym is) (let y : 2 < 3 = omega arith in y);
      says = subst (λ t. DeviceSays packed_words (act.Given number) (device_begun t) DeviceOp.signal f s
          (device_after v op.Give (Store p x) r).done) (sym is) (
            len,
            entry number len ∷ [],
            refl,
            inr refl,
            ap (λ (w : DeviceView). w.done) is_after,
            were_given f s number len (Contains_from number (running s) n.runs) n.in_order,
          );
      rests = refl;
    }
