-- What a take, a give and a rest leave of a model device.
use Rattle.std.proofs.Common.{◌≡◌, ◌≢◌, ◌↔◌, ℕ, ◌+◌, ◌<◌, ◌≤◌, ◌==◌, ◌||◌, Bool, true, false, Some, List, [], ◌∷◌, ◌++◌, length, refl, sym, ◌∙◌, ap, subst, arith, inl, inr}
use Rattle.std.proofs.lemmas.List.{length_push, nil_from_length}
use Rattle.vd_model.specs.declared.chain.Piece.{Piece}
use Rattle.vd_model.specs.declared.record.Begun.{Begun}
use Rattle.vd_words.specs.Model.{PortModel}
use Rattle.vd_ring.specs.declared.act.DeviceAct.TheVariants as act
use Rattle.vd_ring.specs.declared.device.DeviceDone.{DeviceDone}
use Rattle.vd_ring.specs.declared.device.DeviceDone.TheVariants.{Take, Give, Rest}
use Rattle.vd_ring.specs.declared.device.DeviceView.{DeviceView}
use Rattle.vd_ring.specs.declared.frame.Frame.{Frame}
use Rattle.vd_ring.specs.History.{entry, takes, gives}
use Rattle.vd_ring.specs.Sleep.{device_woken}
use Rattle.vd_layout.proofs.OnePair.{says_given}
use Rattle.vd_layout.specs.Begun.{DeviceOp, DevicePublished}
use Rattle.vd_layout.specs.Device.{DeviceModel, IsDeviceStep, IsLawfulDevice}
use Rattle.vd_bus.specs.declared.device.Attached.{Attached}
use Rattle.vd_bus.specs.Device.{IsServing, IsJournalled}
use Rattle.vd_bus.specs.Entries.{Reserved}
use Rattle.circular_buffer.specs.Buffer.{Buffer, buffer}
use Rattle.vd_models.specs.declared.counts.Turn.TheVariants.{Worked, Slept}
use Rattle.vd_models.specs.declared.serving.Stage.{Stage}
use Rattle.vd_models.specs.declared.serving.Stage.TheVariants as stage
use Rattle.vd_models.specs.declared.window.Held.{Held}
use Rattle.vd_models.specs.Holding.{IsHeld, next_held, rest_held, begun_of, held_of}
use Rattle.vd_models.specs.Stages.{StageIs, HasWindow, OpIs, owes, taken_stage, given_stage, is_done}
use Rattle.vd_models.specs.Serving.{State, Opens, IsTurnBy, all_of}
use Rattle.vd_models.proofs.Holding.{lens_begun, serving_taken, serving_given, serving_rested, held_taken, held_given, held_rested, takes_rested}
use Rattle.vd_models.proofs.Lists.{prefix_same, prefix_push, next_is, All-next}
use Rattle.vd_models.proofs.Stages.{at_take, at_give, at_rest, unarming, armed_none, idle_small, published_owes, published_not, not_first, not_second, apart, zero_test, some_test, window_empty}
use Rattle.vd_models.proofs.Turns.{to, not_woken, no_sleep}

abbrev pub put : {E : Type 0} → E → Attached → Stage → Buffer Held → Reserved Begun → State E
put x by st h bs = record { end = x; by = by; stage = st; held = h; begun = bs }

-- ---- a take

stage_taken : (full : Bool) (io : Bool) (hs : List Held) (n all capacity : ℕ)
    → (full ≡ false → ((length hs == capacity) || (n == all)) ≡ false)
    → 0 < length hs → n ≤ all → StageIs (taken_stage full) DeviceOp.idle io hs n all
stage_taken true io hs n all capacity f some few = some
stage_taken false io hs n all capacity f some few =
    let ne : n ≢ all = apart n all (not_second (length hs == capacity) (n == all) (f refl)) in
    inr (omega arith)

window_taken : (full : Bool) (n all h capacity : ℕ) → (full ≡ false → ((h == capacity) || (n == all)) ≡ false) → 0 < h → h ≤ capacity
    → HasWindow (taken_stage full) h capacity
window_taken true n all h capacity f some few = (few, omega arith)
window_taken false n all h capacity f some few = let ne : h ≢ capacity = apart h capacity (not_first (h == capacity) (n == all)
    (f refl)) in omega arith

live_taken : (full : Bool) → (is_done (taken_stage full) ≡ false) × (taken_stage full ≢ stage.Hearing)
live_taken true = (refl, λ z. cc z)
live_taken false = (refl, λ z. cc z)

live_given : (empty : Bool) → (is_done (given_stage empty) ≡ false) × (given_stage empty ≢ stage.Hearing)
live_given true = (refl, λ z. cc z)
live_given false = (refl, λ z. cc z)

-- ---- a give

stage_given : (empty : Bool) (io : Bool) (o : DeviceOp) (hs : List Held) (n all : ℕ) → DevicePublished o → empty ≡ (length hs == 0)
    → StageIs (given_stage empty) o io hs n all
stage_given true io o hs n all published t = published_at (nil_from_length hs (zero_test (length hs) true t refl)) published
  where
    published_at : hs ≡ [] → DevicePublished o → StageIs stage.Taking o io hs n all
    published_at none (inl z) = subst (λ i. StageIs stage.Taking i io hs n all) (sym z) (inl none)
    published_at none (inr z) = subst (λ i. StageIs stage.Taking i io hs n all) (sym z) (inl none)
stage_given false io o hs n all published t = published_at (some_test (length hs) false t refl) published
  where
    published_at : 0 < length hs → DevicePublished o → StageIs stage.Giving o io hs n all
    published_at some (inl z) = subst (λ i. StageIs stage.Giving i io hs n all) (sym z) some
    published_at some (inr z) = subst (λ i. StageIs stage.Giving i io hs n all) (sym z) some

window_given : (empty : Bool) (h capacity : ℕ) → empty ≡ (h == 0) → h ≤ capacity → 0 < capacity → HasWindow (given_stage empty) h capacity
window_given true h capacity t few some = omega (arith, zero_test h true t refl)
window_given false h capacity t few some = (few, some)

op_given : (o : DeviceOp) (v : DeviceView) (n : ℕ) → DevicePublished o → OpIs o v.doing v.shown n
op_given o v n (inl z) = subst (λ i. OpIs i v.doing v.shown n) (sym z) tt
op_given o v n (inr z) = subst (λ i. OpIs i v.doing v.shown n) (sym z) tt

module _ {P E : Type 0} {port : PortModel P} {e : DeviceModel E} (law : IsLawfulDevice e) (from : State E) {p q : P} {w : DeviceView}
    {y : E} where
  pub took : (held' : Buffer Held) (begun' : Reserved Begun) (k : ℕ) (c : List Piece) (full : Bool)
      → Opens e from w → (s : IsDeviceStep port e p q w from.end y (act.Taken k c))
      → held' ≡ buffer (from.held.items ++ held_of k c ∷ []) from.held.capacity → begun'.items ≡ from.begun.items ++ begun_of c ∷ []
      → from.begun.room ≤ begun'.room + 1
      → (full ≡ false → ((length held'.items == held'.capacity) || (length begun'.items == all_of from.by)) ≡ false)
      → IsTurnBy port e p q w from (put y from.by (taken_stage full) held' begun') Worked s.op s.access s.got
  took held' begun' k c full opens s is_held is_begun roomy is_full =
      let v = opens.serves in
      let io = w.frame.features.in_order in
      let h : ℕ = s.says.0 in
      let w' : DeviceView = e.side.after w s.op s.access s.got in
      let framed : w'.frame ≡ w.frame = law.framed w s.op s.access s.got in
      let done : w'.done ≡ Take c h ∷ w.done = s.says.4 in
      let t = at_take io from.held.items (length from.begun.items) (all_of from.by) from.stage (subst
      (λ o. StageIs from.stage o io from.held.items (length from.begun.items) (all_of from.by)) s.says.1 v.stage) in
      let window : length from.held.items < from.held.capacity = subst (λ (z : Stage). HasWindow z
      (length from.held.items) from.held.capacity) t.0 v.window in
      let u = unarming from.stage (e.begun from.end) w.doing io from.held.items (length from.begun.items) (all_of from.by) s.op w.armed
      (λ z. cc (z, s.says.1))
      (λ z. cc (z, s.says.1)) v.stage s.of_it v.armed in
      let n' : length begun'.items ≡ length from.begun.items + 1 = ap length is_begun ∙ length_push from.begun.items (begun_of c) in
      let h' : length held'.items ≡ length from.held.items + 1 = ap (λ (z : Buffer Held). length z.items) is_held
      ∙ length_push from.held.items
      (held_of k c) in
      let c' : held'.capacity ≡ from.held.capacity = ap (λ (z : Buffer Held). z.capacity) is_held in
      let numbered : held_of k c ≡ held_of (length (takes w.done)) c = ap (λ j. held_of j c) s.says.3 in
      let items : held'.items ≡ from.held.items ++ held_of (length (takes w.done)) c ∷ [] = ap (λ (z : Buffer Held). z.items) is_held ∙ ap
      (λ z. from.held.items ++ z ∷ []) numbered in
      let live = live_taken full in
      record {
        was_next = s.was_next;
        moved = s.moved;
        serves = record {
          stands = s.now_stands;
          serving = subst (λ (z : List DeviceDone). IsServing begun'.items from.by z) (sym done) (subst
              (λ (z : List Begun). IsServing z from.by (Take c h ∷ w.done)) (sym is_begun)
              (serving_taken from.begun.items from.by w.done c h t.1 v.serving));
          held = subst (λ (f : Frame). IsHeld begun'.items from.by held'.items f w'.done) (sym framed)
              (subst (λ (z : List DeviceDone). IsHeld begun'.items from.by held'.items w.frame z) (sym done)
              (subst (λ (z : List Begun). IsHeld z from.by held'.items w.frame (Take c h ∷ w.done)) (sym is_begun)
              (subst (λ (z : List Held). IsHeld (from.begun.items ++ begun_of c ∷ []) from.by z w.frame (Take c h ∷ w.done)) (sym items)
              (held_taken from.begun.items from.by from.held.items w.frame w.done c h v.serving v.held))));
          stage = subst (λ o. StageIs (taken_stage full) o w'.frame.features.in_order held'.items (length begun'.items) (all_of from.by))
              (sym s.says.2) (stage_taken full w'.frame.features.in_order held'.items (length begun'.items)
              (all_of from.by) held'.capacity is_full (omega arith) (omega (arith, t.1)));
          armed = armed_none (taken_stage full) (e.begun y) w'.doing w'.armed live.1 (λ z. cc (z, s.says.2))
              (law.stays_unarmed w s.op s.access s.got u.other u.none);
          op = subst (λ o. OpIs o w'.doing w'.shown (e.left y)) (sym s.says.2) tt;
          rests = s.rests ∙ sym live.0;
          last = λ d. absurd (cc (live.0, d));
          window = window_taken full (length begun'.items) (all_of from.by) (length held'.items) held'.capacity is_full (omega arith)
              (omega arith);
          room = omega (arith, v.room);
          small = v.small;
          lens = lens_begun from.begun.items begun'.items c is_begun v.lens;
        };
        grows = record {
          takes = prefix_push (takes w.done) (takes w'.done) c (ap takes done);
          gives = prefix_same (gives w.done)
              (gives w'.done) (ap gives done);
        };
        acts = inr (Take c h, done);
        begun = prefix_push from.begun.items begun'.items (begun_of c) is_begun;
        room = omega arith;
        capacity = c';
        looked = subst (λ z. (Worked ≡ Slept) ↔ (z ≡ act.Asleep)) s.is_answer (no_sleep (act.Taken k c) (λ z. cc z));
        slept = λ z. live.0;
        woken = not_woken s.op (act.Taken k c) (λ z. cc z) ∙ ap (device_woken s.op) s.is_answer;
        rested = λ z. let f : act.Taken k c ≡ act.Rested = s.is_answer ∙ z in absurd (cc);
        paid = omega (
          arith,
          n',
          idle_small (taken_stage full) w'.shown,
          ap
              (λ o. owes (taken_stage full) o w'.doing w'.shown (e.left y)) s.says.2,
          ap (λ (z : List DeviceDone). length (gives z)) done,
        );
      }

  pub gave : (io : Bool) (held' : Buffer Held) (k : ℕ) (empty : Bool)
      → w.frame.features.in_order ≡ io → Opens e from w → (s : IsDeviceStep port e p q w from.end y (act.Given k))
      → held' ≡ buffer (rest_held io from.held.items) from.held.capacity → empty ≡ (length held'.items == 0)
      → IsTurnBy port e p q w from (put y from.by (given_stage empty) held' from.begun) Worked s.op s.access s.got
  gave io held' k empty is opens s is_held is_empty =
      let v = opens.serves in
      let said = says_given e.words k (e.begun from.end) (e.begun y) w.frame w.done (e.side.after w s.op s.access s.got).done s.says in
      let n : ℕ = s.says.0 in
      let w' : DeviceView = e.side.after w s.op s.access s.got in
      let framed : w'.frame ≡ w.frame = law.framed w s.op s.access s.got in
      let done : w'.done ≡ Give (entry k n ∷ []) ∷ w.done = said.done in
      let t = at_give w.frame.features.in_order from.held.items (length from.begun.items) (all_of from.by) k n from.stage (subst
      (λ o. StageIs from.stage o w.frame.features.in_order from.held.items (length from.begun.items)
      (all_of from.by)) said.begun v.stage) in
      let next : next_held io from.held.items ≡ Some (record { number = k; len = n }) = ap (λ i. next_held i from.held.items) (sym is)
      ∙ t.1 in
      let u = unarming from.stage (e.begun from.end) w.doing w.frame.features.in_order from.held.items (length from.begun.items)
      (all_of from.by) s.op w.armed (λ z. cc
      (z, said.begun)) (λ z. cc (z, said.begun)) v.stage s.of_it v.armed in
      let window : (length from.held.items ≤ from.held.capacity) × (0 < from.held.capacity) = subst (λ (z : Stage). HasWindow z
      (length from.held.items) from.held.capacity) t.0 v.window in
      let items : held'.items ≡ rest_held io from.held.items = ap (λ (z : Buffer Held). z.items) is_held in
      let c' : held'.capacity ≡ from.held.capacity = ap (λ (z : Buffer Held). z.capacity) is_held in
      let nx = next_is io from.held.items (record { number = k; len = n }) next in
      let h' : length held'.items + 1 ≡ length from.held.items = ap (λ (z : List Held). length z + 1) items ∙ nx.shorter in
      let live = live_given empty in
      let more : length (gives w'.done) ≡ length (gives w.done) + 1 = ap (λ (z : List DeviceDone). length (gives z)) done ∙ length_push
      (gives w.done) (entry k n) in
      record {
        was_next = s.was_next;
        moved = s.moved;
        serves = record {
          stands = s.now_stands;
          serving = subst (λ (z : List DeviceDone). IsServing from.begun.items from.by z) (sym done)
              (serving_given from.begun.items from.by w.done k n
              (All-next (λ (z : Held). IsJournalled from.begun.items from.by.at from.by.from (entry z.number z.len)) io from.held.items
              (record { number = k; len = n }) next v.held.noted) v.serving);
          held = subst (λ (f : Frame). IsHeld from.begun.items from.by held'.items f w'.done) (sym framed)
              (subst (λ (z : List DeviceDone). IsHeld from.begun.items from.by held'.items w.frame z) (sym done)
              (subst (λ (z : List Held). IsHeld from.begun.items from.by z w.frame (Give (entry k n ∷ []) ∷ w.done)) (sym items)
              (held_given io from.begun.items from.by from.held.items w.frame w.done k n is next v.held)));
          stage = stage_given empty w'.frame.features.in_order (e.begun y) held'.items (length from.begun.items)
              (all_of from.by) said.published is_empty;
          armed = armed_none (given_stage empty) (e.begun y) w'.doing w'.armed live.1 (published_not (e.begun y) said.published)
              (law.stays_unarmed w s.op s.access s.got u.other u.none);
          op = op_given (e.begun y) w' (e.left y) said.published;
          rests = s.rests ∙ sym live.0;
          last = λ d. absurd (cc (live.0, d));
          window = window_given empty (length held'.items) held'.capacity is_empty (omega arith) (omega arith);
          room = v.room;
          small = v.small;
          lens = v.lens;
        };
        grows = record {
          takes = prefix_same (takes w.done) (takes w'.done) (ap takes done);
          gives = prefix_push (gives w.done)
              (gives w'.done) (entry k n) (ap gives done);
        };
        acts = inr (Give (entry k n ∷ []), done);
        begun = prefix_same from.begun.items from.begun.items refl;
        room = omega arith;
        capacity = c';
        looked = subst (λ z. (Worked ≡ Slept) ↔ (z ≡ act.Asleep)) s.is_answer (no_sleep (act.Given k) (λ z. cc z));
        slept = λ z. live.0;
        woken = not_woken s.op (act.Given k) (λ z. cc z) ∙ ap (device_woken s.op) s.is_answer;
        rested = λ z. let f : act.Given k ≡ act.Rested = s.is_answer ∙ z in absurd (cc);
        paid = omega (
          arith,
          more,
          s.left,
          published_owes (given_stage empty) (e.begun y) w'.doing w'.shown (e.left y) said.published,
          ap
              (λ o. owes from.stage o w.doing w.shown (e.left from.end)) said.begun,
        );
      }

  pub rested : Opens e from w
      → (s : IsDeviceStep port e p q w from.end y act.Rested)
      → IsTurnBy port e p q w from (to from y stage.Done) Worked s.op s.access s.got
  rested opens s =
      let v = opens.serves in
      let io = w.frame.features.in_order in
      let w' : DeviceView = e.side.after w s.op s.access s.got in
      let done : w'.done ≡ Rest ∷ w.done = s.says.2 in
      let t = at_rest io from.held.items (length from.begun.items) (all_of from.by) from.stage (subst
      (λ o. StageIs from.stage o io from.held.items (length from.begun.items) (all_of from.by)) s.says.0 v.stage) in
      let u = unarming from.stage (e.begun from.end) w.doing io from.held.items (length from.begun.items) (all_of from.by) s.op w.armed
      (λ z. cc (z, s.says.0))
      (λ z. cc (z, s.says.0)) v.stage s.of_it v.armed in
      let even : length (takes w.done) ≡ length (gives w.done) = omega (arith, v.held.as_many, ap length t.1) in
      let empty = subst (λ (z : List Held). IsHeld from.begun.items from.by z w.frame w.done) t.1 v.held in
      record {
        was_next = s.was_next;
        moved = s.moved;
        serves = record {
          stands = s.now_stands;
          serving = subst (λ (z : List DeviceDone). IsServing from.begun.items from.by z) (sym done)
              (serving_rested from.begun.items from.by w.done even v.serving);
          held = subst (λ (f : Frame). IsHeld from.begun.items from.by from.held.items f w'.done) (sym (law.framed w s.op s.access s.got))
              (subst (λ (z : List DeviceDone). IsHeld from.begun.items from.by from.held.items w.frame z) (sym done)
              (subst (λ (z : List Held). IsHeld from.begun.items from.by z w.frame (Rest ∷ w.done)) (sym t.1)
              (held_rested from.begun.items from.by w.frame w.done empty)));
          stage = subst (λ o. StageIs stage.Done o w'.frame.features.in_order from.held.items (length from.begun.items) (all_of from.by))
              (sym s.says.1)
              (t.1, t.2);
          armed = armed_none stage.Done (e.begun y) w'.doing w'.armed (λ z. cc z) (λ z. cc (z, s.says.1))
              (law.stays_unarmed w s.op s.access s.got u.other u.none);
          op = subst (λ o. OpIs o w'.doing w'.shown (e.left y)) (sym s.says.1) tt;
          rests = s.rests;
          last = λ d. (w.done, done);
          window = window_empty from.stage stage.Done (length from.held.items) from.held.capacity (ap length t.1) v.window;
          room = v.room;
          small = v.small;
          lens = v.lens;
        };
        grows = record {
          takes = prefix_same (takes w.done) (takes w'.done) (ap takes done
              ∙ takes_rested w.done even);
          gives = prefix_same (gives w.done) (gives w'.done) (ap gives done);
        };
        acts = inr (Rest, done);
        begun = prefix_same from.begun.items from.begun.items refl;
        room = omega arith;
        capacity = refl;
        looked = subst (λ z. (Worked ≡ Slept) ↔ (z ≡ act.Asleep)) s.is_answer (no_sleep act.Rested (λ z. cc z));
        slept = λ z. absurd (cc z);
        woken = not_woken s.op act.Rested (λ z. cc z) ∙ ap (device_woken s.op) s.is_answer;
        rested = λ z. refl;
        paid = omega (
          arith,
          s.left,
          ap (λ o. owes stage.Done o w'.doing w'.shown (e.left y)) s.says.1,
          ap
              (λ o. owes from.stage o w.doing w.shown (e.left from.end)) s.says.0,
          ap (λ (z : List DeviceDone). length (gives z)) done,
        );
      }

-- the test whether all are begun, or the window is full
pub full_is : (f g : Bool) (l n m all : ℕ) → f ≡ g → l ≡ n → m ≡ all → (f || (l == m)) ≡ (g || (n == all))
full_is f g l n m all a b c = ap (λ z. z || (l == m)) a ∙ ap (λ z. g || (z == m)) b ∙ ap (λ z. g || (n == z)) c
