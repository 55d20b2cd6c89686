-- What an answer of the end leaves of a model device where nothing more was done.
use Rattle.std.proofs.Common.{◌≡◌, ◌≢◌, ◌↔◌, ℕ, ◌+◌, ◌*◌, ◌<◌, ◌≤◌, Bool, true, false, List, length, nat_lt, refl, sym, ◌∙◌, ap, subst, arith, inl, inr}
use Rattle.std.proofs.lemmas.Bool.{lt-ltb, ltb-true}
use Rattle.vd_model.specs.declared.record.Begun.{Begun}
use Rattle.vd_words.specs.declared.access.Access.{Access}
use Rattle.vd_words.specs.declared.access.Op.{Op}
use Rattle.vd_words.specs.declared.access.Op.TheVariants as op
use Rattle.vd_words.specs.Model.{PortModel}
use Rattle.vd_ring.specs.declared.act.DeviceAct.{DeviceAct}
use Rattle.vd_ring.specs.declared.act.DeviceAct.TheVariants as act
use Rattle.vd_ring.specs.declared.device.DeviceDone.{DeviceDone}
use Rattle.vd_ring.specs.declared.device.DeviceNow.TheVariants as now
use Rattle.vd_ring.specs.declared.device.DeviceView.{DeviceView}
use Rattle.vd_ring.specs.declared.frame.Frame.{Frame}
use Rattle.vd_ring.specs.History.{takes, gives}
use Rattle.vd_ring.specs.Looks.{DeviceGoes, DeviceWakes}
use Rattle.vd_ring.specs.Sleep.{device_woken}
use Rattle.vd_layout.specs.Device.{DeviceModel, IsDeviceStep, IsLawfulDevice}
use Rattle.vd_bus.specs.declared.device.Attached.{Attached}
use Rattle.vd_bus.specs.Device.{IsServing}
use Rattle.vd_models.specs.declared.counts.Turn.{Turn}
use Rattle.vd_models.specs.declared.counts.Turn.TheVariants.{Worked, Slept}
use Rattle.vd_bus.specs.Entries.{Reserved}
use Rattle.circular_buffer.specs.Buffer.{Buffer}
use Rattle.vd_models.specs.declared.serving.Session.{Session}
use Rattle.vd_models.specs.declared.window.Held.{Held}
use Rattle.vd_models.specs.declared.serving.Stage.{Stage}
use Rattle.vd_models.specs.Counting.{counted, woke}
use Rattle.vd_models.specs.Holding.{IsHeld}
use Rattle.vd_models.specs.Stages.{StageIs, HasWindow, ArmedIs, OpIs, owes, is_done}
use Rattle.vd_models.specs.Serving.{State, state, Opens, Begins, IsTurn, IsTurnBy, HasMore, all_of}
use Rattle.vd_models.proofs.Going.{Goes, went}
use Rattle.vd_models.proofs.Lists.{prefix_same}
use Rattle.vd_models.proofs.Stages.{goes_on}

-- the same with another end, at another stage
abbrev pub to : {E : Type 0} → State E → E → Stage → State E
to x y st = record { end = y; by = x.by; stage = st; held = x.held; begun = x.begun }

pub not_woken : (o : Op) (x : DeviceAct) → x ≢ act.Awake → woke Worked ≡ device_woken o x
not_woken op.Offer x n = refl
not_woken op.Collect x n = refl
not_woken op.Take x n = refl
not_woken op.Give x n = refl
not_woken op.Arm x n = refl
not_woken op.Disarm x n = refl
not_woken op.Rest x n = refl
not_woken op.Control x n = refl
not_woken op.Hear act.Awake n = absurd (n refl)
not_woken op.Hear act.Moved n = refl
not_woken op.Hear (act.Taken k c) n = refl
not_woken op.Hear (act.Given k) n = refl
not_woken op.Hear act.Nothing n = refl
not_woken op.Hear act.Armed n = refl
not_woken op.Hear act.Asleep n = refl
not_woken op.Hear act.Rested n = refl

pub no_sleep : (answer : DeviceAct) → answer ≢ act.Asleep → (Worked ≡ Slept) ↔ (answer ≡ act.Asleep)
no_sleep answer n = ((λ z. absurd (cc z)), λ z. absurd (n z))

module _ {P E : Type 0} {port : PortModel P} {e : DeviceModel E} (law : IsLawfulDevice e) (from : State E) {p q : P} {w : DeviceView}
    {y : E} where
  -- ---- what was done is the same

  pub same_turn : Opens e from w → (answer : DeviceAct) (s : IsDeviceStep port e p q w from.end y answer) (st' : Stage) (t : Turn)
      → (e.side.after w s.op s.access s.got).done ≡ w.done → is_done st' ≡ false → e.resting y ≡ false
      → StageIs st' (e.begun y) w.frame.features.in_order from.held.items (length from.begun.items) (all_of from.by) → HasWindow st'
      (length from.held.items) from.held.capacity
      → ArmedIs st' (e.begun y) (e.side.after w s.op s.access s.got).doing (e.side.after w s.op s.access s.got).armed
      → OpIs (e.begun y) (e.side.after w s.op s.access s.got).doing (e.side.after w s.op s.access s.got).shown (e.left y)
      → (t ≡ Slept) ↔ (answer ≡ act.Asleep) → woke t ≡ device_woken s.op answer → answer ≢ act.Rested
      → owes st' (e.begun y) (e.side.after w s.op s.access s.got).doing (e.side.after w s.op s.access s.got).shown (e.left y) + counted t
      ≤ owes from.stage (e.begun from.end) w.doing w.shown (e.left from.end) + 64 * woke t
      → IsTurnBy port e p q w from (to from y st') t s.op s.access s.got
  same_turn opens answer s st' t done live awake stage window armed op looked woken rested paid =
      let v = opens.serves in
      let w' : DeviceView = e.side.after w s.op s.access s.got in
      let framed : w'.frame ≡ w.frame = law.framed w s.op s.access s.got in
      record {
        was_next = s.was_next;
        moved = s.moved;
        serves = record {
          stands = s.now_stands;
          serving = subst (λ (z : List DeviceDone). IsServing from.begun.items from.by z) (sym done) v.serving;
          held = subst (λ (f : Frame). IsHeld from.begun.items from.by from.held.items f w'.done) (sym framed) (subst
              (λ (z : List DeviceDone). IsHeld from.begun.items from.by from.held.items w.frame z) (sym done) v.held);
          stage = subst (λ (f : Frame). StageIs st' (e.begun y) f.features.in_order from.held.items (length from.begun.items)
              (all_of from.by))
              (sym framed) stage;
          armed = armed;
          op = op;
          rests = awake ∙ sym live;
          last = λ d. absurd (cc (live, d));
          window = window;
          room = v.room;
          small = v.small;
          lens = v.lens;
        };
        grows = record {
          takes = prefix_same (takes w.done) (takes w'.done) (ap takes done);
          gives = prefix_same (gives w.done)
              (gives w'.done) (ap gives done);
        };
        acts = inl done;
        begun = prefix_same from.begun.items from.begun.items refl;
        room = omega arith;
        capacity = refl;
        looked = subst (λ z. (t ≡ Slept) ↔ (z ≡ act.Asleep)) s.is_answer looked;
        slept = λ z. live;
        woken = subst (λ z. woke t ≡ device_woken s.op z) s.is_answer woken;
        rested = λ z. absurd (rested (s.is_answer ∙ z));
        paid = omega (arith, paid, ap (λ (z : List DeviceDone). length (gives z)) done);
      }

  goes_of : (s : IsDeviceStep port e p q w from.end y act.Moved) → Goes s.op w (e.side.after w s.op s.access s.got)
  goes_of s =
      let is = s.is_answer in
      let looks = law.looks in
      record {
        unarmed = λ other none. law.stays_unarmed w s.op s.access s.got other none;
        shown = λ h. law.stays.shown w s.op s.access s.got s.was_next (subst (λ z. DeviceGoes z) is tt) h;
        disarms = λ arm d. elim ((looks.disarming w s.op s.access s.got s.was_next).0 (d ∙ ap now.Disarming (sym arm))).0 [
          | inl x ↦ inr (x.0, x.1)
          | inr x ↦ absurd (cc (arm, x.0))
        ];
        arms = λ arm idle. law.stays.arms w s.op s.access s.got s.was_next arm idle;
        woke = λ arm again. woken_by (e.shows w s.got) refl arm again;
        heard = λ hears idle.
            let wakes : DeviceWakes e.shows w s.got s.op = inr (
              hears,
              idle,
              λ z. cc
                  (is, (looks.asleep w s.op s.access s.got s.was_next).1 (hears, idle, z)),
            ) in
            disarmed_by w.frame.features.event_idx refl wakes ∙ ap now.Disarming hears;
        busy = λ d. cc (is, (looks.awake w s.op s.access s.got s.was_next).1 (inr (inl d)));
      }
    where
      disarmed_by : (x : Bool) → w.frame.features.event_idx ≡ x → DeviceWakes e.shows w s.got s.op
          → (e.side.after w s.op s.access s.got).doing ≡ now.Disarming s.op
      disarmed_by true x wakes = absurd (cc (s.is_answer, (law.looks.awake w s.op s.access s.got s.was_next).1 (inl (wakes, x))))
      disarmed_by false x wakes = (law.looks.disarming w s.op s.access s.got s.was_next).1 (wakes, x)

      woken_by : (x : Bool) → e.shows w s.got ≡ x → s.op ≡ op.Arm → w.doing ≡ now.Arming
          → (e.side.after w s.op s.access s.got).doing ≡ now.Disarming op.Arm
      woken_by true x arm again = disarmed_by w.frame.features.event_idx refl (inl (arm, again, x)) ∙ ap now.Disarming arm
      woken_by false x arm again = absurd (cc (s.is_answer, (law.looks.armed w s.op s.access s.got s.was_next).1 (arm, again, x)))

  pub went_on : Opens e from w
      → (s : IsDeviceStep port e p q w from.end y act.Moved)
      → IsTurnBy port e p q w from (to from y from.stage) Worked s.op s.access s.got
  went_on opens s =
      let v = opens.serves in
      let io = w.frame.features.in_order in
      let w' : DeviceView = e.side.after w s.op s.access s.got in
      let g = went from.stage io from.held.items (length from.begun.items) (all_of from.by) s.op w w' (e.left from.end) (e.left y)
      (e.begun from.end)
      (e.begun y) v.stage s.of_it v.armed v.op s.says.0 s.left (goes_of s) in
      same_turn opens act.Moved s from.stage Worked s.says.1 opens.live s.rests
      (goes_on io from.held.items (length from.begun.items) (all_of from.by) from.stage (e.begun from.end)
      (e.begun y) s.says.0 v.stage) v.window g.armed g.op
      (no_sleep act.Moved (λ z. cc z)) (not_woken s.op act.Moved (λ z. cc z)) (λ z. cc z) (omega (arith, g.paid))

-- an access from before its operation was begun: it is the access after that
pub from_begun : {P E : Type 0} {port : PortModel P} {e : DeviceModel E} {p q : P} {w : DeviceView} {begun : Reserved Begun} {y : State E}
    {t : Turn} {more : Bool} (a b : Session E) → Begins e a b more → b.held ≡ a.held → HasMore more a.by begun.items
    → Opens e (state a begun) w → (Opens e (state b begun) w → IsTurn port e p q w (state b begun) y t)
    → IsTurn port e p q w (state a begun) y t
from_begun {w = w} {begun = begun} a b next held more opens f =
    let go = next begun w opens more in
    let h = f go.opens in (
      h.0,
      h.1,
      h.2,
      record {
        was_next = h.3.was_next;
        moved = h.3.moved;
        serves = h.3.serves;
        grows = h.3.grows;
        acts = h.3.acts;
        begun = h.3.begun;
        room = h.3.room;
        capacity = h.3.capacity ∙ ap (λ (z : Buffer Held). z.capacity) held;
        looked = h.3.looked;
        slept = h.3.slept;
        woken = h.3.woken;
        rested = h.3.rested;
        paid = omega (arith, h.3.paid, go.owes);
      },
    )

pub turned : {P E : Type 0} {port : PortModel P} {e : DeviceModel E} {p q : P} {w : DeviceView} {x y : State E} {t : Turn} (op : Op)
    (access : Access) (got : ℕ) → IsTurnBy port e p q w x y t op access got → IsTurn port e p q w x y t
turned op access got h = (op, access, got, h)

-- the test whether chains are still to begin
pub more_is : (n m : ℕ) (by : Attached) (begun : List Begun) → n ≡ length begun → m ≡ all_of by → HasMore (nat_lt n m) by begun
more_is n m by begun a b = ((λ t. let h : n < m = ltb-true n m t in omega arith), λ h. lt-ltb n m (omega arith))
