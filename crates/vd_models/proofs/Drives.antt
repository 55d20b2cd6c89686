-- What an answer of the end leaves of a model guest where nothing more was done.
use Rattle.std.proofs.Common.{◌≡◌, ◌≢◌, ◌↔◌, ℕ, ◌+◌, ◌*◌, ◌<◌, ◌≤◌, ◌==◌, Bool, true, false, None, List, length, refl, sym, ◌∙◌, ap, subst, arith, inl, inr}
use Rattle.std.proofs.lemmas.Bool.{cases_eq, eq-eqb, ne_eqb}
use Rattle.vd_words.specs.declared.access.Op.{Op}
use Rattle.vd_words.specs.declared.access.Op.TheVariants as op
use Rattle.vd_words.specs.Model.{PortModel}
use Rattle.vd_ring.specs.declared.act.DriverAct.{DriverAct}
use Rattle.vd_ring.specs.declared.act.DriverAct.TheVariants as act
use Rattle.vd_ring.specs.declared.driver.DriverDone.{DriverDone}
use Rattle.vd_ring.specs.declared.driver.DriverNow.TheVariants as now
use Rattle.vd_ring.specs.declared.driver.DriverView.{DriverView}
use Rattle.vd_ring.specs.declared.frame.Frame.{Frame}
use Rattle.vd_ring.specs.History.{offers, collects, open_at}
use Rattle.vd_ring.specs.Looks.{DriverGoes, DriverWakes}
use Rattle.vd_ring.specs.Sleep.{driver_woken}
use Rattle.vd_layout.specs.Begun.{DriverOp, DriverGoesOn, IsDriverOp}
use Rattle.vd_layout.specs.Control.{ControlWords}
use Rattle.vd_layout.specs.Driver.{DriverModel, IsDriverStep, IsLawfulDriver}
use Rattle.vd_layout.specs.Layout.{LayoutModel}
use Rattle.vd_bus.specs.GuestCommands.{HasCommands}
use Rattle.vd_models.specs.declared.counts.Turn.{Turn}
use Rattle.vd_models.specs.declared.counts.Turn.TheVariants.{Worked, Slept}
use Rattle.vd_models.specs.declared.driving.GuestStage.{GuestStage}
use Rattle.vd_models.specs.declared.driving.GuestStage.TheVariants as stage
use Rattle.vd_models.specs.Counting.{counted, woke}
use Rattle.vd_models.specs.GuestStages.{BegunIs, DoneIs, ArmedIs, OpIs, is_done, owes, collected_stage}
use Rattle.vd_models.specs.Pending.{HandIs, IsNoOffer, IsOffering, hand_owes, offer_owes}
use Rattle.vd_models.specs.Driving.{Driven, drive, DriveOpens, IsDriveTurn, HasOffered, IsSent, next_of, owes_at, scripted}
use Rattle.vd_models.specs.Sending.{Begins, IsDue}
use Rattle.vd_models.specs.declared.pending.Pending.{Pending}
use Rattle.vd_models.specs.declared.pending.Pending.TheVariants as hand
use Rattle.vd_model.specs.declared.record.Return.{Return}
use Rattle.vd_model.specs.declared.record.Script.{Script}
use Rattle.vd_models.proofs.GuestGoing.{Goes, went, goes_on}
use Rattle.vd_models.proofs.Lists.{prefix_same}
use Rattle.vd_models.specs.declared.driving.Loaded.{Loaded}

-- the same with another end, at another stage
abbrev pub to : {D : Type 0} → Driven D → D → GuestStage → Driven D
to x e st = record {
  end = e;
  script = x.script;
  at = x.at;
  offered = x.offered;
  returned = x.returned;
  stage = st;
  hand = x.hand;
}

pub live_less : (st : GuestStage) (n all : ℕ) → is_done st ≡ false → DoneIs st n all → n < all
live_less stage.Done n all live h = absurd (cc)
live_less stage.Offering n all live h = h
live_less stage.Collecting n all live h = h
live_less stage.Arming n all live h = h
live_less stage.Hearing n all live h = h

pub less_live : (st : GuestStage) (n all : ℕ) → is_done st ≡ false → n < all → DoneIs st n all
less_live stage.Done n all live h = absurd (cc)
less_live stage.Offering n all live h = h
less_live stage.Collecting n all live h = h
less_live stage.Arming n all live h = h
less_live stage.Hearing n all live h = h

pub done_is : (t : Bool) (st : GuestStage) (n all : ℕ) → t ≡ (n == all) → is_done st ≡ false → n ≤ all → DoneIs (collected_stage t st) n all
done_is true st n all is live few = elim (cases_eq n all) [
  | inl e ↦ e
  | inr ne ↦ absurd
      (let f : (n == all) ≡ false = ne_eqb n all ne in cc)
]
done_is false st n all is live few = elim (cases_eq n all) [
  | inl e ↦ absurd
      (let f : (n == all) ≡ true = eq-eqb n all e in cc)
  | inr ne ↦ less_live st n all live (omega arith)
]

pub not_woken : (o : Op) (x : DriverAct) → x ≢ act.Awake → woke Worked ≡ driver_woken o x
not_woken op.Offer x n = refl
not_woken op.Collect x n = refl
not_woken op.Take x n = refl
not_woken op.Give x n = refl
not_woken op.Arm x n = refl
not_woken op.Disarm x n = refl
not_woken op.Rest x n = refl
not_woken op.Control x n = refl
not_woken op.Hear act.Awake n = absurd (n refl)
not_woken op.Hear act.Moved n = refl
not_woken op.Hear (act.Offered k) n = refl
not_woken op.Hear (act.Collected k l h) n = refl
not_woken op.Hear act.Nothing n = refl
not_woken op.Hear act.Armed n = refl
not_woken op.Hear act.Asleep n = refl

pub no_sleep : (answer : DriverAct) → answer ≢ act.Asleep → (Worked ≡ Slept) ↔ (answer ≡ act.Asleep)
no_sleep answer n = ((λ z. absurd (cc z)), λ z. absurd (n z))

-- ---- what is in hand

-- only in an offer a command's words are in hand, and with an ack to be loaded the end is idle
pub free_at : (words : ControlWords) (s : Script) (rs : List Return) (f : Frame) (o : List DriverDone) (st : GuestStage) (b : DriverOp)
    (h : Pending) → (b ≡ DriverOp.idle → ⊥) → IsNoOffer b → HandIs words s rs f o st b h → h ≡ hand.Free
free_at words s rs f o st b hand.Free busy other h = refl
free_at words s rs f o st b hand.First busy other h = absurd (busy h.1)
free_at words s rs f o st DriverOp.idle hand.Both busy other h = absurd (busy refl)
free_at words s rs f o st (DriverOp.offer c) hand.Both busy other h = absurd other
free_at words s rs f o st DriverOp.collect hand.Both busy other h = absurd h.1
free_at words s rs f o st DriverOp.arm hand.Both busy other h = absurd h.1
free_at words s rs f o st DriverOp.hear hand.Both busy other h = absurd h.1
free_at words s rs f o st DriverOp.disarm hand.Both busy other h = absurd h.1
free_at words s rs f o st DriverOp.signal hand.Both busy other h = absurd h.1
free_at words s rs f o st b (hand.Ack n k g) busy other h = absurd (busy h.1)

-- all that was collected came back, with its ack, while no ack is to be loaded
pub all_back : (words : ControlWords) (s : Script) (rs : List Return) (f : Frame) (o : List DriverDone) (st : GuestStage) (b : DriverOp)
    (h : Pending) → h ≡ hand.Free → HandIs words s rs f o st b h → length rs ≡ length (collects o)
all_back words s rs f o st b h is held =
    (subst (λ (z : Pending). HandIs words s rs f o st b z) is held).0

-- where nothing is in hand it stays so, while no command's offer is begun
pub still_free : (words : ControlWords) (s : Script) (rs : List Return) (f : Frame) (o : List DriverDone) (st : GuestStage) (b : DriverOp)
    (h : Pending) → h ≡ hand.Free → length rs ≡ length (collects o) → (HasCommands s → IsNoOffer b) → HandIs words s rs f o st b h
still_free words s rs f o st b h is back other =
    subst (λ (z : Pending). HandIs words s rs f o st b z) (sym is) (back, other)

not_idle : (b : DriverOp) (o : Op) → IsDriverOp b o → b ≡ DriverOp.idle → ⊥
not_idle DriverOp.idle o of e = of
not_idle (DriverOp.offer c) o of e = cc e
not_idle DriverOp.collect o of e = cc e
not_idle DriverOp.arm o of e = cc e
not_idle DriverOp.hear o of e = cc e
not_idle DriverOp.disarm o of e = cc e
not_idle DriverOp.signal o of e = cc e

-- an access in the middle of an operation
no_offer_on : (b b' : DriverOp) → DriverGoesOn b b' → IsNoOffer b → IsNoOffer b'
no_offer_on DriverOp.signal b' (inl e) h = subst (λ z. IsNoOffer z) (sym e) tt
no_offer_on DriverOp.signal b' (inr e) h = subst (λ z. IsNoOffer z) (sym e) tt
no_offer_on DriverOp.idle b' g h = subst (λ z. IsNoOffer z) (sym g) tt
no_offer_on (DriverOp.offer c) b' g h = absurd h
no_offer_on DriverOp.collect b' g h = subst (λ z. IsNoOffer z) (sym g) tt
no_offer_on DriverOp.arm b' g h = subst (λ z. IsNoOffer z) (sym g) tt
no_offer_on DriverOp.hear b' g h = subst (λ z. IsNoOffer z) (sym g) tt
no_offer_on DriverOp.disarm b' g h = subst (λ z. IsNoOffer z) (sym g) tt

offering_on : (b b' : DriverOp) (o : Op) → DriverGoesOn b b' → IsDriverOp b o → IsOffering b → IsOffering b'
offering_on (DriverOp.offer c) b' o g of h = subst (λ z. IsOffering z) (sym g) tt
offering_on DriverOp.idle b' o g of h = absurd of
offering_on DriverOp.signal b' o g of h = absurd h
offering_on DriverOp.collect b' o g of h = absurd h
offering_on DriverOp.arm b' o g of h = absurd h
offering_on DriverOp.hear b' o g of h = absurd h
offering_on DriverOp.disarm b' o g of h = absurd h

pub held_on : (words : ControlWords) (s : Script) (rs : List Return) (f : Frame) (os : List DriverDone) (st : GuestStage)
    (b b' : DriverOp) (o : Op) (h : Pending) → DriverGoesOn b b' → IsDriverOp b o → HandIs words s rs f os st b h
    → HandIs words s rs f os st b' h
held_on words s rs f os st b b' o hand.Free g of h = (h.0, λ some. no_offer_on b b' g (h.1 some))
held_on words s rs f os st b b' o hand.First g of h = absurd (not_idle b o of h.1)
held_on words s rs f os st b b' o hand.Both g of h = (h.0, offering_on b b' o g of h.1)
held_on words s rs f os st b b' o (hand.Ack n k l) g of h = absurd (not_idle b o of h.1)

-- it owes one access less
offer_less : (b b' : DriverOp) (o : Op) (left left' : ℕ) → DriverGoesOn b b' → IsDriverOp b o → IsOffering b → left' < left
    → offer_owes b' left' + 1 ≤ offer_owes b left
offer_less (DriverOp.offer c) b' o left left' g of h less =
    subst (λ z. offer_owes z left' + 1 ≤ left) (sym g) (omega arith)
offer_less DriverOp.idle b' o left left' g of h less = absurd of
offer_less DriverOp.signal b' o left left' g of h less = absurd h
offer_less DriverOp.collect b' o left left' g of h less = absurd h
offer_less DriverOp.arm b' o left left' g of h less = absurd h
offer_less DriverOp.hear b' o left left' g of h less = absurd h
offer_less DriverOp.disarm b' o left left' g of h less = absurd h

pub owes_on : (words : ControlWords) (s : Script) (rs : List Return) (f : Frame) (os : List DriverDone) (st : GuestStage)
    (b b' : DriverOp) (o : Op) (h : Pending) (left left' n n' : ℕ) → DriverGoesOn b b' → IsDriverOp b o → HandIs words s rs f os st b h
    → left' < left → n' + 1 ≤ n → hand_owes h b' left' n' + 1 ≤ hand_owes h b left n
owes_on words s rs f os st b b' o hand.Free left left' n n' g of h less paid = paid
owes_on words s rs f os st b b' o hand.First left left' n n' g of h less paid = absurd (not_idle b o of h.1)
owes_on words s rs f os st b b' o hand.Both left left' n n' g of h less paid = offer_less b b' o left left' g of h.1 less
owes_on words s rs f os st b b' o (hand.Ack k l m) left left' n n' g of h less paid = absurd (not_idle b o of h.1)

pub owes_free : (h : Pending) (b : DriverOp) (left n : ℕ) → h ≡ hand.Free → hand_owes h b left n ≡ n
owes_free h b left n is = ap (λ (z : Pending). hand_owes z b left n) is

module _ {P D : Type 0} {port : PortModel P} {d : DriverModel D} (law : IsLawfulDriver d) (from : Driven D) {p q : P} {v : DriverView}
    {y : D} where
  goes_of : (h : IsDriverStep port d p q v from.end y act.Moved) → Goes h.op v (d.side.after v h.op h.access h.got)
  goes_of h =
      let is = h.is_answer in
      let looks = law.looks in
      record {
        unarmed = λ other none. law.stays_unarmed v h.op h.access h.got other none;
        shown = λ x. law.stays.shown v h.op h.access h.got h.was_next (subst (λ z. DriverGoes z) is tt) x;
        disarms = λ arm x. elim ((looks.disarming v h.op h.access h.got h.was_next).0 (x ∙ ap now.Disarming (sym arm))).0 [
          | inl z ↦ inr (z.0, z.1)
          | inr z ↦ absurd (cc (arm, z.0))
        ];
        arms = λ arm idle. law.stays.arms v h.op h.access h.got h.was_next arm idle;
        woke = λ arm again. woken_by (d.shows v h.got) refl arm again;
        heard = λ hears idle.
            let wakes : DriverWakes d.shows v h.got h.op = inr (
              hears,
              idle,
              λ z. cc
                  (is, (looks.asleep v h.op h.access h.got h.was_next).1 (hears, idle, z)),
            ) in
            disarmed_by v.frame.features.event_idx refl wakes ∙ ap now.Disarming hears;
        busy = λ x. cc (is, (looks.awake v h.op h.access h.got h.was_next).1 (inr (inl x)));
      }
    where
      disarmed_by : (x : Bool) → v.frame.features.event_idx ≡ x → DriverWakes d.shows v h.got h.op
          → (d.side.after v h.op h.access h.got).doing ≡ now.Disarming h.op
      disarmed_by true x wakes = absurd (cc (h.is_answer, (law.looks.awake v h.op h.access h.got h.was_next).1 (inl (wakes, x))))
      disarmed_by false x wakes = (law.looks.disarming v h.op h.access h.got h.was_next).1 (wakes, x)

      woken_by : (x : Bool) → d.shows v h.got ≡ x → h.op ≡ op.Arm → v.doing ≡ now.Arming
          → (d.side.after v h.op h.access h.got).doing ≡ now.Disarming op.Arm
      woken_by true x arm again = disarmed_by v.frame.features.event_idx refl (inl (arm, again, x)) ∙ ap now.Disarming arm
      woken_by false x arm again = absurd (cc (h.is_answer, (law.looks.armed v h.op h.access h.got h.was_next).1 (arm, again, x)))

module _ {P D : Type 0} {port : PortModel P} {d : DriverModel D} {l : LayoutModel} (law : IsLawfulDriver d) (from : Driven D) {p q : P}
    {v : DriverView} {y : D} where
  -- ---- what was done is the same

  same_held : DriveOpens d l from v → (answer : DriverAct) (h : IsDriverStep port d p q v from.end y answer) (st' : GuestStage) (t : Turn)
      → (d.side.after v h.op h.access h.got).done ≡ v.done → is_done st' ≡ false
      → HandIs d.words from.script from.returned v.frame v.done st' (d.begun y) from.hand
      → BegunIs st' (d.begun y) (next_of d.words from.script from.at v.frame v.done) v.frame v.done
      → ArmedIs st' (d.begun y) (d.side.after v h.op h.access h.got).doing (d.side.after v h.op h.access h.got).armed
      → OpIs (d.begun y) (d.side.after v h.op h.access h.got).doing (d.side.after v h.op h.access h.got).shown (d.left y)
      → (t ≡ Slept) ↔ (answer ≡ act.Asleep) → woke t ≡ driver_woken h.op answer
      → hand_owes from.hand (d.begun y) (d.left y) (owes st' (d.begun y) (d.side.after v h.op h.access h.got).doing
      (d.side.after v h.op h.access h.got).shown (d.left y)) + counted t ≤ owes_at d from v + 64 * woke t
      → IsDriveTurn port d l p q v from (to from y st') t
  same_held opens answer h st' t done live held begun armed op looked woken paid =
      let x = opens.drives in
      let v' : DriverView = d.side.after v h.op h.access h.got in
      let framed : v'.frame ≡ v.frame = law.framed v h.op h.access h.got in
      let on : (Q : Frame → List DriverDone → Type 0) → Q v.frame v.done → Q v'.frame v'.done =
      λ Q z. subst (λ (f : Frame). Q f v'.done) (sym framed) (subst (λ (o : List DriverDone). Q v.frame o) (sym done) z) in
      record {
        op = h.op;
        access = h.access;
        got = h.got;
        was_next = h.was_next;
        moved = h.moved;
        drives = record {
          stands = h.now_stands;
          settled = x.settled;
          chained = λ none. on (λ f o. HasOffered from.script from.at from.offered from.returned f o) (x.chained none);
          sent = λ some. on (λ f o. IsSent d.words l from.script from.offered from.returned f o) (x.sent some);
          held = on (λ f o. HandIs d.words from.script from.returned f o st' (d.begun y) from.hand) held;
          count = on (λ f o. length (offers o) ≡ length (collects o) + length (open_at o)) x.count;
          begun = on (λ f o. BegunIs st' (d.begun y) (next_of d.words from.script from.at f o) f o) begun;
          done = less_live st' (length from.returned) (scripted from.script) live (live_less from.stage (length from.returned)
              (scripted from.script) opens.live x.done);
          armed = armed;
          op = op;
          few = x.few;
        };
        grows = record {
          offers = prefix_same (offers v.done) (offers v'.done) (ap offers done);
          collects = prefix_same (collects v.done)
              (collects v'.done) (ap collects done);
        };
        acts = inl done;
        looked = subst (λ z. (t ≡ Slept) ↔ (z ≡ act.Asleep)) h.is_answer looked;
        slept = λ z. live;
        woken = subst (λ z. woke t ≡ driver_woken h.op z) h.is_answer woken;
        paid = omega (arith, paid);
      }

  -- with nothing in hand, and no command's offer begun
  pub same_turn : DriveOpens d l from v → (answer : DriverAct) (h : IsDriverStep port d p q v from.end y answer) (st' : GuestStage)
      (t : Turn)
      → (d.side.after v h.op h.access h.got).done ≡ v.done → is_done st' ≡ false → from.hand ≡ hand.Free → IsNoOffer (d.begun y)
      → BegunIs st' (d.begun y) (next_of d.words from.script from.at v.frame v.done) v.frame v.done
      → ArmedIs st' (d.begun y) (d.side.after v h.op h.access h.got).doing (d.side.after v h.op h.access h.got).armed
      → OpIs (d.begun y) (d.side.after v h.op h.access h.got).doing (d.side.after v h.op h.access h.got).shown (d.left y)
      → (t ≡ Slept) ↔ (answer ≡ act.Asleep) → woke t ≡ driver_woken h.op answer
      → owes st' (d.begun y) (d.side.after v h.op h.access h.got).doing (d.side.after v h.op h.access h.got).shown (d.left y) + counted t
      ≤ owes from.stage (d.begun from.end) v.doing v.shown (d.left from.end) + 64 * woke t
      → IsDriveTurn port d l p q v from (to from y st') t
  same_turn opens answer h st' t done live free other begun armed op looked woken paid =
      let x = opens.drives in
      let v' : DriverView = d.side.after v h.op h.access h.got in
      let back = all_back d.words from.script from.returned v.frame v.done from.stage (d.begun from.end) from.hand free x.held in
      same_held opens answer h st' t done live
      (still_free d.words from.script from.returned v.frame v.done st' (d.begun y) from.hand free back (λ some. other))
      begun armed op looked woken
      (omega (
        arith,
        paid,
        owes_free from.hand (d.begun y) (d.left y) (owes st' (d.begun y) v'.doing v'.shown (d.left y)) free,
        owes_free from.hand (d.begun from.end) (d.left from.end)
            (owes from.stage (d.begun from.end) v.doing v.shown (d.left from.end)) free,
      ))

  pub went_on : DriveOpens d l from v → IsDriverStep port d p q v from.end y act.Moved
      → IsDriveTurn port d l p q v from (to from y from.stage) Worked
  went_on opens h =
      let x = opens.drives in
      let v' : DriverView = d.side.after v h.op h.access h.got in
      let next = next_of d.words from.script from.at v.frame v.done in
      let g = went from.stage next v.frame v.done h.op v v' (d.left from.end) (d.left y) (d.begun from.end)
      (d.begun y) x.begun h.of_it x.armed x.op h.says.0 h.left (goes_of law from h) in
      same_held opens act.Moved h from.stage Worked h.says.1 opens.live
      (held_on d.words from.script from.returned v.frame v.done from.stage (d.begun from.end) (d.begun y) h.op from.hand h.says.0 h.of_it
      x.held)
      (goes_on next v.frame v.done from.stage (d.begun from.end) (d.begun y) h.says.0 x.begun) g.armed g.op
      (no_sleep act.Moved (λ z. cc z)) (not_woken h.op act.Moved (λ z. cc z))
      (omega (
        arith,
        owes_on d.words from.script from.returned v.frame v.done from.stage (d.begun from.end) (d.begun y) h.op from.hand
            (d.left from.end) (d.left y) (owes from.stage (d.begun from.end) v.doing v.shown (d.left from.end))
            (owes from.stage (d.begun y) v'.doing v'.shown (d.left y)) h.says.0 h.of_it x.held h.left g.paid,
      ))

-- an access from before its operation was begun: it is the access after that
pub from_begun : {P D : Type 0} {port : PortModel P} {d : DriverModel D} {l : LayoutModel} {p q : P} {v : DriverView} {y : Driven D}
    {t : Turn} (x : Loaded) (a b : D) → Begins d l (drive a x) (drive b x) → DriveOpens d l (drive a x) v
    → IsDue d (drive a x) v None
    → (DriveOpens d l (drive b x) v → IsDriveTurn port d l p q v (drive b x) y t) → IsDriveTurn port d l p q v (drive a x) y t
from_begun {v = v} x a b next opens due f =
    let go = next v opens due in
    let h = f go.opens in
    record {
      op = h.op;
      access = h.access;
      got = h.got;
      was_next = h.was_next;
      moved = h.moved;
      drives = h.drives;
      grows = h.grows;
      acts = h.acts;
      looked = h.looked;
      slept = h.slept;
      woken = h.woken;
      paid = omega (arith, h.paid, go.owes);
    }
