-- What a look that shows nothing, an arming and a hearing leave of a model guest.
use Rattle.std.proofs.Common.{◌≡◌, ◌≢◌, ℕ, ◌+◌, ◌*◌, ◌≤◌, Bool, true, false, Option, Some, None, List, refl, sym, ◌∙◌, ap, subst, arith, inl, inr}
use Rattle.vd_words.specs.declared.access.Op.TheVariants as op
use Rattle.vd_words.specs.Model.{PortModel}
use Rattle.vd_words.specs.Own.{IsOwn}
use Rattle.vd_ring.specs.declared.act.DriverAct.TheVariants as act
use Rattle.vd_ring.specs.declared.driver.DriverNow.TheVariants as now
use Rattle.vd_ring.specs.declared.driver.DriverNow.{DriverNow}
use Rattle.vd_ring.specs.declared.frame.Frame.{Frame}
use Rattle.vd_ring.specs.declared.driver.DriverDone.{DriverDone}
use Rattle.vd_model.specs.declared.chain.Piece.{Piece}
use Rattle.vd_ring.specs.declared.driver.DriverView.{DriverView}
use Rattle.vd_ring.specs.Looks.{DriverGoes}
use Rattle.vd_ring.specs.Sleep.{driver_woken}
use Rattle.vd_layout.specs.Begun.{DriverOp, IsDriverOp}
use Rattle.vd_layout.specs.Driver.{DriverModel, IsDriverStep, IsLawfulDriver}
use Rattle.vd_layout.specs.Layout.{LayoutModel}
use Rattle.vd_models.specs.declared.counts.Turn.{Turn}
use Rattle.vd_models.specs.declared.counts.Turn.TheVariants.{Worked, Woke, Slept}
use Rattle.vd_models.specs.declared.driving.GuestStage.{GuestStage}
use Rattle.vd_models.specs.declared.driving.GuestStage.TheVariants as stage
use Rattle.vd_models.specs.Counting.{counted, woke}
use Rattle.vd_models.specs.GuestStages.{BegunIs, ArmedIs, OpIs, IsStuck, is_done, idle_owes, hear_owes, collect_owes, owes, none_stage, woken_stage, waking_turn}
use Rattle.vd_models.specs.Pending.{HandIs, IsNoOffer}
use Rattle.vd_models.specs.Driving.{Driven, DriveOpens, IsDriveTurn, next_of}
use Rattle.vd_models.specs.declared.pending.Pending.TheVariants as hand
use Rattle.vd_models.proofs.GuestGoing.{at_collect, at_arm, at_hear, wakes_at, unarming, armed_none, idle_small, offering_small}
use Rattle.vd_models.proofs.Drives.{to, same_turn, not_woken, no_sleep, free_at}

woken_live : (armed : Bool) → is_done (woken_stage armed) ≡ false
woken_live true = refl
woken_live false = refl

woken_owes : (armed : Bool) (shown : Bool) → shown ≡ true → idle_owes (woken_stage armed) shown ≤ 40
woken_owes true shown is = omega arith
woken_owes false true is = omega arith
woken_owes false false is = absurd (cc is)

arms_at : (d : DriverNow) (armed : Option ℕ) → ArmedIs stage.Arming DriverOp.arm d armed → d ≡ now.Arming → (t : ℕ) × (armed ≡ Some t)
arms_at d armed (inl x) again = absurd (cc (x, again))
arms_at d armed (inr (inl x)) again = (x.1, x.2)
arms_at d armed (inr (inr x)) again = absurd (cc (x, again))

sleeps : (d : DriverNow) (armed : Option ℕ) → ArmedIs stage.Hearing DriverOp.hear d armed → d ≡ now.Idle → (t : ℕ) × (armed ≡ Some t)
sleeps d armed (inl x) idle = (x.1, x.2)
sleeps d armed (inr x) idle = absurd (cc (x, idle))

woken_is : (armed : Bool) (next : Option (List Piece)) (f : Frame) (os : List DriverDone) → IsStuck next f os
    → BegunIs (woken_stage armed) DriverOp.idle next f os
woken_is true next f os stuck = stuck
woken_is false next f os stuck = tt

woken_armed : {D : Type 0} {d : DriverModel D} (law : IsLawfulDriver d) (y : D) (armed : Bool) (v : DriverView) → d.stands y v
    → d.armed y ≡ armed → ArmedIs (woken_stage armed) DriverOp.idle v.doing v.armed
woken_armed law y true v stands is = law.armed y v stands is
woken_armed law y false v stands is = law.unarmed y v stands is

-- while no command is offered nothing is in hand
unheld : {D : Type 0} (d : DriverModel D) (l : LayoutModel) (x : Driven D) (v : DriverView) → DriveOpens d l x v → (b : DriverOp)
    → d.begun x.end ≡ b → (b ≡ DriverOp.idle → ⊥) → IsNoOffer b → x.hand ≡ hand.Free
unheld d l x v opens b is busy other =
    free_at d.words x.script x.returned v.frame v.done x.stage b x.hand busy other
    (subst (λ z. HandIs d.words x.script x.returned v.frame v.done x.stage z x.hand) is opens.drives.held)

no_offer : {D : Type 0} (d : DriverModel D) (y : D) → d.begun y ≡ DriverOp.idle → IsNoOffer (d.begun y)
no_offer d y is = subst (λ z. IsNoOffer z) (sym is) tt

module _ {P D : Type 0} {port : PortModel P} {d : DriverModel D} (law : IsLawfulDriver d) (from : Driven D) {p q : P} {v : DriverView}
    {y : D} where
  unshown : (shown : Bool) → (h : IsDriverStep port d p q v from.end y act.Nothing) → v.shown ≡ shown → IsOwn port d.side p v → shown
      ≡ false
  unshown false h is own = refl
  unshown true h is own =
      let n = (law.looks.nothing v h.op h.access h.got h.was_next).0 (sym h.is_answer) in
      let t : d.shows v h.got ≡ true = law.stays.again v h.op h.access h.got h.was_next
      (own.told h.op h.access h.was_next h.got q h.moved) (inl (n.0, n.1)) is in
      absurd (cc (t, n.2))

  -- an arming that ends with Awake was shown an entry
  shown_at : (h : IsDriverStep port d p q v from.end y act.Awake) → h.op ≡ op.Arm → OpIs DriverOp.arm v.doing v.shown (d.left from.end)
      → (d.side.after v h.op h.access h.got).shown ≡ true
  shown_at h arm i = law.stays.shown v h.op h.access h.got h.was_next (subst (λ z. DriverGoes z) h.is_answer tt)
      (elim ((law.looks.awake v h.op h.access h.got h.was_next).0 (sym h.is_answer)) [
        | inl x ↦ elim x.0 [ inl a ↦ inr (inr (a.0, a.1)) | inr z ↦ absurd (cc (arm, z.0)) ]
        | inr (inl z) ↦ inl (i (z ∙ ap now.Disarming arm))
        | inr (inr z) ↦ absurd (cc (arm, z))
      ])

module _ {P D : Type 0} {port : PortModel P} {d : DriverModel D} {l : LayoutModel} (law : IsLawfulDriver d) (from : Driven D) {p q : P}
    {v : DriverView} {y : D} where
  -- ---- a look that shows nothing

  pub found_none : DriveOpens d l from v → IsOwn port d.side p v → IsDriverStep port d p q v from.end y act.Nothing
      → IsDriveTurn port d l p q v from (to from y (none_stage from.stage)) Worked
  found_none opens own h =
      let x = opens.drives in
      let v' : DriverView = d.side.after v h.op h.access h.got in
      let next = next_of d.words from.script from.at v.frame v.done in
      let none : v.shown ≡ false = unshown law from v.shown h refl own in
      let free = unheld d l from v opens DriverOp.collect h.says.0 (λ z. cc z) tt in
      let u = unarming from.stage (d.begun from.end) v.doing next v.frame v.done h.op v.armed (λ z. cc (z, h.says.0)) (λ z. cc
      (z, h.says.0)) x.begun h.of_it x.armed in
      let unarmed : v'.armed ≡ None = law.stays_unarmed v h.op h.access h.got u.other u.none in
      let owed : owes from.stage (d.begun from.end) v.doing v.shown (d.left from.end) ≡ collect_owes from.stage false
      (d.left from.end) = ap (λ z. owes from.stage z v.doing v.shown
      (d.left from.end)) h.says.0 ∙ ap (λ z. collect_owes from.stage z (d.left from.end)) none in
      let build : (st' : GuestStage) → is_done st' ≡ false → st' ≢ stage.Hearing → BegunIs st' DriverOp.idle next v.frame v.done
      → idle_owes st' v'.shown + 1 ≤ collect_owes from.stage false (d.left from.end)
      → IsDriveTurn port d l p q v from (to from y st') Worked =
      λ st' live awake begun paid. same_turn law from opens act.Nothing h st' Worked h.says.2 live free (no_offer d y h.says.1)
      (subst (λ z. BegunIs st' z next v.frame v.done) (sym h.says.1) begun)
      (armed_none st' (d.begun y) v'.doing v'.armed awake (λ z. cc (z, h.says.1)) unarmed)
      (subst (λ z. OpIs z v'.doing v'.shown (d.left y)) (sym h.says.1) tt)
      (no_sleep act.Nothing (λ z. cc z)) (not_woken h.op act.Nothing (λ z. cc z))
      (omega (arith, paid, owed, ap (λ z. owes st' z v'.doing v'.shown (d.left y)) h.says.1)) in
      elim (at_collect next v.frame v.done from.stage (subst (λ z. BegunIs from.stage z next v.frame v.done) h.says.0 x.begun)) [
        | inl a ↦ subst (λ (z : GuestStage). IsDriveTurn port d l p q v from (to from y z) Worked) (sym
            (ap none_stage a.0))
            (build stage.Arming refl (λ z. cc z) a.1 (omega (arith, ap (λ (z : GuestStage). collect_owes z false (d.left from.end)) a.0)))
        | inr a ↦ subst (λ (z : GuestStage). IsDriveTurn port d l p q v from (to from y z) Worked) (sym (ap none_stage a))
            (build stage.Offering refl (λ z. cc z) tt (omega
            (arith, offering_small v'.shown, ap (λ (z : GuestStage). collect_owes z false (d.left from.end)) a)))
      ]

  pub armed_at : DriveOpens d l from v → IsDriverStep port d p q v from.end y act.Armed
      → IsDriveTurn port d l p q v from (to from y stage.Hearing) Worked
  armed_at opens h =
      let x = opens.drives in
      let v' : DriverView = d.side.after v h.op h.access h.got in
      let next = next_of d.words from.script from.at v.frame v.done in
      let t = at_arm next v.frame v.done from.stage (subst (λ z. BegunIs from.stage z next v.frame v.done) h.says.0 x.begun) in
      let again : v.doing ≡ now.Arming = ((law.looks.armed v h.op h.access h.got h.was_next).0 (sym h.is_answer)).1 in
      let stands : (z : ℕ) × (v.armed ≡ Some z) = arms_at v.doing v.armed (subst (λ z. ArmedIs stage.Arming z v.doing v.armed) h.says.0
      (subst (λ (z : GuestStage). ArmedIs z (d.begun from.end) v.doing v.armed) t.0 x.armed)) again in
      let some : (z : ℕ) × (v'.armed ≡ Some z) = (
        stands.0,
        law.stays.armed v h.op h.access h.got h.was_next (sym h.is_answer)
            ∙ stands.1,
      ) in
      same_turn law from opens act.Armed h stage.Hearing Worked h.says.2 refl
      (unheld d l from v opens DriverOp.arm h.says.0 (λ z. cc z) tt) (no_offer d y h.says.1)
      (subst (λ z. BegunIs stage.Hearing z next v.frame v.done) (sym h.says.1) t.1)
      (subst (λ z. ArmedIs stage.Hearing z v'.doing v'.armed) (sym h.says.1) some)
      (subst (λ z. OpIs z v'.doing v'.shown (d.left y)) (sym h.says.1) tt)
      (no_sleep act.Armed (λ z. cc z)) (not_woken h.op act.Armed (λ z. cc z))
      (omega (
        arith,
        h.left,
        ap (λ z. owes stage.Hearing z v'.doing v'.shown (d.left y)) h.says.1,
        ap (λ z. owes from.stage z v.doing v.shown
            (d.left from.end)) h.says.0,
      ))

  pub slept_at : DriveOpens d l from v → IsDriverStep port d p q v from.end y act.Asleep
      → IsDriveTurn port d l p q v from (to from y from.stage) Slept
  slept_at opens h =
      let x = opens.drives in
      let v' : DriverView = d.side.after v h.op h.access h.got in
      let next = next_of d.words from.script from.at v.frame v.done in
      let t = at_hear next v.frame v.done from.stage (subst (λ z. BegunIs from.stage z next v.frame v.done) h.says.0 x.begun) in
      let idle : v.doing ≡ now.Idle = ((law.looks.asleep v h.op h.access h.got h.was_next).0 (sym h.is_answer)).1 in
      let stays : v' ≡ v = law.stays.asleep v h.op h.access h.got h.was_next (sym h.is_answer) in
      let some = sleeps v.doing v.armed (subst (λ z. ArmedIs stage.Hearing z v.doing v.armed) h.says.0
      (subst (λ (z : GuestStage). ArmedIs z (d.begun from.end) v.doing v.armed) t.0 x.armed)) idle in
      let here : ArmedIs stage.Hearing DriverOp.idle v'.doing v'.armed = (some.0, ap (λ (z : DriverView). z.armed) stays ∙ some.1) in
      same_turn law from opens act.Asleep h from.stage Slept h.says.2 opens.live
      (unheld d l from v opens DriverOp.hear h.says.0 (λ z. cc z) tt) (no_offer d y h.says.1)
      (subst (λ (z : GuestStage). BegunIs z (d.begun y) next v.frame v.done) (sym t.0) (subst
      (λ z. BegunIs stage.Hearing z next v.frame v.done) (sym h.says.1) t.1))
      (subst (λ (z : GuestStage). ArmedIs z (d.begun y) v'.doing v'.armed) (sym t.0) (subst
      (λ z. ArmedIs stage.Hearing z v'.doing v'.armed) (sym h.says.1) here))
      (subst (λ z. OpIs z v'.doing v'.shown (d.left y)) (sym h.says.1) tt)
      ((λ z. refl), λ z. refl) (not_woken h.op act.Asleep (λ z. cc z))
      (omega (
        arith,
        ap (λ z. owes from.stage z v'.doing v'.shown (d.left y)) h.says.1,
        ap (λ (z : GuestStage). idle_owes z v'.shown) t.0,
        ap
            (λ z. owes from.stage z v.doing v.shown (d.left from.end)) h.says.0,
        ap hear_owes idle,
      ))

  pub woken_at : (armed : Bool) → DriveOpens d l from v → (h : IsDriverStep port d p q v from.end y act.Awake) → d.armed y ≡ armed
      → IsDriveTurn port d l p q v from (to from y (woken_stage armed)) (waking_turn from.stage)
  woken_at armed opens h is_armed =
      let x = opens.drives in
      let v' : DriverView = d.side.after v h.op h.access h.got in
      let next = next_of d.words from.script from.at v.frame v.done in
      let t = wakes_at next v.frame v.done from.stage (d.begun from.end) h.says.0 x.begun in
      let idle = h.says.1 in
      let free : from.hand ≡ hand.Free = elim t.0 [
        | inl a ↦ unheld d l from v opens DriverOp.arm a.0 (λ z. cc z) tt
        | inr a ↦ unheld d l from v opens DriverOp.hear a.0 (λ z. cc z) tt
      ] in
      let build : (u : Turn) → (u ≡ Slept → ⊥) → woke u ≡ driver_woken h.op act.Awake
      → idle_owes (woken_stage armed) v'.shown + counted u ≤ owes from.stage (d.begun from.end) v.doing v.shown
      (d.left from.end) + 64 * woke u
      → IsDriveTurn port d l p q v from (to from y (woken_stage armed)) u =
      λ u no woken paid. same_turn law from opens act.Awake h (woken_stage armed) u h.says.2 (woken_live armed) free (no_offer d y idle)
      (subst (λ z. BegunIs (woken_stage armed) z next v.frame v.done) (sym idle) (woken_is armed next v.frame v.done t.1))
      (subst (λ z. ArmedIs (woken_stage armed) z v'.doing v'.armed) (sym idle) (woken_armed law y armed v' h.now_stands is_armed))
      (subst (λ z. OpIs z v'.doing v'.shown (d.left y)) (sym idle) tt)
      ((λ z. absurd (no z)), λ z. absurd (cc z)) woken
      (omega (arith, paid, ap (λ z. owes (woken_stage armed) z v'.doing v'.shown (d.left y)) idle)) in
      elim t.0 [
        | inl a ↦ (
            let arm : h.op ≡ op.Arm = subst (λ z. IsDriverOp z h.op) a.0 h.of_it in
            let shown : v'.shown ≡ true = shown_at law from h arm (subst (λ z. OpIs z v.doing v.shown (d.left from.end)) a.0 x.op) in
            subst (λ u. IsDriveTurn port d l p q v from (to from y (woken_stage armed)) u) (sym (ap waking_turn a.1))
            (build Worked (λ z. cc z) (sym (ap (λ z. driver_woken z act.Awake) arm)) (omega
            (arith, h.left, woken_owes armed v'.shown shown, ap (λ z. owes from.stage z v.doing v.shown (d.left from.end)) a.0)))
            )
        | inr a ↦ (
            let hears : h.op ≡ op.Hear = subst (λ z. IsDriverOp z h.op) a.0 h.of_it in
            subst (λ u. IsDriveTurn port d l p q v from (to from y (woken_stage armed)) u) (sym (ap waking_turn a.1))
            (build Woke (λ z. cc z) (sym (ap (λ z. driver_woken z act.Awake) hears)) (omega
            (arith, idle_small (woken_stage armed) v'.shown)))
            )
      ]
