-- What an access that ends no operation but a signal leaves of a model guest: whether it is armed, what it was shown, and what it owes.
use Rattle.std.proofs.Common.{◌≡◌, ◌≢◌, ◌⊎◌, ℕ, ◌+◌, ◌<◌, ◌≤◌, Bool, true, false, Option, Some, None, List, refl, sym, ◌∙◌, ap, subst, arith, inl, inr}
use Rattle.vd_model.specs.declared.chain.Piece.{Piece}
use Rattle.vd_words.specs.declared.access.Op.{Op}
use Rattle.vd_words.specs.declared.access.Op.TheVariants as op
use Rattle.vd_ring.specs.declared.driver.DriverDone.{DriverDone}
use Rattle.vd_ring.specs.declared.driver.DriverNow.{DriverNow}
use Rattle.vd_ring.specs.declared.driver.DriverNow.TheVariants as now
use Rattle.vd_ring.specs.declared.driver.DriverView.{DriverView}
use Rattle.vd_ring.specs.declared.frame.Frame.{Frame}
use Rattle.vd_ring.specs.Looks.{DriverLooksNow}
use Rattle.vd_layout.specs.Begun.{DriverOp, DriverPublished, DriverGoesOn, MayWake, IsDriverOp}
use Rattle.vd_models.specs.declared.driving.GuestStage.{GuestStage}
use Rattle.vd_models.specs.declared.driving.GuestStage.TheVariants as stage
use Rattle.vd_models.specs.GuestStages.{BegunIs, ArmedIs, OpIs, IsStuck, hear_owes, collect_owes, idle_owes, owes}

-- ---- the stage by the operation that was begun

module _ (next : Option (List Piece)) (f : Frame) (o : List DriverDone) where
  pub at_offer : (c : List Piece) (st : GuestStage) → BegunIs st (DriverOp.offer c) next f o → (st ≡ stage.Offering) × (next ≡ Some c)
  at_offer c stage.Offering h = (refl, h)
  at_offer c stage.Collecting h = absurd h
  at_offer c stage.Arming h = absurd h
  at_offer c stage.Hearing h = absurd h
  at_offer c stage.Done h = absurd h

  pub at_collect : (st : GuestStage) → BegunIs st DriverOp.collect next f o
      → ((st ≡ stage.Offering) × IsStuck next f o) ⊎ (st ≡ stage.Collecting)
  at_collect stage.Offering h = inl (refl, h)
  at_collect stage.Collecting h = inr refl
  at_collect stage.Arming h = absurd h
  at_collect stage.Hearing h = absurd h
  at_collect stage.Done h = absurd h

  pub at_arm : (st : GuestStage) → BegunIs st DriverOp.arm next f o → (st ≡ stage.Arming) × IsStuck next f o
  at_arm stage.Arming h = (refl, h)
  at_arm stage.Offering h = absurd h
  at_arm stage.Collecting h = absurd h
  at_arm stage.Hearing h = absurd h
  at_arm stage.Done h = absurd h

  pub at_hear : (st : GuestStage) → BegunIs st DriverOp.hear next f o → (st ≡ stage.Hearing) × IsStuck next f o
  at_hear stage.Hearing h = (refl, h)
  at_hear stage.Offering h = absurd h
  at_hear stage.Collecting h = absurd h
  at_hear stage.Arming h = absurd h
  at_hear stage.Done h = absurd h

  pub at_disarm : (st : GuestStage) → BegunIs st DriverOp.disarm next f o → ⊥
  at_disarm stage.Offering h = h
  at_disarm stage.Collecting h = h
  at_disarm stage.Arming h = h
  at_disarm stage.Hearing h = h
  at_disarm stage.Done h = h

  published_at : (st : GuestStage) → BegunIs st DriverOp.signal next f o → BegunIs st DriverOp.idle next f o
  published_at stage.Offering h = h
  published_at stage.Collecting h = h
  published_at stage.Arming h = absurd h
  published_at stage.Hearing h = absurd h
  published_at stage.Done h = absurd h

  pub goes_on : (st : GuestStage) (b b' : DriverOp) → DriverGoesOn b b' → BegunIs st b next f o → BegunIs st b' next f o
  goes_on st DriverOp.signal b' (inl e) h = subst (λ z. BegunIs st z next f o) (sym e) (published_at st h)
  goes_on st DriverOp.signal b' (inr e) h = subst (λ z. BegunIs st z next f o) (sym e) h
  goes_on st DriverOp.idle b' g h = subst (λ z. BegunIs st z next f o) (sym g) h
  goes_on st (DriverOp.offer c) b' g h = subst (λ z. BegunIs st z next f o) (sym g) h
  goes_on st DriverOp.collect b' g h = subst (λ z. BegunIs st z next f o) (sym g) h
  goes_on st DriverOp.arm b' g h = subst (λ z. BegunIs st z next f o) (sym g) h
  goes_on st DriverOp.hear b' g h = subst (λ z. BegunIs st z next f o) (sym g) h
  goes_on st DriverOp.disarm b' g h = subst (λ z. BegunIs st z next f o) (sym g) h

  -- it wakes only from an arming or a hearing
  pub wakes_at : (st : GuestStage) (b : DriverOp) → MayWake b → BegunIs st b next f o
      → (((b ≡ DriverOp.arm) × (st ≡ stage.Arming)) ⊎ ((b ≡ DriverOp.hear) × (st ≡ stage.Hearing))) × IsStuck next f o
  wakes_at st DriverOp.arm m h = let a = at_arm st h in (inl (refl, a.0), a.1)
  wakes_at st DriverOp.hear m h = let a = at_hear st h in (inr (refl, a.0), a.1)
  wakes_at st DriverOp.disarm m h = absurd (at_disarm st h)
  wakes_at st DriverOp.idle m h = absurd m
  wakes_at st DriverOp.signal m h = absurd m
  wakes_at st DriverOp.collect m h = absurd m
  wakes_at st (DriverOp.offer c) m h = absurd m

-- ---- armed

-- while it offers, collects or signals it is not armed, and the access is of no arming
pub record IsUnarming (st : GuestStage) (o : Op) (armed : Option ℕ) : Type 0 where
  pub other : o ≢ op.Arm
  pub awake : st ≢ stage.Hearing
  pub none : armed ≡ None

pub unarming : (st : GuestStage) (b : DriverOp) (d : DriverNow) (next : Option (List Piece)) (f : Frame) (os : List DriverDone) (o : Op)
    (armed : Option ℕ) → b ≢ DriverOp.arm
    → b ≢ DriverOp.hear → BegunIs st b next f os → IsDriverOp b o → ArmedIs st b d armed → IsUnarming st o armed
unarming stage.Offering b d next f os o armed x y h of a = record { other = other b x of; awake = λ z. cc z; none = a }
  where
    other : (b : DriverOp) → b ≢ DriverOp.arm → IsDriverOp b o → o ≢ op.Arm
    other DriverOp.idle x of z = of
    other (DriverOp.offer c) x of z = cc (of, z)
    other DriverOp.collect x of z = cc (of, z)
    other DriverOp.arm x of z = x refl
    other DriverOp.hear x of z = cc (of, z)
    other DriverOp.disarm x of z = cc (of, z)
    other DriverOp.signal x of z = cc (of, z)
unarming stage.Collecting b d next f os o armed x y h of a = record { other = other b x of; awake = λ z. cc z; none = a }
  where
    other : (b : DriverOp) → b ≢ DriverOp.arm → IsDriverOp b o → o ≢ op.Arm
    other DriverOp.idle x of z = of
    other (DriverOp.offer c) x of z = cc (of, z)
    other DriverOp.collect x of z = cc (of, z)
    other DriverOp.arm x of z = x refl
    other DriverOp.hear x of z = cc (of, z)
    other DriverOp.disarm x of z = cc (of, z)
    other DriverOp.signal x of z = cc (of, z)
unarming stage.Arming DriverOp.idle d next f os o armed x y h of a = absurd of
unarming stage.Arming (DriverOp.offer c) d next f os o armed x y h of a = absurd h
unarming stage.Arming DriverOp.collect d next f os o armed x y h of a = absurd h
unarming stage.Arming DriverOp.arm d next f os o armed x y h of a = absurd (x refl)
unarming stage.Arming DriverOp.hear d next f os o armed x y h of a = absurd h
unarming stage.Arming DriverOp.disarm d next f os o armed x y h of a = absurd h
unarming stage.Arming DriverOp.signal d next f os o armed x y h of a = absurd h
unarming stage.Hearing DriverOp.idle d next f os o armed x y h of a = absurd of
unarming stage.Hearing (DriverOp.offer c) d next f os o armed x y h of a = absurd h
unarming stage.Hearing DriverOp.collect d next f os o armed x y h of a = absurd h
unarming stage.Hearing DriverOp.arm d next f os o armed x y h of a = absurd h
unarming stage.Hearing DriverOp.hear d next f os o armed x y h of a = absurd (y refl)
unarming stage.Hearing DriverOp.disarm d next f os o armed x y h of a = absurd h
unarming stage.Hearing DriverOp.signal d next f os o armed x y h of a = absurd h
unarming stage.Done DriverOp.idle d next f os o armed x y h of a = absurd of
unarming stage.Done (DriverOp.offer c) d next f os o armed x y h of a = absurd h
unarming stage.Done DriverOp.collect d next f os o armed x y h of a = absurd h
unarming stage.Done DriverOp.arm d next f os o armed x y h of a = absurd h
unarming stage.Done DriverOp.hear d next f os o armed x y h of a = absurd h
unarming stage.Done DriverOp.disarm d next f os o armed x y h of a = absurd h
unarming stage.Done DriverOp.signal d next f os o armed x y h of a = absurd h

pub armed_none : (st : GuestStage) (b : DriverOp) (d : DriverNow) (armed : Option ℕ) → st ≢ stage.Hearing → b ≢ DriverOp.arm
    → armed ≡ None → ArmedIs st b d armed
armed_none stage.Offering b d armed x y none = none
armed_none stage.Collecting b d armed x y none = none
armed_none stage.Done b d armed x y none = none
armed_none stage.Hearing b d armed x y none = absurd (x refl)
armed_none stage.Arming DriverOp.arm d armed x y none = absurd (y refl)
armed_none stage.Arming DriverOp.idle d armed x y none = none
armed_none stage.Arming DriverOp.signal d armed x y none = none
armed_none stage.Arming (DriverOp.offer c) d armed x y none = none
armed_none stage.Arming DriverOp.collect d armed x y none = none
armed_none stage.Arming DriverOp.hear d armed x y none = none
armed_none stage.Arming DriverOp.disarm d armed x y none = none

-- ---- what it owes

pub idle_small : (st : GuestStage) (shown : Bool) → idle_owes st shown ≤ 45
idle_small stage.Offering true = omega arith
idle_small stage.Offering false = omega arith
idle_small stage.Collecting shown = omega arith
idle_small stage.Arming shown = omega arith
idle_small stage.Hearing shown = omega arith
idle_small stage.Done shown = omega arith

pub offering_small : (shown : Bool) → idle_owes stage.Offering shown ≤ 44
offering_small true = omega arith
offering_small false = omega arith

pub collect_small : (st : GuestStage) (shown : Bool) (n : ℕ) → n ≤ 3 → n + 1 ≤ collect_owes st shown n
collect_small st true n few = omega arith
collect_small stage.Offering false n few = omega arith
collect_small stage.Collecting false n few = omega arith
collect_small stage.Arming false n few = omega arith
collect_small stage.Hearing false n few = omega arith
collect_small stage.Done false n few = omega arith

pub published_owes : (st : GuestStage) (b : DriverOp) (d : DriverNow) (shown : Bool) (n : ℕ) → DriverPublished b
    → owes st b d shown n ≤ n + 45
published_owes st b d shown n (inl e) = subst (λ o. owes st o d shown n ≤ n + 45) (sym e) (omega (arith, idle_small st shown))
published_owes st b d shown n (inr e) = subst (λ o. owes st o d shown n ≤ n + 45) (sym e) (omega arith)

pub published_op : (b : DriverOp) (d : DriverNow) (shown : Bool) (left : ℕ) → DriverPublished b → OpIs b d shown left
published_op b d shown left (inl e) = subst (λ z. OpIs z d shown left) (sym e) tt
published_op b d shown left (inr e) = subst (λ z. OpIs z d shown left) (sym e) tt

pub published_not : (b : DriverOp) → DriverPublished b → b ≢ DriverOp.arm
published_not b (inl e) z = cc (e, z)
published_not b (inr e) z = cc (e, z)

-- ---- an access in the middle

-- what holds after it
pub record Went (st : GuestStage) (b : DriverOp) (w : DriverView) (left owed : ℕ) : Type 0 where
  pub armed : ArmedIs st b w.doing w.armed
  pub op : OpIs b w.doing w.shown left
  pub paid : owes st b w.doing w.shown left + 1 ≤ owed

-- what the end's laws say of it
pub record Goes (o : Op) (v w : DriverView) : Type 0 where
  pub unarmed : o ≢ op.Arm → v.armed ≡ None → w.armed ≡ None
  pub shown : (v.shown ≡ true) ⊎ DriverLooksNow v o → w.shown ≡ true
  pub disarms : o ≡ op.Arm → w.doing ≡ now.Disarming op.Arm → DriverLooksNow v o
  pub arms : o ≡ op.Arm → v.doing ≡ now.Idle → (w.doing ≡ now.Arming) × (t : ℕ) × (w.armed ≡ Some t)
  pub woke : o ≡ op.Arm → v.doing ≡ now.Arming → w.doing ≡ now.Disarming op.Arm
  pub heard : o ≡ op.Hear → v.doing ≡ now.Idle → w.doing ≡ now.Disarming op.Hear
  pub busy : v.doing ≡ now.Disarming o → ⊥

same_op : (st : GuestStage) (b b' : DriverOp) (w : DriverView) (left owed : ℕ) → b' ≡ b → Went st b w left owed → Went st b' w left owed
same_op st b b' w left owed e h = subst (λ z. Went st z w left owed) (sym e) h

module _ (st : GuestStage) (next : Option (List Piece)) (f : Frame) (os : List DriverDone) (o : Op) (v w : DriverView)
    (left left' : ℕ) where
  collecting : BegunIs st DriverOp.collect next f os → o ≡ op.Collect → ArmedIs st DriverOp.collect v.doing v.armed
      → OpIs DriverOp.collect v.doing v.shown left → left' < left → Goes o v w
      → Went st DriverOp.collect w left' (collect_owes st v.shown left)
  collecting h of a i less g =
      let u = unarming st DriverOp.collect v.doing next f os o v.armed (λ z. cc z) (λ z. cc z) h of a in
      let sees : w.shown ≡ true = g.shown (elim i.0 [ inl idle ↦ inr (inl (of, idle)) | inr shown ↦ inl shown ]) in
      record {
        armed = armed_none st DriverOp.collect w.doing w.armed u.awake (λ z. cc z) (g.unarmed u.other u.none);
        op = (inr sees, omega (arith, i.1));
        paid = omega (arith, collect_small st v.shown left i.1, ap (λ s. collect_owes st s left') sees);
      }

  arming : BegunIs st DriverOp.arm next f os → o ≡ op.Arm → ArmedIs st DriverOp.arm v.doing v.armed → left' < left → Goes o v w
      → Went st DriverOp.arm w left' (left + 40)
  arming h of a less g =
      let is = (at_arm next f os st h).0 in
      let b : ArmedIs stage.Arming DriverOp.arm v.doing v.armed = subst (λ (s : GuestStage). ArmedIs s DriverOp.arm v.doing v.armed) is a in
      record {
        armed = subst (λ (s : GuestStage). ArmedIs s DriverOp.arm w.doing w.armed) (sym is) (elim b [
          | inl idle ↦ (let x = g.arms of idle in inr (inl (x.0, x.1, x.2)))
          | inr (inl x) ↦ inr (inr (g.woke of x.0))
          | inr (inr x) ↦ absurd (g.busy (x ∙ ap now.Disarming (sym of)))
        ]);
        op = λ d. g.shown (inr (g.disarms of d));
        paid = omega arith;
      }

  hearing : BegunIs st DriverOp.hear next f os → o ≡ op.Hear → ArmedIs st DriverOp.hear v.doing v.armed → Goes o v w
      → Went st DriverOp.hear w left' (hear_owes v.doing)
  hearing h of a g =
      let is = (at_hear next f os st h).0 in
      let b : ArmedIs stage.Hearing DriverOp.hear v.doing v.armed = subst (λ
      (s : GuestStage). ArmedIs s DriverOp.hear v.doing v.armed) is a in
      elim b [
        | inl x ↦ (
            let d : w.doing ≡ now.Disarming op.Hear = g.heard of x.0 in
            record {
              armed = subst (λ (s : GuestStage). ArmedIs s DriverOp.hear w.doing w.armed) (sym is) (inr d);
              op = tt;
              paid = omega (arith, ap hear_owes d, ap hear_owes x.0);
            }
            )
        | inr d ↦ absurd (g.busy (d ∙ ap now.Disarming (sym of)))
      ]

  pub went : (b b' : DriverOp) → BegunIs st b next f os → IsDriverOp b o → ArmedIs st b v.doing v.armed → OpIs b v.doing v.shown left
      → DriverGoesOn b b' → left' < left → Goes o v w
      → Went st b' w left' (owes st b v.doing v.shown left)
  went DriverOp.collect b' h of a i goes less g = same_op st DriverOp.collect b' w left' (collect_owes st v.shown left) goes
      (collecting h of a i less g)
  went DriverOp.arm b' h of a i goes less g = same_op st DriverOp.arm b' w left' (left + 40) goes (arming h of a less g)
  went DriverOp.hear b' h of a i goes less g = same_op st DriverOp.hear b' w left' (hear_owes v.doing) goes (hearing h of a g)
  went (DriverOp.offer c) b' h of a i goes less g =
      let u = unarming st (DriverOp.offer c) v.doing next f os o v.armed (λ z. cc z) (λ z. cc z) h of a in
      same_op st (DriverOp.offer c) b' w left' left goes record {
        armed = armed_none st (DriverOp.offer c) w.doing w.armed u.awake (λ z. cc z) (g.unarmed u.other u.none);
        op = tt;
        paid = omega arith;
      }
  went DriverOp.signal b' h of a i goes less g =
      let u = unarming st DriverOp.signal v.doing next f os o v.armed (λ z. cc z) (λ z. cc z) h of a in
      record {
        armed = armed_none st b' w.doing w.armed u.awake (published_not b' goes) (g.unarmed u.other u.none);
        op = published_op b' w.doing w.shown left' goes;
        paid = omega (arith, published_owes st b' w.doing w.shown left' goes);
      }
  went DriverOp.disarm b' h of a i goes less g = absurd (at_disarm next f os st h)
  went DriverOp.idle b' h of a i goes less g = absurd of
