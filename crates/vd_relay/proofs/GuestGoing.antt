-- What an access of the guest's ring that ends no operation but a signal leaves of a relay.
use Rattle.std.proofs.Common.{◌≡◌, ◌≢◌, ◌⊎◌, ℕ, ◌+◌, ◌<◌, ◌≤◌, Bool, true, false, Some, None, List, [], if◌then◌else◌, refl, sym, ◌∙◌, ap, subst, arith, inl, inr}
use Rattle.vd_model.specs.declared.chain.Piece.{Piece}
use Rattle.vd_words.specs.declared.access.Op.{Op}
use Rattle.vd_words.specs.declared.access.Op.TheVariants as op
use Rattle.vd_ring.specs.declared.device.DeviceNow.TheVariants as now
use Rattle.vd_ring.specs.declared.device.DeviceView.{DeviceView}
use Rattle.vd_ring.specs.declared.frame.Used.{Used}
use Rattle.vd_ring.specs.Looks.{DeviceLooksNow}
use Rattle.vd_layout.specs.Begun.{DeviceOp, DevicePublished, DeviceGoesOn, IsDeviceOp}
use Rattle.vd_relay.specs.declared.stage.Stage.{Stage}
use Rattle.vd_relay.specs.declared.stage.Stage.TheVariants as stage
use Rattle.vd_relay.specs.Pace.{guest_owes, guest_hears, take_owes, taking_owes, hear_owes}
use Rattle.vd_relay.specs.Stages.{GuestIs, TakesFrom, BackIs, GuestArmed, GuestArms, GuestHears, GuestShown}
use Rattle.vd_relay.proofs.Ops.{at_take, at_guest_signal, at_give, at_guest_arm, at_guest_hear, at_rest}

-- what the end's laws say of it
pub record Goes (o : Op) (v w : DeviceView) : Type 0 where
  pub unarmed : o ≢ op.Arm → v.armed ≡ None → w.armed ≡ None
  pub shown : (v.shown ≡ true) ⊎ DeviceLooksNow v o → w.shown ≡ true
  pub disarms : o ≡ op.Arm → w.doing ≡ now.Disarming op.Arm → DeviceLooksNow v o
  pub arms : o ≡ op.Arm → v.doing ≡ now.Idle → (w.doing ≡ now.Arming) × (t : ℕ) × (w.armed ≡ Some t)
  pub woke : o ≡ op.Arm → v.doing ≡ now.Arming → w.doing ≡ now.Disarming op.Arm
  pub heard : o ≡ op.Hear → v.doing ≡ now.Idle → w.doing ≡ now.Disarming op.Hear
  pub busy : v.doing ≡ now.Disarming o → ⊥
  pub other : o ≢ op.Disarm

-- what holds after it
pub record Went (st : Stage) (winding : Bool) (hand : List (List Piece)) (back : List Used) (b : DeviceOp)
    (w : DeviceView) (s : Bool) (left owed : ℕ) : Type 0 where
  pub is : GuestIs st b
  pub takes : TakesFrom b hand
  pub gives : BackIs b back
  pub armed : GuestArmed st b w.doing w.armed
  pub shown : GuestShown b w.doing w.shown left
  pub paid : guest_owes winding st b w.doing w.shown s left + 1 ≤ owed

take_small : (winding g s : Bool) (left left' : ℕ) → left ≤ 36 → left' < left → left' + 1 ≤ taking_owes winding g s left
take_small winding true s left left' few less = omega arith
take_small true false s left left' few less = omega arith
take_small false false true left left' few less = omega arith
take_small false false false left left' few less = omega arith

pub take_most : (winding g s : Bool) → take_owes winding g s ≤ (if winding then 4 else 47)
take_most true g s = omega arith
take_most false true s = omega arith
take_most false false true = omega arith
take_most false false false = omega arith

module _ (winding : Bool) (hand : List (List Piece)) (back : List Used) (o : Op) (v w : DeviceView) (s : Bool)
    (left left' : ℕ) where
  taking : o ≡ op.Take → v.armed ≡ None → TakesFrom DeviceOp.take hand → BackIs DeviceOp.take back
      → GuestShown DeviceOp.take v.doing v.shown left → left' < left → Goes o v w
      → Went stage.Taking winding hand back DeviceOp.take w s left' (taking_owes winding v.shown s left)
  taking of none t bk i less g =
      let sees : w.shown ≡ true = g.shown (elim i.0 [ inl idle ↦ inr (inl (of, idle)) | inr shown ↦ inl shown ]) in
      record {
        is = tt;
        takes = t;
        gives = bk;
        armed = g.unarmed (λ z. cc (of, z)) none;
        shown = (inr sees, omega (arith, i.1));
        paid = omega (arith, take_small winding v.shown s left left' i.1 less, ap (λ x. taking_owes winding x s left') sees);
      }

  giving : (k n : ℕ) → o ≡ op.Give → v.armed ≡ None → BackIs (DeviceOp.give k n) back → left' < left → Goes o v w
      → Went stage.Giving winding hand back (DeviceOp.give k n) w s left' left
  giving k n of none bk less g = record {
    is = tt;
    takes = tt;
    gives = bk;
    armed = g.unarmed (λ z. cc (of, z)) none;
    shown = tt;
    paid = omega arith;
  }

  resting : o ≡ op.Rest → v.armed ≡ None → back ≡ [] → left' < left → Goes o v w
      → Went stage.Resting winding hand back DeviceOp.rest w s left' left
  resting of none bk less g = record {
    is = tt;
    takes = tt;
    gives = bk;
    armed = g.unarmed (λ z. cc (of, z)) none;
    shown = tt;
    paid = omega arith;
  }

  arming : o ≡ op.Arm → GuestArms DeviceOp.arm v.doing v.armed → back ≡ [] → left' < left → Goes o v w
      → Went stage.ArmingGuest winding hand back DeviceOp.arm w s left' (left + (if winding then 6 else 42))
  arming of a bk less g = record {
    is = tt;
    takes = tt;
    gives = bk;
    armed = elim a [
      | inl idle ↦ (let x = g.arms of idle in inr (inl (x.0, (x.1, x.2))))
      | inr (inl x) ↦ inr (inr (g.woke of x.0))
      | inr (inr x) ↦ absurd (g.busy (x ∙ ap now.Disarming (sym of)))
    ];
    shown = λ d. g.shown (inr (g.disarms of d));
    paid = omega arith;
  }

  hears_less : (y : Bool) → (if y then 1 else 6) + 1 ≤ hear_owes y
  hears_less true = omega arith
  hears_less false = omega arith

  hearing : o ≡ op.Hear → GuestHears DeviceOp.hear v.doing v.armed → back ≡ [] → Goes o v w
      → Went stage.HearingGuest winding hand back DeviceOp.hear w s left' (guest_hears winding v.doing)
  hearing of a bk g = elim a [
    | inl x ↦ (
        let d : w.doing ≡ now.Disarming op.Hear = g.heard of x.0 in
        record {
          is = tt;
          takes = tt;
          gives = bk;
          armed = inr d;
          shown = tt;
          paid = omega (arith, hears_less winding, ap (guest_hears winding) d, ap (guest_hears winding) x.0);
        }
        )
    | inr d ↦ absurd (g.busy (d ∙ ap now.Disarming (sym of)))
  ]

  signalled : (b : DeviceOp) → DevicePublished b → o ≡ op.Give → v.armed ≡ None → back ≡ [] → left' < left → Goes o v w
      → Went stage.Taking winding hand back b w s left' (left + (if winding then 4 else 47))
  signalled b (inl e) of none bk less g = subst (λ y. Went stage.Taking winding hand back y w s left'
      (left + (if winding then 4 else 47))) (sym e) record {
        is = tt;
        takes = tt;
        gives = bk;
        armed = g.unarmed (λ z. cc (of, z)) none;
        shown = tt;
        paid = omega (arith, take_most winding w.shown s);
      }
  signalled b (inr e) of none bk less g = subst (λ y. Went stage.Taking winding hand back y w s left'
      (left + (if winding then 4 else 47))) (sym e) record {
        is = tt;
        takes = tt;
        gives = bk;
        armed = g.unarmed (λ z. cc (of, z)) none;
        shown = tt;
        paid = omega arith;
      }

  to_stage : (st x : Stage) (b' b : DeviceOp) (owed : ℕ) → st ≡ x → b' ≡ b → Went x winding hand back b w s left' owed
      → Went st winding hand back b' w s left' owed
  to_stage st x b' b owed e f h = subst (λ (y : Stage). Went y winding hand back b' w s left' owed) (sym e)
      (subst (λ y. Went x winding hand back y w s left' owed) (sym f) h)

  pub went : (st : Stage) (a b : DeviceOp) → GuestIs st a → IsDeviceOp a o → GuestArmed st a v.doing v.armed
      → TakesFrom a hand → BackIs a back → GuestShown a v.doing v.shown left → DeviceGoesOn a b → left' < left → Goes o v w
      → Went st winding hand back b w s left' (guest_owes winding st a v.doing v.shown s left)
  went st DeviceOp.take b h of ar t bk i goes less g =
      let e = at_take st h in
      to_stage st stage.Taking b DeviceOp.take (taking_owes winding v.shown s left) e goes (taking of (subst
      (λ (y : Stage). GuestArmed y DeviceOp.take v.doing v.armed) e ar) t bk i less g)
  went st (DeviceOp.give k n) b h of ar t bk i goes less g =
      let e = at_give k n st h in
      to_stage st stage.Giving b (DeviceOp.give k n) left e goes (giving k n of (subst
      (λ (y : Stage). GuestArmed y (DeviceOp.give k n) v.doing v.armed) e ar) bk less g)
  went st DeviceOp.rest b h of ar t bk i goes less g =
      let e = at_rest st h in
      to_stage st stage.Resting b DeviceOp.rest left e goes (resting of (subst
      (λ (y : Stage). GuestArmed y DeviceOp.rest v.doing v.armed) e ar) bk less g)
  went st DeviceOp.arm b h of ar t bk i goes less g =
      let e = at_guest_arm st h in
      to_stage st stage.ArmingGuest b DeviceOp.arm (left + (if winding then 6 else 42)) e goes (arming of (subst
      (λ (y : Stage). GuestArmed y DeviceOp.arm v.doing v.armed) e ar) bk less g)
  went st DeviceOp.hear b h of ar t bk i goes less g =
      let e = at_guest_hear st h in
      to_stage st stage.HearingGuest b DeviceOp.hear (guest_hears winding v.doing) e goes (hearing of (subst
      (λ (y : Stage). GuestArmed y DeviceOp.hear v.doing v.armed) e ar) bk g)
  went st DeviceOp.signal b h of ar t bk i goes less g =
      let e = at_guest_signal st h in
      to_stage st stage.Taking b b (left + (if winding then 4 else 47)) e refl (signalled b goes of (subst
      (λ (y : Stage). GuestArmed y DeviceOp.signal v.doing v.armed) e ar) bk less g)
  went st DeviceOp.disarm b h of ar t bk i goes less g = absurd (g.other of)
  went st DeviceOp.idle b h of ar t bk i goes less g = absurd of
