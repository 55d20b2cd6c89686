-- What an access that ends no operation but a signal leaves of a model device: whether it is armed, what it was shown, and what it owes.
use Rattle.std.proofs.Common.{◌≡◌, ◌≢◌, ◌⊎◌, ℕ, ◌+◌, ◌<◌, ◌≤◌, Bool, true, Some, None, List, sym, ◌∙◌, ap, subst, arith, inl, inr}
use Rattle.vd_words.specs.declared.access.Op.{Op}
use Rattle.vd_words.specs.declared.access.Op.TheVariants as op
use Rattle.vd_ring.specs.declared.device.DeviceNow.{DeviceNow}
use Rattle.vd_ring.specs.declared.device.DeviceNow.TheVariants as now
use Rattle.vd_ring.specs.declared.device.DeviceView.{DeviceView}
use Rattle.vd_ring.specs.Looks.{DeviceLooksNow}
use Rattle.vd_layout.specs.Begun.{DeviceOp, DevicePublished, DeviceGoesOn, IsDeviceOp}
use Rattle.vd_models.specs.declared.window.Held.{Held}
use Rattle.vd_models.specs.declared.serving.Stage.{Stage}
use Rattle.vd_models.specs.declared.serving.Stage.TheVariants as stage
use Rattle.vd_models.specs.Stages.{StageIs, ArmedIs, OpIs, hear_owes, take_owes, owes}
use Rattle.vd_models.proofs.Stages.{at_take, at_give, at_rest, at_arm, at_hear, at_disarm, unarming, armed_none, take_small, published_owes, published_not}

-- what holds after it
pub record Went (st : Stage) (b : DeviceOp) (w : DeviceView) (left owed : ℕ) : Type 0 where
  pub armed : ArmedIs st b w.doing w.armed
  pub op : OpIs b w.doing w.shown left
  pub paid : owes st b w.doing w.shown left + 1 ≤ owed

-- what the end's laws say of it
pub record Goes (o : Op) (v w : DeviceView) : Type 0 where
  pub unarmed : o ≢ op.Arm → v.armed ≡ None → w.armed ≡ None
  pub shown : (v.shown ≡ true) ⊎ DeviceLooksNow v o → w.shown ≡ true
  pub disarms : o ≡ op.Arm → w.doing ≡ now.Disarming op.Arm → DeviceLooksNow v o
  pub arms : o ≡ op.Arm → v.doing ≡ now.Idle → (w.doing ≡ now.Arming) × (t : ℕ) × (w.armed ≡ Some t)
  pub woke : o ≡ op.Arm → v.doing ≡ now.Arming → w.doing ≡ now.Disarming op.Arm
  pub heard : o ≡ op.Hear → v.doing ≡ now.Idle → w.doing ≡ now.Disarming op.Hear
  pub busy : v.doing ≡ now.Disarming o → ⊥

same_op : (st : Stage) (b b' : DeviceOp) (w : DeviceView) (left owed : ℕ) → b' ≡ b → Went st b w left owed → Went st b' w left owed
same_op st b b' w left owed e h = subst (λ z. Went st z w left owed) (sym e) h

published_op : (b : DeviceOp) (d : DeviceNow) (shown : Bool) (left : ℕ) → DevicePublished b → OpIs b d shown left
published_op b d shown left (inl e) = subst (λ z. OpIs z d shown left) (sym e) tt
published_op b d shown left (inr e) = subst (λ z. OpIs z d shown left) (sym e) tt

signalling : (st : Stage) (io : Bool) (hs : List Held) (n all : ℕ) → StageIs st DeviceOp.signal io hs n all → st ≢ stage.Hearing
signalling stage.Taking io hs n all h = λ z. cc z
signalling stage.Giving io hs n all h = λ z. cc z
signalling stage.Arming io hs n all h = λ z. cc z
signalling stage.Hearing io hs n all h = absurd h
signalling stage.Done io hs n all h = λ z. cc z

module _ (st : Stage) (io : Bool) (hs : List Held) (n all : ℕ) (o : Op) (v w : DeviceView) (left left' : ℕ) where
  taking : StageIs st DeviceOp.take io hs n all → o ≡ op.Take → ArmedIs st DeviceOp.take v.doing v.armed
      → OpIs DeviceOp.take v.doing v.shown left → left' < left → Goes o v w
      → Went st DeviceOp.take w left' (take_owes v.shown left)
  taking h of a i less g =
      let u = unarming st DeviceOp.take v.doing io hs n all o v.armed (λ z. cc z) (λ z. cc z) h of a in
      let sees : w.shown ≡ true = g.shown (elim i.0 [ inl idle ↦ inr (inl (of, idle)) | inr shown ↦ inl shown ]) in
      record {
        armed = armed_none st DeviceOp.take w.doing w.armed (λ z. cc ((at_take io hs n all st h).0, z)) (λ z. cc z)
            (g.unarmed u.other u.none);
        op = (inr sees, omega (arith, i.1));
        paid = omega (arith, take_small v.shown left i.1, ap (λ s. take_owes s left') sees);
      }

  plain : (b : DeviceOp) → StageIs st b io hs n all → IsDeviceOp b o → b ≢ DeviceOp.arm → b ≢ DeviceOp.hear → st ≢ stage.Hearing
      → ArmedIs st b v.doing v.armed → Goes o v w
      → ArmedIs st b w.doing w.armed
  plain b h of x y z a g =
      let u = unarming st b v.doing io hs n all o v.armed x y h of a in
      armed_none st b w.doing w.armed z x (g.unarmed u.other u.none)

  arming : StageIs st DeviceOp.arm io hs n all → o ≡ op.Arm → ArmedIs st DeviceOp.arm v.doing v.armed → left' < left → Goes o v w
      → Went st DeviceOp.arm w left' (left + 36)
  arming h of a less g =
      let is = (at_arm io hs n all st h).0 in
      let b : ArmedIs stage.Arming DeviceOp.arm v.doing v.armed = subst (λ (s : Stage). ArmedIs s DeviceOp.arm v.doing v.armed) is a in
      record {
        armed = subst (λ (s : Stage). ArmedIs s DeviceOp.arm w.doing w.armed) (sym is) (elim b [
          | inl idle ↦ (let x = g.arms of idle in inr (inl (x.0, x.1, x.2)))
          | inr (inl x) ↦ inr (inr (g.woke of x.0))
          | inr (inr x) ↦ absurd (g.busy (x ∙ ap now.Disarming (sym of)))
        ]);
        op = λ d. g.shown (inr (g.disarms of d));
        paid = omega arith;
      }

  hearing : StageIs st DeviceOp.hear io hs n all → o ≡ op.Hear → ArmedIs st DeviceOp.hear v.doing v.armed → Goes o v w
      → Went st DeviceOp.hear w left' (hear_owes v.doing)
  hearing h of a g =
      let is = (at_hear io hs n all st h).0 in
      let b : ArmedIs stage.Hearing DeviceOp.hear v.doing v.armed = subst (λ (s : Stage). ArmedIs s DeviceOp.hear v.doing v.armed) is a in
      elim b [
        | inl x ↦ (
            let d : w.doing ≡ now.Disarming op.Hear = g.heard of x.0 in
            record {
              armed = subst (λ (s : Stage). ArmedIs s DeviceOp.hear w.doing w.armed) (sym is) (inr d);
              op = tt;
              paid = omega (arith, ap hear_owes d, ap hear_owes x.0);
            }
            )
        | inr d ↦ absurd (g.busy (d ∙ ap now.Disarming (sym of)))
      ]

  pub went : (b b' : DeviceOp) → StageIs st b io hs n all → IsDeviceOp b o → ArmedIs st b v.doing v.armed → OpIs b v.doing v.shown left
      → DeviceGoesOn b b' → left' < left → Goes o v w
      → Went st b' w left' (owes st b v.doing v.shown left)
  went DeviceOp.take b' h of a i goes less g = same_op st DeviceOp.take b' w left' (take_owes v.shown left) goes (taking h of a i less g)
  went DeviceOp.arm b' h of a i goes less g = same_op st DeviceOp.arm b' w left' (left + 36) goes (arming h of a less g)
  went DeviceOp.hear b' h of a i goes less g = same_op st DeviceOp.hear b' w left' (hear_owes v.doing) goes (hearing h of a g)
  went DeviceOp.rest b' h of a i goes less g = same_op st DeviceOp.rest b' w left' left goes record {
    armed = plain DeviceOp.rest h of (λ z. cc z) (λ z. cc z) (λ z. cc ((at_rest io hs n all st h).0, z)) a g;
    op = tt;
    paid = omega arith;
  }
  went (DeviceOp.give k l) b' h of a i goes less g = same_op st (DeviceOp.give k l) b' w left' left goes record {
    armed = plain (DeviceOp.give k l) h of (λ z. cc z) (λ z. cc z) (λ z. cc ((at_give io hs n all k l st h).0, z)) a g;
    op = tt;
    paid = omega arith;
  }
  went DeviceOp.signal b' h of a i goes less g =
      let u = unarming st DeviceOp.signal v.doing io hs n all o v.armed (λ z. cc z) (λ z. cc z) h of a in
      record {
        armed = armed_none st b' w.doing w.armed (signalling st io hs n all h) (published_not b' goes) (g.unarmed u.other u.none);
        op = published_op b' w.doing w.shown left' goes;
        paid = omega (arith, published_owes st b' w.doing w.shown left' goes);
      }
  went DeviceOp.disarm b' h of a i goes less g = absurd (at_disarm io hs n all st h)
  went DeviceOp.idle b' h of a i goes less g = absurd of
