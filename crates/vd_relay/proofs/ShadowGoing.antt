-- What an access of the shadow ring that ends no operation but a signal leaves of a relay.
use Rattle.std.proofs.Common.{◌≡◌, ◌≢◌, ◌⊎◌, ℕ, ◌+◌, ◌<◌, ◌≤◌, Bool, true, false, Some, None, List, [], ◌∷◌, if◌then◌else◌, refl, sym, ◌∙◌, ap, subst, arith, inl, inr}
use Rattle.vd_model.specs.declared.chain.Piece.{Piece}
use Rattle.vd_words.specs.declared.access.Op.{Op}
use Rattle.vd_words.specs.declared.access.Op.TheVariants as op
use Rattle.vd_ring.specs.declared.driver.DriverNow.TheVariants as now
use Rattle.vd_ring.specs.declared.driver.DriverView.{DriverView}
use Rattle.vd_ring.specs.Looks.{DriverLooksNow}
use Rattle.vd_layout.specs.Begun.{DriverOp, DriverPublished, DriverGoesOn, IsDriverOp}
use Rattle.vd_relay.specs.declared.stage.Stage.{Stage}
use Rattle.vd_relay.specs.declared.stage.Stage.TheVariants as stage
use Rattle.vd_relay.specs.Pace.{shadow_owes, shadow_hears, collect_owes, collecting_owes, hear_owes}
use Rattle.vd_relay.specs.Stages.{ShadowIs, OffersHand, ShadowArmed, ShadowArms, ShadowHears, ShadowShown}
use Rattle.vd_relay.proofs.Ops.{at_offer, at_collect, at_shadow_signal, at_shadow_arm, at_shadow_hear}

-- what the end's laws say of it
pub record Goes (o : Op) (v w : DriverView) : Type 0 where
  pub unarmed : o ≢ op.Arm → v.armed ≡ None → w.armed ≡ None
  pub shown : (v.shown ≡ true) ⊎ DriverLooksNow v o → w.shown ≡ true
  pub disarms : o ≡ op.Arm → w.doing ≡ now.Disarming op.Arm → DriverLooksNow v o
  pub arms : o ≡ op.Arm → v.doing ≡ now.Idle → (w.doing ≡ now.Arming) × (t : ℕ) × (w.armed ≡ Some t)
  pub woke : o ≡ op.Arm → v.doing ≡ now.Arming → w.doing ≡ now.Disarming op.Arm
  pub heard : o ≡ op.Hear → v.doing ≡ now.Idle → w.doing ≡ now.Disarming op.Hear
  pub busy : v.doing ≡ now.Disarming o → ⊥
  pub other : o ≢ op.Disarm

-- what holds after it
pub record Went (st : Stage) (winding : Bool) (hand : List (List Piece)) (b : DriverOp) (w : DriverView) (g : Bool)
    (left owed : ℕ) : Type 0 where
  pub is : ShadowIs st b
  pub offers : OffersHand b hand
  pub armed : ShadowArmed st b w.doing w.armed
  pub shown : ShadowShown b w.doing w.shown left
  pub paid : shadow_owes winding st b w.doing g w.shown left + 1 ≤ owed

collect_small : (winding none s : Bool) (left left' : ℕ) → left ≤ 3 → left' < left → left' + 1 ≤ collecting_owes winding none s left
collect_small winding none true left left' few less = omega arith
collect_small true none false left left' few less = omega arith
collect_small false true false left left' few less = omega arith
collect_small false false false left left' few less = omega arith

pub collect_most : (winding none s : Bool) → collect_owes winding none s ≤ (if winding then 4 else 48)
collect_most true none s = omega arith
collect_most false none true = omega arith
collect_most false true false = omega arith
collect_most false false false = omega arith

module _ (winding : Bool) (hand : List (List Piece)) (o : Op) (v w : DriverView) (g : Bool) (left left' : ℕ) where
  collecting : (none : Bool) → o ≡ op.Collect → v.armed ≡ None → ShadowShown DriverOp.collect v.doing v.shown left → left' < left
      → Goes o v w
      → Went (stage.Collecting none) winding hand DriverOp.collect w g left' (collecting_owes winding none v.shown left)
  collecting none of unarmed i less s =
      let sees : w.shown ≡ true = s.shown (elim i.0 [ inl idle ↦ inr (inl (of, idle)) | inr shown ↦ inl shown ]) in
      record {
        is = tt;
        offers = tt;
        armed = s.unarmed (λ z. cc (of, z)) unarmed;
        shown = (inr sees, omega (arith, i.1));
        paid = omega (arith, collect_small winding none v.shown left left' i.1 less, ap (λ x. collecting_owes winding none x left') sees);
      }

  offering : (number head : ℕ) (c : List Piece) → o ≡ op.Offer → v.armed ≡ None → hand ≡ c ∷ [] → left' < left → Goes o v w
      → Went (stage.Offering number head) winding hand (DriverOp.offer c) w g left' left
  offering number head c of unarmed is less s = record {
    is = tt;
    offers = is;
    armed = s.unarmed (λ z. cc (of, z)) unarmed;
    shown = tt;
    paid = omega arith;
  }

  arming : o ≡ op.Arm → ShadowArms DriverOp.arm v.doing v.armed → left' < left → Goes o v w
      → Went stage.ArmingShadow winding hand DriverOp.arm w g left' (left + (if winding then 6 else 39))
  arming of a less s = record {
    is = tt;
    offers = tt;
    armed = elim a [
      | inl idle ↦ (let x = s.arms of idle in inr (inl (x.0, (x.1, x.2))))
      | inr (inl x) ↦ inr (inr (s.woke of x.0))
      | inr (inr x) ↦ absurd (s.busy (x ∙ ap now.Disarming (sym of)))
    ];
    shown = λ d. s.shown (inr (s.disarms of d));
    paid = omega arith;
  }

  hears_less : (y : Bool) → (if y then 1 else 6) + 1 ≤ hear_owes y
  hears_less true = omega arith
  hears_less false = omega arith

  hearing : o ≡ op.Hear → ShadowHears DriverOp.hear v.doing v.armed → Goes o v w
      → Went stage.HearingShadow winding hand DriverOp.hear w g left' (shadow_hears winding v.doing)
  hearing of a s = elim a [
    | inl x ↦ (
        let d : w.doing ≡ now.Disarming op.Hear = s.heard of x.0 in
        record {
          is = tt;
          offers = tt;
          armed = inr d;
          shown = tt;
          paid = omega (arith, hears_less winding, ap (shadow_hears winding) d, ap (shadow_hears winding) x.0);
        }
        )
    | inr d ↦ absurd (s.busy (d ∙ ap now.Disarming (sym of)))
  ]

  signalled : (none : Bool) (b : DriverOp) → DriverPublished b → o ≡ op.Offer → v.armed ≡ None → left' < left → Goes o v w
      → Went (stage.Collecting none) winding hand b w g left' (left + (if winding then 4 else 48))
  signalled none b (inl e) of unarmed less s = subst (λ y. Went (stage.Collecting none) winding hand y w g left'
      (left + (if winding then 4 else 48))) (sym e) record {
        is = tt;
        offers = tt;
        armed = s.unarmed (λ z. cc (of, z)) unarmed;
        shown = tt;
        paid = omega (arith, collect_most winding none w.shown);
      }
  signalled none b (inr e) of unarmed less s = subst (λ y. Went (stage.Collecting none) winding hand y w g left'
      (left + (if winding then 4 else 48))) (sym e) record {
        is = tt;
        offers = tt;
        armed = s.unarmed (λ z. cc (of, z)) unarmed;
        shown = tt;
        paid = omega arith;
      }

  to_op : (st x : Stage) (b' b : DriverOp) (owed owed' : ℕ) → st ≡ x → b' ≡ b → owed' ≡ owed → Went x winding hand b w g left' owed
      → Went st winding hand b' w g left' owed'
  to_op st x b' b owed owed' e f n h = subst (λ (y : Stage). Went y winding hand b' w g left' owed') (sym e)
      (subst (λ y. Went x winding hand y w g left' owed') (sym f)
      (subst (λ (y : ℕ). Went x winding hand b w g left' y) (sym n) h))

  pub went : (st : Stage) (a b : DriverOp) → ShadowIs st a → IsDriverOp a o → ShadowArmed st a v.doing v.armed
      → OffersHand a hand → ShadowShown a v.doing v.shown left → DriverGoesOn a b → left' < left → Goes o v w
      → Went st winding hand b w g left' (shadow_owes winding st a v.doing g v.shown left)
  went st DriverOp.collect b h of ar t i goes less s =
      let e = at_collect st h in
      to_op st (stage.Collecting e.none) b DriverOp.collect (collecting_owes winding e.none v.shown left)
      (shadow_owes winding st DriverOp.collect v.doing g v.shown left) e.is goes
      (ap (λ (y : Stage). shadow_owes winding y DriverOp.collect v.doing g v.shown left) e.is)
      (collecting e.none of (subst (λ (y : Stage). ShadowArmed y DriverOp.collect v.doing v.armed) e.is ar) i less s)
  went st (DriverOp.offer c) b h of ar t i goes less s =
      let e = at_offer c st h in
      to_op st (stage.Offering e.number e.head) b (DriverOp.offer c) left
      (shadow_owes winding st (DriverOp.offer c) v.doing g v.shown left) e.is goes
      (ap (λ (y : Stage). shadow_owes winding y (DriverOp.offer c) v.doing g v.shown left) e.is)
      (offering e.number e.head c of (subst (λ (y : Stage). ShadowArmed y (DriverOp.offer c) v.doing v.armed) e.is ar) t less s)
  went st DriverOp.arm b h of ar t i goes less s =
      let e = at_shadow_arm st h in
      to_op st stage.ArmingShadow b DriverOp.arm (left + (if winding then 6 else 39))
      (shadow_owes winding st DriverOp.arm v.doing g v.shown left) e goes
      (ap (λ (y : Stage). shadow_owes winding y DriverOp.arm v.doing g v.shown left) e)
      (arming of (subst (λ (y : Stage). ShadowArmed y DriverOp.arm v.doing v.armed) e ar) less s)
  went st DriverOp.hear b h of ar t i goes less s =
      let e = at_shadow_hear st h in
      to_op st stage.HearingShadow b DriverOp.hear (shadow_hears winding v.doing)
      (shadow_owes winding st DriverOp.hear v.doing g v.shown left) e goes
      (ap (λ (y : Stage). shadow_owes winding y DriverOp.hear v.doing g v.shown left) e)
      (hearing of (subst (λ (y : Stage). ShadowArmed y DriverOp.hear v.doing v.armed) e ar) s)
  went st DriverOp.signal b h of ar t i goes less s =
      let e = at_shadow_signal st h in
      to_op st (stage.Collecting e.none) b b (left + (if winding then 4 else 48))
      (shadow_owes winding st DriverOp.signal v.doing g v.shown left) e.is refl
      (ap (λ (y : Stage). shadow_owes winding y DriverOp.signal v.doing g v.shown left) e.is)
      (signalled e.none b goes of (subst (λ (y : Stage). ShadowArmed y DriverOp.signal v.doing v.armed) e.is ar) less s)
  went st DriverOp.disarm b h of ar t i goes less s = absurd (s.other of)
  went st DriverOp.idle b h of ar t i goes less s = absurd of
