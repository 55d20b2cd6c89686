-- What the laws of a driver's end say of an access that ends no operation.
use Rattle.std.proofs.Common.{◌≡◌, Bool, true, false, refl, sym, ◌∙◌, ap, subst, inl, inr}
use Rattle.vd_words.specs.declared.access.Op.TheVariants as op
use Rattle.vd_words.specs.Model.{PortModel}
use Rattle.vd_ring.specs.declared.act.DriverAct.TheVariants as act
use Rattle.vd_ring.specs.declared.driver.DriverNow.TheVariants as now
use Rattle.vd_ring.specs.declared.driver.DriverView.{DriverView}
use Rattle.vd_ring.specs.Looks.{DriverGoes, DriverWakes}
use Rattle.vd_layout.specs.Driver.{DriverModel, IsLawfulDriver, IsDriverStep}
use Rattle.vd_relay.proofs.ShadowGoing.{Goes}

module _ {P D : Type 0} (port : PortModel P) (d : DriverModel D) (ldr : IsLawfulDriver d) (p q : P) (y : D) (v : DriverView) (b : D) where
  pub going : (s : IsDriverStep port d p q v y b act.Moved) → Goes s.op v (d.side.after v s.op s.access s.got)
  going s =
      let is = s.is_answer in
      let looks = ldr.looks in
      record {
        unarmed = λ other none. ldr.stays_unarmed v s.op s.access s.got other none;
        shown = λ h. ldr.stays.shown v s.op s.access s.got s.was_next (subst (λ y. DriverGoes y) is tt) h;
        disarms = λ arm dis. elim ((looks.disarming v s.op s.access s.got s.was_next).0 (dis ∙ ap now.Disarming (sym arm))).0 [
          | inl x ↦ inr (x.0, x.1)
          | inr x ↦ absurd (cc (arm, x.0))
        ];
        arms = λ arm idle. ldr.stays.arms v s.op s.access s.got s.was_next arm idle;
        woke = λ arm again. woken_by (d.shows v s.got) refl arm again;
        heard = λ hears idle.
            let wakes : DriverWakes d.shows v s.got s.op = inr (
              hears,
              idle,
              λ y. cc
                  (is, (looks.asleep v s.op s.access s.got s.was_next).1 (hears, idle, y)),
            ) in
            disarmed_by v.frame.features.event_idx refl wakes ∙ ap now.Disarming hears;
        busy = λ dis. cc (is, (looks.awake v s.op s.access s.got s.was_next).1 (inr (inl dis)));
        other = λ dis. cc (is, (looks.awake v s.op s.access s.got s.was_next).1 (inr (inr dis)));
      }
    where
      disarmed_by : (x : Bool) → v.frame.features.event_idx ≡ x → DriverWakes d.shows v s.got s.op
          → (d.side.after v s.op s.access s.got).doing ≡ now.Disarming s.op
      disarmed_by true x wakes = absurd (cc (s.is_answer, (ldr.looks.awake v s.op s.access s.got s.was_next).1 (inl (wakes, x))))
      disarmed_by false x wakes = (ldr.looks.disarming v s.op s.access s.got s.was_next).1 (wakes, x)

      woken_by : (x : Bool) → d.shows v s.got ≡ x → s.op ≡ op.Arm → v.doing ≡ now.Arming
          → (d.side.after v s.op s.access s.got).doing ≡ now.Disarming op.Arm
      woken_by true x arm again = disarmed_by v.frame.features.event_idx refl (inl (arm, again, x)) ∙ ap now.Disarming arm
      woken_by false x arm again = absurd (cc (s.is_answer, (ldr.looks.armed v s.op s.access s.got s.was_next).1 (arm, again, x)))
