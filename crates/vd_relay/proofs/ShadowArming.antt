-- An arming of the shadow end that was shown an entry.
use Rattle.std.proofs.Common.{◌≡◌, ℕ, ◌+◌, ◌≤◌, Bool, true, false, if◌then◌else◌, refl, sym, ◌∙◌, ap, subst, arith, inl, inr}
use Rattle.vd_words.specs.declared.access.Op.TheVariants as op
use Rattle.vd_words.specs.Model.{PortModel}
use Rattle.vd_ring.specs.declared.act.DriverAct.TheVariants as act
use Rattle.vd_ring.specs.declared.driver.DriverNow.TheVariants as now
use Rattle.vd_ring.specs.declared.driver.DriverView.{DriverView}
use Rattle.vd_ring.specs.declared.device.DeviceView.{DeviceView}
use Rattle.vd_ring.specs.Looks.{DriverGoes}
use Rattle.vd_ring.specs.Sleep.{driver_woken}
use Rattle.vd_layout.specs.Begun.{DriverOp, IsDriverOp}
use Rattle.vd_layout.specs.Driver.{DriverModel, IsLawfulDriver, IsDriverStep}
use Rattle.vd_layout.specs.Device.{DeviceModel, IsLawfulDevice}
use Rattle.vd_relay.specs.declared.counts.Turn.TheVariants.{Worked}
use Rattle.vd_relay.specs.declared.stage.Stage.{Stage}
use Rattle.vd_relay.specs.declared.stage.Stage.TheVariants as stage
use Rattle.vd_relay.specs.declared.state.State.{State}
use Rattle.vd_relay.specs.Pace.{shadow_owes}
use Rattle.vd_relay.specs.Stages.{ShadowShown}
use Rattle.vd_relay.specs.Tie.{Course}
use Rattle.vd_relay.specs.Relay.{Stands, ShadowTurn, IsRoused}
use Rattle.vd_relay.proofs.Calm.{at_stage, stands_roused, roused_most}
use Rattle.vd_relay.proofs.ShadowTurns.{next_at, with_shadow}
use Rattle.vd_relay.proofs.ShadowWakes.{awake_at, roused_by, roused_off, roused_on, woke_to}

shown_most : (winding g s : Bool) → s ≡ true → roused_most winding g s ≤ (if winding then 6 else 39)
shown_most true g s is = omega arith
shown_most false true true is = omega arith
shown_most false false true is = omega arith
shown_most false g false is = absurd (cc is)

most_at : (winding : Bool) (n m : ℕ) → n ≤ (if winding then 6 else 39) → 1 ≤ m → n + 1 ≤ m + (if winding then 6 else 39)
most_at true n m h some = omega arith
most_at false n m h some = omega arith

module _ {P E D : Type 0} (port : PortModel P) (e : DeviceModel E) (d : DriverModel D) (law : IsLawfulDevice e) (ldr : IsLawfulDriver d)
    (z : Course) (p q : P) (r : State E D) (w : DeviceView) (v : DriverView) (b : D) where
  shown_at : (s : IsDriverStep port d p q v r.shadow b act.Awake) → s.op ≡ op.Arm
      → ShadowShown DriverOp.arm v.doing v.shown (d.left r.shadow)
      → (d.side.after v s.op s.access s.got).shown ≡ true
  shown_at s arm i = ldr.stays.shown v s.op s.access s.got s.was_next (subst (λ y. DriverGoes y) s.is_answer tt)
      (elim ((ldr.looks.awake v s.op s.access s.got s.was_next).0 (sym s.is_answer)) [
        | inl x ↦ elim x.0 [ inl a ↦ inr (inr (a.0, a.1)) | inr y ↦ absurd (cc (arm, y.0)) ]
        | inr (inl x) ↦ inl (i (x ∙ ap now.Disarming arm))
        | inr (inr x) ↦ absurd (cc (arm, x))
      ])

  pub arming_woke : (st' : Stage) → d.begun r.shadow ≡ DriverOp.arm → (h : Stands e d z (at_stage r stage.ArmingShadow) w v)
      → (s : IsDriverStep port d p q v r.shadow b act.Awake)
      → IsRoused e d (with_shadow r b) w (d.side.after v s.op s.access s.got) st'
      → ShadowTurn port e d z p q (at_stage r stage.ArmingShadow) (next_at r b st') w v Worked
  arming_woke st' is h s a =
      let v' : DriverView = d.side.after v s.op s.access s.got in
      let f = awake_at port e d law ldr z p q r w v b stage.ArmingShadow refl refl h s in
      let of : s.op ≡ op.Arm = subst (λ o. IsDriverOp o s.op) is s.of_it in
      let shown : v'.shown ≡ true = shown_at s of (subst (λ o. ShadowShown o v.doing v.shown (d.left r.shadow)) is h.shadow_shown) in
      woke_to port e d law ldr z p q r w v b stage.ArmingShadow st' Worked refl refl h s
      (stands_roused e d law ldr z (with_shadow r b) w v' st' f a) refl (λ y. cc y)
      (λ y. cc y) (sym (ap (λ o. driver_woken o act.Awake) of)) (roused_on port e d law ldr z p q r w v b st' (a.finished, a.is))
      (roused_off port e d law ldr z p q r w v b st' (a.finished, a.is))
      (omega (
        arith,
        roused_by port e d law ldr z p q r w v b st' w.shown v'.shown (a.finished, a.is),
        most_at r.winding (roused_most r.winding w.shown v'.shown) (d.left r.shadow) (shown_most r.winding w.shown v'.shown shown)
            (omega (arith, s.left)),
        ap (λ o. shadow_owes r.winding stage.ArmingShadow o v.doing w.shown v.shown (d.left r.shadow)) is,
      ))
