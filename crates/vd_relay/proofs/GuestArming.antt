-- An arming of the guest's end that was shown a chain.
use Rattle.std.proofs.Common.{◌≡◌, ℕ, ◌≤◌, Bool, true, false, [], if◌then◌else◌, refl, sym, ◌∙◌, ap, subst, arith, inl, inr}
use Rattle.vd_words.specs.declared.access.Op.TheVariants as op
use Rattle.vd_words.specs.Model.{PortModel}
use Rattle.vd_ring.specs.declared.act.DeviceAct.TheVariants as act
use Rattle.vd_ring.specs.declared.driver.DriverView.{DriverView}
use Rattle.vd_ring.specs.declared.device.DeviceNow.TheVariants as now
use Rattle.vd_ring.specs.declared.device.DeviceView.{DeviceView}
use Rattle.vd_ring.specs.Looks.{DeviceGoes}
use Rattle.vd_ring.specs.Sleep.{device_woken}
use Rattle.vd_layout.specs.Begun.{DeviceOp, IsDeviceOp}
use Rattle.vd_layout.specs.Driver.{DriverModel, IsLawfulDriver}
use Rattle.vd_layout.specs.Device.{DeviceModel, IsLawfulDevice, IsDeviceStep}
use Rattle.vd_relay.specs.declared.counts.Turn.TheVariants.{Worked}
use Rattle.vd_relay.specs.declared.stage.Stage.{Stage}
use Rattle.vd_relay.specs.declared.stage.Stage.TheVariants as stage
use Rattle.vd_relay.specs.declared.state.State.{State}
use Rattle.vd_relay.specs.Pace.{guest_owes}
use Rattle.vd_relay.specs.Stages.{BackIs, GuestShown}
use Rattle.vd_relay.specs.Tie.{Course}
use Rattle.vd_relay.specs.Relay.{Stands, GuestTurn, IsRoused}
use Rattle.vd_relay.proofs.Calm.{at_stage, stands_roused, roused_most}
use Rattle.vd_relay.proofs.GuestTurns.{next_at, with_guest}
use Rattle.vd_relay.proofs.GuestWakes.{awake_at, roused_by, roused_off, woke_to}

shown_most : (winding g s : Bool) → g ≡ true → roused_most winding g s ≤ (if winding then 6 else 39)
shown_most true g s is = omega arith
shown_most false true s is = omega arith
shown_most false false s is = absurd (cc is)

most_at : (winding : Bool) (n : ℕ) → n ≤ (if winding then 6 else 39) → n ≤ (if winding then 6 else 42)
most_at true n h = h
most_at false n h = omega (arith, h)

module _ {P E D : Type 0} (port : PortModel P) (e : DeviceModel E) (d : DriverModel D) (law : IsLawfulDevice e) (ldr : IsLawfulDriver d)
    (z : Course) (p q : P) (r : State E D) (w : DeviceView) (v : DriverView) (b : E) where
  -- an arming that ends with Awake was shown a chain
  shown_at : (s : IsDeviceStep port e p q w r.guest b act.Awake) → s.op ≡ op.Arm → GuestShown DeviceOp.arm w.doing w.shown (e.left r.guest)
      → (e.side.after w s.op s.access s.got).shown ≡ true
  shown_at s arm i = law.stays.shown w s.op s.access s.got s.was_next (subst (λ y. DeviceGoes y) s.is_answer tt)
      (elim ((law.looks.awake w s.op s.access s.got s.was_next).0 (sym s.is_answer)) [
        | inl x ↦ elim x.0 [ inl a ↦ inr (inr (a.0, a.1)) | inr y ↦ absurd (cc (arm, y.0)) ]
        | inr (inl x) ↦ inl (i (x ∙ ap now.Disarming arm))
        | inr (inr x) ↦ absurd (cc (arm, x))
      ])

  -- roused from an arming
  pub arming_woke : (st' : Stage) → e.begun r.guest ≡ DeviceOp.arm → (h : Stands e d z (at_stage r stage.ArmingGuest) w v)
      → (s : IsDeviceStep port e p q w r.guest b act.Awake)
      → IsRoused e d (with_guest r b) (e.side.after w s.op s.access s.got) v st'
      → GuestTurn port e d z p q (at_stage r stage.ArmingGuest) (next_at r b st') w v Worked
  arming_woke st' is h s a =
      let w' : DeviceView = e.side.after w s.op s.access s.got in
      let back : h.back ≡ [] = subst (λ o. BackIs o h.back) is h.to_give in
      let f = awake_at port e d law ldr z p q r w v b stage.ArmingGuest refl refl h back s in
      let of : s.op ≡ op.Arm = subst (λ o. IsDeviceOp o s.op) is s.of_it in
      let shown : w'.shown ≡ true = shown_at s of (subst (λ o. GuestShown o w.doing w.shown (e.left r.guest)) is h.guest_shown) in
      woke_to port e d law ldr z p q r w v b stage.ArmingGuest st' Worked refl refl h back s
      (stands_roused e d law ldr z (with_guest r b) w' v st' f a) refl (λ y. cc y)
      (λ y. cc y) (sym (ap (λ o. device_woken o act.Awake) of))
      (roused_off port e d law ldr z p q r w v b st' (a.finished, a.is))
      (omega (
        arith,
        s.left,
        roused_by port e d law ldr z p q r w v b st' w'.shown v.shown (a.finished, a.is),
        most_at r.winding (roused_most r.winding w'.shown v.shown) (shown_most r.winding w'.shown v.shown shown),
        ap (λ o. guest_owes r.winding stage.ArmingGuest o w.doing w.shown v.shown (e.left r.guest)) is,
      ))
