-- A disarming of the guest's end.
use Rattle.std.proofs.Common.{◌≡◌, ◌+◌, ◌≤◌, Bool, true, false, [], refl, sym, ap, subst, arith, inl}
use Rattle.vd_words.specs.declared.access.Op.TheVariants as op
use Rattle.vd_words.specs.Model.{PortModel}
use Rattle.vd_ring.specs.declared.act.DeviceAct.TheVariants as act
use Rattle.vd_ring.specs.declared.driver.DriverView.{DriverView}
use Rattle.vd_ring.specs.declared.device.DeviceView.{DeviceView}
use Rattle.vd_ring.specs.Looks.{DeviceGoes}
use Rattle.vd_ring.specs.Sleep.{device_woken}
use Rattle.vd_layout.specs.Begun.{DeviceOp, IsDeviceOp}
use Rattle.vd_layout.specs.Driver.{DriverModel, IsLawfulDriver}
use Rattle.vd_layout.specs.Device.{DeviceModel, IsLawfulDevice, IsDeviceStep}
use Rattle.vd_layout.specs.laws.Unarmed.{device_unarmed}
use Rattle.vd_relay.specs.declared.counts.Turn.TheVariants.{Worked}
use Rattle.vd_relay.specs.declared.stage.Stage.{Stage}
use Rattle.vd_relay.specs.declared.stage.Stage.TheVariants as stage
use Rattle.vd_relay.specs.declared.state.State.{State}
use Rattle.vd_relay.specs.Pace.{guest_owes, idle_owes, take_owes}
use Rattle.vd_relay.specs.Stages.{roused, BackIs}
use Rattle.vd_relay.specs.Tie.{Course}
use Rattle.vd_relay.specs.Relay.{Stands, GuestTurn, IsRoused}
use Rattle.vd_relay.proofs.Calm.{at_stage, stands_roused}
use Rattle.vd_relay.proofs.GuestTurns.{next_at, with_guest}
use Rattle.vd_relay.proofs.GuestWakes.{awake_at, roused_off, woke_to}

less_shown : (g g' s : Bool) → (g ≡ true → g' ≡ true) → take_owes false g' s ≤ take_owes false g s
less_shown true true s f = omega arith
less_shown true false s f = absurd (cc (f refl))
less_shown false true true f = omega arith
less_shown false true false f = omega arith
less_shown false false s f = omega arith

-- after the disarming of the guest's end only the shadow end may be armed
disarmed_small : (ga sa winding finished g g' s : Bool) → ga ≡ false → (g ≡ true → g' ≡ true)
    → idle_owes winding (roused ga sa winding finished) g' s + 1 ≤ 2 + take_owes winding g s
disarmed_small true sa winding finished g g' s a f = absurd (cc a)
disarmed_small false true true finished g g' s a f = omega arith
disarmed_small false true false finished g g' s a f = omega (arith, less_shown g g' s f)
disarmed_small false false false finished g g' s a f = omega (arith, less_shown g g' s f)
disarmed_small false false true false g g' s a f = omega arith
disarmed_small false false true true g g' s a f = omega arith

module _ {P E D : Type 0} (port : PortModel P) (e : DeviceModel E) (d : DriverModel D) (law : IsLawfulDevice e) (ldr : IsLawfulDriver d)
    (z : Course) (p q : P) (r : State E D) (w : DeviceView) (v : DriverView) (b : E) where
  -- what was shown stays shown
  still_shown : (s : IsDeviceStep port e p q w r.guest b act.Awake) → w.shown ≡ true → (e.side.after w s.op s.access s.got).shown ≡ true
  still_shown s is = law.stays.shown w s.op s.access s.got s.was_next (subst (λ y. DeviceGoes y) s.is_answer tt) (inl is)

  disarming_of : (s : IsDeviceStep port e p q w r.guest b act.Awake) → e.begun r.guest ≡ DeviceOp.disarm → s.op ≡ op.Disarm
  disarming_of s is = subst (λ o. IsDeviceOp o s.op) is s.of_it

  pub disarming_woke : (st' : Stage) → e.begun r.guest ≡ DeviceOp.disarm → (h : Stands e d z (at_stage r stage.DisarmingGuest) w v)
      → (s : IsDeviceStep port e p q w r.guest b act.Awake)
      → IsRoused e d (with_guest r b) (e.side.after w s.op s.access s.got) v st'
      → GuestTurn port e d z p q (at_stage r stage.DisarmingGuest) (next_at r b st') w v Worked
  disarming_woke st' is h s a =
      let w' : DeviceView = e.side.after w s.op s.access s.got in
      let back : h.back ≡ [] = subst (λ o. BackIs o h.back) is h.to_give in
      let f = awake_at port e d law ldr z p q r w v b stage.DisarmingGuest refl refl h back s in
      let unarmed : e.armed b ≡ false =
      device_unarmed e law b w' s.now_stands (law.stays.awake w s.op s.access s.got s.was_next (sym s.is_answer)) in
      woke_to port e d law ldr z p q r w v b stage.DisarmingGuest st' Worked refl refl h back s
      (stands_roused e d law ldr z (with_guest r b) w' v st' f a) refl
      (λ y. cc y) (λ y. cc y) (sym (ap (λ o. device_woken o act.Awake) (disarming_of s is)))
      (roused_off port e d law ldr z p q r w v b st' (a.finished, a.is))
      (omega (
        arith,
        ap (λ (x : Stage). idle_owes r.winding x w'.shown v.shown) a.is,
        disarmed_small (e.armed b) (d.armed r.shadow) r.winding a.finished w.shown w'.shown v.shown unarmed (still_shown s),
        ap (λ o. guest_owes r.winding stage.DisarmingGuest o w.doing w.shown v.shown (e.left r.guest)) is,
      ))
