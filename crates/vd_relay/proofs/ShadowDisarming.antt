-- A disarming of the shadow end.
use Rattle.std.proofs.Common.{◌≡◌, ◌+◌, ◌≤◌, Bool, true, false, refl, sym, ap, subst, arith, inl}
use Rattle.vd_words.specs.declared.access.Op.TheVariants as op
use Rattle.vd_words.specs.Model.{PortModel}
use Rattle.vd_ring.specs.declared.act.DriverAct.TheVariants as act
use Rattle.vd_ring.specs.declared.driver.DriverView.{DriverView}
use Rattle.vd_ring.specs.declared.device.DeviceView.{DeviceView}
use Rattle.vd_ring.specs.Looks.{DriverGoes}
use Rattle.vd_ring.specs.Sleep.{driver_woken}
use Rattle.vd_layout.specs.Begun.{DriverOp, IsDriverOp}
use Rattle.vd_layout.specs.Driver.{DriverModel, IsLawfulDriver, IsDriverStep}
use Rattle.vd_layout.specs.Device.{DeviceModel, IsLawfulDevice}
use Rattle.vd_layout.specs.laws.Unarmed.{driver_unarmed, device_unarmed}
use Rattle.vd_relay.specs.declared.counts.Turn.TheVariants.{Worked}
use Rattle.vd_relay.specs.declared.stage.Stage.{Stage}
use Rattle.vd_relay.specs.declared.stage.Stage.TheVariants as stage
use Rattle.vd_relay.specs.declared.state.State.{State}
use Rattle.vd_relay.specs.Pace.{shadow_owes, idle_owes, take_owes}
use Rattle.vd_relay.specs.Stages.{roused}
use Rattle.vd_relay.specs.Tie.{Course}
use Rattle.vd_relay.specs.Relay.{Stands, ShadowTurn, IsRoused}
use Rattle.vd_relay.proofs.Calm.{at_stage, stands_roused}
use Rattle.vd_relay.proofs.ShadowTurns.{next_at, with_shadow}
use Rattle.vd_relay.proofs.ShadowWakes.{awake_at, roused_off, roused_on, woke_to}

less_shown : (g s s' : Bool) → (s ≡ true → s' ≡ true) → take_owes false g s' ≤ take_owes false g s
less_shown true s s' f = omega arith
less_shown false true true f = omega arith
less_shown false true false f = absurd (cc (f refl))
less_shown false false true f = omega arith
less_shown false false false f = omega arith

-- after the disarming of the shadow end none is armed
disarmed_small : (ga sa winding finished g s s' : Bool) → ga ≡ false → sa ≡ false → (s ≡ true → s' ≡ true)
    → idle_owes winding (roused ga sa winding finished) g s' + 1 ≤ 1 + take_owes winding g s
disarmed_small true sa winding finished g s s' a b' f = absurd (cc a)
disarmed_small false true winding finished g s s' a b' f = absurd (cc b')
disarmed_small false false false finished g s s' a b' f = omega (arith, less_shown g s s' f)
disarmed_small false false true false g s s' a b' f = omega arith
disarmed_small false false true true g s s' a b' f = omega arith

module _ {P E D : Type 0} (port : PortModel P) (e : DeviceModel E) (d : DriverModel D) (law : IsLawfulDevice e) (ldr : IsLawfulDriver d)
    (z : Course) (p q : P) (r : State E D) (w : DeviceView) (v : DriverView) (b : D) where
  still_shown : (s : IsDriverStep port d p q v r.shadow b act.Awake) → v.shown ≡ true → (d.side.after v s.op s.access s.got).shown ≡ true
  still_shown s is = ldr.stays.shown v s.op s.access s.got s.was_next (subst (λ y. DriverGoes y) s.is_answer tt) (inl is)

  disarming_of : (s : IsDriverStep port d p q v r.shadow b act.Awake) → d.begun r.shadow ≡ DriverOp.disarm → s.op ≡ op.Disarm
  disarming_of s is = subst (λ o. IsDriverOp o s.op) is s.of_it

  pub disarming_woke : (st' : Stage) → d.begun r.shadow ≡ DriverOp.disarm → (h : Stands e d z (at_stage r stage.DisarmingShadow) w v)
      → (s : IsDriverStep port d p q v r.shadow b act.Awake)
      → IsRoused e d (with_shadow r b) w (d.side.after v s.op s.access s.got) st'
      → ShadowTurn port e d z p q (at_stage r stage.DisarmingShadow) (next_at r b st') w v Worked
  disarming_woke st' is h s a =
      let v' : DriverView = d.side.after v s.op s.access s.got in
      let f = awake_at port e d law ldr z p q r w v b stage.DisarmingShadow refl refl h s in
      let ga : e.armed r.guest ≡ false = device_unarmed e law r.guest w h.serves h.guest_armed in
      let unarmed : d.armed b ≡ false =
      driver_unarmed d ldr b v' s.now_stands (ldr.stays.awake v s.op s.access s.got s.was_next (sym s.is_answer)) in
      woke_to port e d law ldr z p q r w v b stage.DisarmingShadow st' Worked refl refl h s
      (stands_roused e d law ldr z (with_shadow r b) w v' st' f a) refl
      (λ y. cc y) (λ y. cc y) (sym (ap (λ o. driver_woken o act.Awake) (disarming_of s is)))
      (roused_on port e d law ldr z p q r w v b st' (a.finished, a.is))
      (roused_off port e d law ldr z p q r w v b st' (a.finished, a.is))
      (omega (
        arith,
        ap (λ (x : Stage). idle_owes r.winding x w.shown v'.shown) a.is,
        disarmed_small (e.armed r.guest) (d.armed b) r.winding a.finished w.shown v.shown v'.shown ga unarmed (still_shown s),
        ap (λ o. shadow_owes r.winding stage.DisarmingShadow o v.doing w.shown v.shown (d.left r.shadow)) is,
      ))
