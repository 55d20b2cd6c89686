-- What the answer Awake of the shadow end leaves, by the operation that it ends.
use Rattle.std.proofs.Common.{◌≡◌, refl}
use Rattle.vd_words.specs.Model.{PortModel}
use Rattle.vd_ring.specs.declared.act.DriverAct.TheVariants as act
use Rattle.vd_ring.specs.declared.driver.DriverView.{DriverView}
use Rattle.vd_ring.specs.declared.device.DeviceView.{DeviceView}
use Rattle.vd_layout.specs.Begun.{DriverOp, MayWake}
use Rattle.vd_layout.specs.Driver.{DriverModel, IsLawfulDriver, IsDriverStep}
use Rattle.vd_layout.specs.Device.{DeviceModel, IsLawfulDevice}
use Rattle.vd_relay.specs.declared.counts.Turn.TheVariants.{Worked, Woke}
use Rattle.vd_relay.specs.declared.stage.Stage.{Stage}
use Rattle.vd_relay.specs.declared.stage.Stage.TheVariants as stage
use Rattle.vd_relay.specs.declared.state.State.{State}
use Rattle.vd_relay.specs.Pace.{waking}
use Rattle.vd_relay.specs.Stages.{ShadowIs}
use Rattle.vd_relay.specs.Tie.{Course}
use Rattle.vd_relay.specs.Relay.{Stands, ShadowTurn, IsRoused}
use Rattle.vd_relay.proofs.Ops.{at_shadow_arm, at_shadow_hear, at_shadow_disarm}
use Rattle.vd_relay.proofs.ShadowTurns.{next_at, to_stage, with_shadow}
use Rattle.vd_relay.proofs.ShadowWakes.{waking_at}
use Rattle.vd_relay.proofs.ShadowArming.{arming_woke}
use Rattle.vd_relay.proofs.ShadowHearing.{hearing_woke}
use Rattle.vd_relay.proofs.ShadowDisarming.{disarming_woke}

module _ {P E D : Type 0} (port : PortModel P) (e : DeviceModel E) (d : DriverModel D) (law : IsLawfulDevice e) (ldr : IsLawfulDriver d)
    (z : Course) (p q : P) (r : State E D) (w : DeviceView) (v : DriverView) (b : D) where
  woken : (a : DriverOp) (st' : Stage) → d.begun r.shadow ≡ a → Stands e d z r w v
      → (s : IsDriverStep port d p q v r.shadow b act.Awake)
      → IsRoused e d (with_shadow r b) w (d.side.after v s.op s.access s.got) st' → MayWake a → ShadowIs r.stage a
      → ShadowTurn port e d z p q r (next_at r b st') w v (waking r.stage)
  woken DriverOp.arm st' is h s a m g =
      let at = at_shadow_arm r.stage g in
      waking_at port e d law ldr z p q r w v b stage.ArmingShadow st' Worked at
      (to_stage port e d law ldr z p q r w v b stage.ArmingShadow (next_at r b st') Worked at
      (λ x. arming_woke port e d law ldr z p q r w v b st' is x s a) h)
      refl
  woken DriverOp.hear st' is h s a m g =
      let at = at_shadow_hear r.stage g in
      waking_at port e d law ldr z p q r w v b stage.HearingShadow st' Woke at
      (to_stage port e d law ldr z p q r w v b stage.HearingShadow (next_at r b st') Woke at
      (λ x. hearing_woke port e d law ldr z p q r w v b st' is x s a) h)
      refl
  woken DriverOp.disarm st' is h s a m g =
      let at = at_shadow_disarm r.stage g in
      waking_at port e d law ldr z p q r w v b stage.DisarmingShadow st' Worked at
      (to_stage port e d law ldr z p q r w v b stage.DisarmingShadow (next_at r b st') Worked at
      (λ x. disarming_woke port e d law ldr z p q r w v b st' is x s a) h) refl
  woken DriverOp.idle st' is h s a m g = absurd m
  woken (DriverOp.offer c) st' is h s a m g = absurd m
  woken DriverOp.collect st' is h s a m g = absurd m
  woken DriverOp.signal st' is h s a m g = absurd m

  pub woken_at : (st' : Stage) → Stands e d z r w v → (s : IsDriverStep port d p q v r.shadow b act.Awake)
      → IsRoused e d (with_shadow r b) w (d.side.after v s.op s.access s.got) st'
      → ShadowTurn port e d z p q r (next_at r b st') w v (waking r.stage)
  woken_at st' h s a = woken (d.begun r.shadow) st' refl h s a s.says.0 h.shadow
