-- What the answer Awake of the guest's end leaves, by the operation that it ends.
use Rattle.std.proofs.Common.{◌≡◌, refl}
use Rattle.vd_words.specs.Model.{PortModel}
use Rattle.vd_ring.specs.declared.act.DeviceAct.TheVariants as act
use Rattle.vd_ring.specs.declared.driver.DriverView.{DriverView}
use Rattle.vd_ring.specs.declared.device.DeviceView.{DeviceView}
use Rattle.vd_layout.specs.Begun.{DeviceOp, DeviceMayWake}
use Rattle.vd_layout.specs.Driver.{DriverModel, IsLawfulDriver}
use Rattle.vd_layout.specs.Device.{DeviceModel, IsLawfulDevice, IsDeviceStep}
use Rattle.vd_relay.specs.declared.counts.Turn.TheVariants.{Worked, Woke}
use Rattle.vd_relay.specs.declared.stage.Stage.{Stage}
use Rattle.vd_relay.specs.declared.stage.Stage.TheVariants as stage
use Rattle.vd_relay.specs.declared.state.State.{State}
use Rattle.vd_relay.specs.Pace.{waking}
use Rattle.vd_relay.specs.Stages.{GuestIs}
use Rattle.vd_relay.specs.Tie.{Course}
use Rattle.vd_relay.specs.Relay.{Stands, GuestTurn, IsRoused}
use Rattle.vd_relay.proofs.Ops.{at_guest_arm, at_guest_hear, at_guest_disarm}
use Rattle.vd_relay.proofs.GuestTurns.{next_at, to_stage, with_guest}
use Rattle.vd_relay.proofs.GuestWakes.{waking_at}
use Rattle.vd_relay.proofs.GuestArming.{arming_woke}
use Rattle.vd_relay.proofs.GuestHearing.{hearing_woke}
use Rattle.vd_relay.proofs.GuestDisarming.{disarming_woke}

module _ {P E D : Type 0} (port : PortModel P) (e : DeviceModel E) (d : DriverModel D) (law : IsLawfulDevice e) (ldr : IsLawfulDriver d)
    (z : Course) (p q : P) (r : State E D) (w : DeviceView) (v : DriverView) (b : E) where
  woken : (a : DeviceOp) (st' : Stage) → e.begun r.guest ≡ a → Stands e d z r w v
      → (s : IsDeviceStep port e p q w r.guest b act.Awake)
      → IsRoused e d (with_guest r b) (e.side.after w s.op s.access s.got) v st'
      → DeviceMayWake a → GuestIs r.stage a
      → GuestTurn port e d z p q r (next_at r b st') w v (waking r.stage)
  woken DeviceOp.arm st' is h s a m g =
      let at = at_guest_arm r.stage g in
      waking_at port e d law ldr z p q r w v b stage.ArmingGuest st' Worked at
      (to_stage port e d law ldr z p q r w v b stage.ArmingGuest (next_at r b st') Worked at
      (λ x. arming_woke port e d law ldr z p q r w v b st' is x s a) h)
      refl
  woken DeviceOp.hear st' is h s a m g =
      let at = at_guest_hear r.stage g in
      waking_at port e d law ldr z p q r w v b stage.HearingGuest st' Woke at
      (to_stage port e d law ldr z p q r w v b stage.HearingGuest (next_at r b st') Woke at
      (λ x. hearing_woke port e d law ldr z p q r w v b st' is x s a) h) refl
  woken DeviceOp.disarm st' is h s a m g =
      let at = at_guest_disarm r.stage g in
      waking_at port e d law ldr z p q r w v b stage.DisarmingGuest st' Worked at
      (to_stage port e d law ldr z p q r w v b stage.DisarmingGuest (next_at r b st') Worked at
      (λ x. disarming_woke port e d law ldr z p q r w v b st' is x s a) h) refl
  woken DeviceOp.idle st' is h s a m g = absurd m
  woken DeviceOp.take st' is h s a m g = absurd m
  woken (DeviceOp.give k n) st' is h s a m g = absurd m
  woken DeviceOp.rest st' is h s a m g = absurd m
  woken DeviceOp.signal st' is h s a m g = absurd m

  pub woken_at : (st' : Stage) → Stands e d z r w v → (s : IsDeviceStep port e p q w r.guest b act.Awake)
      → IsRoused e d (with_guest r b) (e.side.after w s.op s.access s.got) v st'
      → GuestTurn port e d z p q r (next_at r b st') w v (waking r.stage)
  woken_at st' h s a = woken (e.begun r.guest) st' refl h s a s.says.0 h.guest
