-- An arming of the guest's end that leaves it armed.
use Rattle.std.proofs.Common.{◌≡◌, [], refl, sym, ◌∙◌, ap, subst, arith, inl, inr}
use Rattle.vd_words.specs.Model.{PortModel}
use Rattle.vd_ring.specs.declared.act.DeviceAct.TheVariants as act
use Rattle.vd_ring.specs.declared.driver.DriverView.{DriverView}
use Rattle.vd_ring.specs.declared.device.DeviceNow.TheVariants as now
use Rattle.vd_ring.specs.declared.device.DeviceView.{DeviceView}
use Rattle.vd_layout.specs.Begun.{DeviceOp}
use Rattle.vd_layout.specs.Driver.{DriverModel, IsLawfulDriver}
use Rattle.vd_layout.specs.Device.{DeviceModel, IsLawfulDevice, IsDeviceStep}
use Rattle.vd_relay.specs.declared.counts.Turn.TheVariants.{Worked}
use Rattle.vd_relay.specs.declared.stage.Stage.TheVariants as stage
use Rattle.vd_relay.specs.declared.state.State.{State}
use Rattle.vd_relay.specs.Pace.{guest_owes}
use Rattle.vd_relay.specs.Stages.{GuestIs, BackIs, IsSome, GuestArms}
use Rattle.vd_relay.specs.Tie.{Course}
use Rattle.vd_relay.specs.Relay.{Stands, GuestTurn}
use Rattle.vd_relay.proofs.Calm.{at_stage, settled, owes_idle}
use Rattle.vd_relay.proofs.Ops.{at_guest_arm}
use Rattle.vd_relay.proofs.Turns.{worked_only}
use Rattle.vd_relay.proofs.GuestTurns.{bag_same, made_at, next_at, not_woken, to_stage, with_guest}
use Rattle.vd_relay.proofs.GuestFree.{freed_at}

module _ {P E D : Type 0} (port : PortModel P) (e : DeviceModel E) (d : DriverModel D) (law : IsLawfulDevice e) (ldr : IsLawfulDriver d)
    (z : Course) (p q : P) (r : State E D) (w : DeviceView) (v : DriverView) (b : E) where
  armed_at : (s : IsDeviceStep port e p q w r.guest b act.Armed) → GuestArms DeviceOp.arm w.doing w.armed
      → IsSome (e.side.after w s.op s.access s.got).armed
  armed_at s a =
      let again : w.doing ≡ now.Arming = ((law.looks.armed w s.op s.access s.got s.was_next).0 (sym s.is_answer)).1 in
      elim a [
        | inl x ↦ absurd (cc (x, again))
        | inr (inl x) ↦ (x.1.0, law.stays.armed w s.op s.access s.got s.was_next (sym s.is_answer) ∙ x.1.1)
        | inr (inr x) ↦ absurd (cc (x, again))
      ]

  armed_now : Stands e d z (at_stage r stage.ArmingGuest) w v → IsDeviceStep port e p q w r.guest b act.Armed
      → GuestTurn port e d z p q (at_stage r stage.ArmingGuest) (next_at r b stage.ArmingShadow) w v Worked
  armed_now h s =
      let w' : DeviceView = e.side.after w s.op s.access s.got in
      let back : h.back ≡ [] = subst (λ o. BackIs o h.back) s.says.0 h.to_give in
      let f = freed_at port e d law ldr z p q r w v b act.Armed s stage.ArmingGuest refl refl h back s.says.2 s.says.1 s.rests in
      let some = armed_at s (subst (λ o. GuestArms o w.doing w.armed) s.says.0 h.guest_armed) in
      made_at port e d law ldr z p q r w v b act.Armed s stage.ArmingGuest (next_at r b stage.ArmingShadow) Worked
      (settled e d law ldr z (with_guest r b) w' v stage.ArmingShadow refl f tt some h.shadow_armed)
      (bag_same port e d law ldr z p q r w v b act.Armed s s.says.2) refl (not_woken s.op act.Armed (λ y. cc y))
      (worked_only act.Armed (λ y. cc y)) (λ y. cc y)
      (λ y. absurd (cc y))
      (omega (
        arith,
        s.left,
        owes_idle e d law ldr z (with_guest r b) w' v stage.ArmingShadow f,
        ap (λ o. guest_owes r.winding stage.ArmingGuest o w.doing w.shown v.shown (e.left r.guest)) s.says.0,
      )) refl (λ y. absurd (cc y)) (λ y. absurd (cc y)) (λ n on at. absurd (cc at))

  pub armed_first : Stands e d z r w v → IsDeviceStep port e p q w r.guest b act.Armed
      → GuestTurn port e d z p q r (next_at r b stage.ArmingShadow) w v Worked
  armed_first h s = to_stage port e d law ldr z p q r w v b stage.ArmingGuest (next_at r b stage.ArmingShadow) Worked
      (at_guest_arm r.stage (subst (λ o. GuestIs r.stage o) s.says.0 h.guest)) (λ x. armed_now x s) h
