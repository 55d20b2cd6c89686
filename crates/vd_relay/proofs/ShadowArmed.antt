-- An arming of the shadow end that leaves it armed.
use Rattle.std.proofs.Common.{◌≡◌, ℕ, Bool, true, false, if◌then◌else◌, refl, sym, ◌∙◌, ap, subst, arith, inl, inr}
use Rattle.vd_words.specs.declared.access.Op.TheVariants as op
use Rattle.vd_words.specs.Model.{PortModel}
use Rattle.vd_ring.specs.declared.act.DriverAct.{DriverAct}
use Rattle.vd_ring.specs.declared.act.DriverAct.TheVariants as act
use Rattle.vd_ring.specs.declared.driver.DriverNow.TheVariants as now
use Rattle.vd_ring.specs.declared.driver.DriverView.{DriverView}
use Rattle.vd_ring.specs.declared.device.DeviceView.{DeviceView}
use Rattle.vd_layout.specs.Begun.{DriverOp, IsDriverOp}
use Rattle.vd_layout.specs.Driver.{DriverModel, IsLawfulDriver, IsDriverStep}
use Rattle.vd_layout.specs.Device.{DeviceModel, IsLawfulDevice}
use Rattle.vd_relay.specs.declared.counts.Turn.TheVariants.{Worked}
use Rattle.vd_relay.specs.declared.stage.Stage.{Stage}
use Rattle.vd_relay.specs.declared.stage.Stage.TheVariants as stage
use Rattle.vd_relay.specs.declared.state.State.{State}
use Rattle.vd_relay.specs.Pace.{shadow_owes, hear_owes}
use Rattle.vd_relay.specs.Stages.{ShadowIs, IsSome, ShadowArms}
use Rattle.vd_relay.specs.Tie.{Course}
use Rattle.vd_relay.specs.Relay.{Stands, ShadowTurn, IsRoused}
use Rattle.vd_relay.proofs.Calm.{at_stage, settled, owes_idle, stands_roused, roused_most}
use Rattle.vd_relay.proofs.Ops.{at_shadow_arm}
use Rattle.vd_relay.proofs.Turns.{worked_only}
use Rattle.vd_relay.proofs.ShadowTurns.{made_at, next_at, not_woken, once, to_stage, with_shadow}
use Rattle.vd_relay.proofs.ShadowFree.{freed_at}
use Rattle.vd_relay.proofs.ShadowWakes.{roused_by, roused_off, roused_on}

module _ {P E D : Type 0} (port : PortModel P) (e : DeviceModel E) (d : DriverModel D) (law : IsLawfulDevice e) (ldr : IsLawfulDriver d)
    (z : Course) (p q : P) (r : State E D) (w : DeviceView) (v : DriverView) (b : D) where
  arms_of : (st : Stage) (answer : DriverAct) → (s : IsDriverStep port d p q v r.shadow b answer) → d.begun r.shadow ≡ DriverOp.arm
      → s.op ≡ op.Arm
  arms_of st answer s is = subst (λ o. IsDriverOp o s.op) is s.of_it

  armed_at : (s : IsDriverStep port d p q v r.shadow b act.Armed) → ShadowArms DriverOp.arm v.doing v.armed
      → IsSome (d.side.after v s.op s.access s.got).armed
  armed_at s a =
      let again : v.doing ≡ now.Arming = ((ldr.looks.armed v s.op s.access s.got s.was_next).0 (sym s.is_answer)).1 in
      elim a [
        | inl x ↦ absurd (cc (x, again))
        | inr (inl x) ↦ (x.1.0, ldr.stays.armed v s.op s.access s.got s.was_next (sym s.is_answer) ∙ x.1.1)
        | inr (inr x) ↦ absurd (cc (x, again))
      ]

  armed_now : r.winding ≡ false → Stands e d z (at_stage r stage.ArmingShadow) w v → IsDriverStep port d p q v r.shadow b act.Armed
      → ShadowTurn port e d z p q (at_stage r stage.ArmingShadow) (next_at r b stage.HearingGuest) w v Worked
  armed_now off h s =
      let v' : DriverView = d.side.after v s.op s.access s.got in
      let f = freed_at port e d law ldr z p q r w v b act.Armed s stage.ArmingShadow refl refl h s.says.2 s.says.1 in
      let some = armed_at s (subst (λ o. ShadowArms o v.doing v.armed) s.says.0 h.shadow_armed) in
      made_at port e d law ldr z p q r w v b act.Armed s stage.ArmingShadow (next_at r b stage.HearingGuest) Worked
      (settled e d law ldr z (with_shadow r b) w v' stage.HearingGuest refl f tt h.guest_armed some) refl
      (not_woken s.op act.Armed (λ y. cc y)) (worked_only act.Armed (λ y. cc y))
      (once port e d law ldr z p q r w v b act.Armed Worked (λ y. cc y) (λ y. cc y)) refl
      (omega (
        arith,
        s.left,
        owes_idle e d law ldr z (with_shadow r b) w v' stage.HearingGuest f,
        ap hear_owes off,
        ap (λ o. shadow_owes r.winding stage.ArmingShadow o v.doing w.shown v.shown (d.left r.shadow)) s.says.0,
        ap {B = ℕ} (λ (x : Bool). if x then 6 else 39) off,
      )) refl (λ y. absurd (cc y)) (λ y. absurd (cc y)) (λ n on. absurd (cc (off, on)))

  pub armed_both : r.winding ≡ false → Stands e d z r w v → IsDriverStep port d p q v r.shadow b act.Armed
      → ShadowTurn port e d z p q r (next_at r b stage.HearingGuest) w v Worked
  armed_both off h s = to_stage port e d law ldr z p q r w v b stage.ArmingShadow (next_at r b stage.HearingGuest) Worked
      (at_shadow_arm r.stage (subst (λ o. ShadowIs r.stage o) s.says.0 h.shadow)) (λ x. armed_now off x s) h

  wound_now : (st' : Stage) → r.winding ≡ true → Stands e d z (at_stage r stage.ArmingShadow) w v
      → (s : IsDriverStep port d p q v r.shadow b act.Armed)
      → IsRoused e d (with_shadow r b) w (d.side.after v s.op s.access s.got) st'
      → ShadowTurn port e d z p q (at_stage r stage.ArmingShadow) (next_at r b st') w v Worked
  wound_now st' on h s a =
      let v' : DriverView = d.side.after v s.op s.access s.got in
      let f = freed_at port e d law ldr z p q r w v b act.Armed s stage.ArmingShadow refl refl h s.says.2 s.says.1 in
      made_at port e d law ldr z p q r w v b act.Armed s stage.ArmingShadow (next_at r b st') Worked
      (stands_roused e d law ldr z (with_shadow r b) w v' st' f a) refl (not_woken s.op act.Armed (λ y. cc y))
      (worked_only act.Armed (λ y. cc y)) (once port e d law ldr z p q r w v b act.Armed Worked (λ y. cc y) (λ y. cc y))
      (roused_on port e d law ldr z p q r w v b st' (a.finished, a.is))
      (omega (
        arith,
        s.left,
        owes_idle e d law ldr z (with_shadow r b) w v' st' f,
        roused_by port e d law ldr z p q r w v b st' w.shown v'.shown (a.finished, a.is),
        ap (λ x. roused_most x w.shown v'.shown) on,
        ap (λ o. shadow_owes r.winding stage.ArmingShadow o v.doing w.shown v.shown (d.left r.shadow)) s.says.0,
        ap {B = ℕ} (λ (x : Bool). if x then 6 else 39) on,
      )) refl (λ y. absurd (cc y)) (λ y. absurd (cc y))
      (λ n wound at guest shadow. roused_off port e d law ldr z p q r w v b st' (a.finished, a.is) at)

  pub armed_winding : (st' : Stage) → r.winding ≡ true → Stands e d z r w v → (s : IsDriverStep port d p q v r.shadow b act.Armed)
      → IsRoused e d (with_shadow r b) w (d.side.after v s.op s.access s.got) st' → ShadowTurn port e d z p q r (next_at r b st') w v Worked
  armed_winding st' on h s a = to_stage port e d law ldr z p q r w v b stage.ArmingShadow (next_at r b st') Worked
      (at_shadow_arm r.stage (subst (λ o. ShadowIs r.stage o) s.says.0 h.shadow)) (λ x. wound_now st' on x s a) h
