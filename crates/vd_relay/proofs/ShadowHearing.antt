-- A hearing of the shadow end: a bell wakes it, or it sleeps.
use Rattle.std.proofs.Common.{◌≡◌, ◌≤◌, Bool, true, false, refl, sym, ◌∙◌, ap, subst, arith, inl, inr}
use Rattle.vd_words.specs.declared.access.Op.TheVariants as op
use Rattle.vd_words.specs.Model.{PortModel}
use Rattle.vd_ring.specs.declared.act.DriverAct.TheVariants as act
use Rattle.vd_ring.specs.declared.driver.DriverNow.TheVariants as now
use Rattle.vd_ring.specs.declared.driver.DriverView.{DriverView}
use Rattle.vd_ring.specs.declared.device.DeviceView.{DeviceView}
use Rattle.vd_ring.specs.Sleep.{driver_woken}
use Rattle.vd_layout.specs.Begun.{DriverOp, IsDriverOp}
use Rattle.vd_layout.specs.Driver.{DriverModel, IsLawfulDriver, IsDriverStep}
use Rattle.vd_layout.specs.Device.{DeviceModel, IsLawfulDevice}
use Rattle.vd_relay.specs.declared.counts.Turn.TheVariants.{Woke, Slept}
use Rattle.vd_relay.specs.declared.stage.Stage.{Stage}
use Rattle.vd_relay.specs.declared.stage.Stage.TheVariants as stage
use Rattle.vd_relay.specs.declared.state.State.{State}
use Rattle.vd_relay.specs.Pace.{shadow_owes, shadow_hears}
use Rattle.vd_relay.specs.Stages.{heard_next, ShadowIs, ShadowHears, IsSome}
use Rattle.vd_relay.specs.Tie.{Course}
use Rattle.vd_relay.specs.Relay.{Stands, ShadowTurn, IsRoused}
use Rattle.vd_relay.proofs.Calm.{at_stage, settled, owes_idle, stands_roused, hear_most}
use Rattle.vd_relay.proofs.Ops.{at_shadow_hear}
use Rattle.vd_relay.proofs.ShadowTurns.{made_at, next_at, not_woken, once, to_stage, with_shadow}
use Rattle.vd_relay.proofs.ShadowFree.{freed_at}
use Rattle.vd_relay.proofs.ShadowWakes.{awake_at, roused_by, roused_off, roused_on, woke_to}

hears_some : (winding : Bool) (x : _) → 1 ≤ shadow_hears winding x
hears_some true now.Idle = omega arith
hears_some false now.Idle = omega arith
hears_some true (now.Offering ps) = omega arith
hears_some false (now.Offering ps) = omega arith
hears_some true (now.Entered ps) = omega arith
hears_some false (now.Entered ps) = omega arith
hears_some true (now.Collecting ws) = omega arith
hears_some false (now.Collecting ws) = omega arith
hears_some true (now.Checking i j) = omega arith
hears_some false (now.Checking i j) = omega arith
hears_some true (now.Ringing i j) = omega arith
hears_some false (now.Ringing i j) = omega arith
hears_some true now.Arming = omega arith
hears_some false now.Arming = omega arith
hears_some true (now.Disarming o) = omega arith
hears_some false (now.Disarming o) = omega arith

module _ {P E D : Type 0} (port : PortModel P) (e : DeviceModel E) (d : DriverModel D) (law : IsLawfulDevice e) (ldr : IsLawfulDriver d)
    (z : Course) (p q : P) (r : State E D) (w : DeviceView) (v : DriverView) (b : D) where
  pub hearing_woke : (st' : Stage) → d.begun r.shadow ≡ DriverOp.hear → (h : Stands e d z (at_stage r stage.HearingShadow) w v)
      → (s : IsDriverStep port d p q v r.shadow b act.Awake)
      → IsRoused e d (with_shadow r b) w (d.side.after v s.op s.access s.got) st'
      → ShadowTurn port e d z p q (at_stage r stage.HearingShadow) (next_at r b st') w v Woke
  hearing_woke st' is h s a =
      let v' : DriverView = d.side.after v s.op s.access s.got in
      let f = awake_at port e d law ldr z p q r w v b stage.HearingShadow refl refl h s in
      let of : s.op ≡ op.Hear = subst (λ o. IsDriverOp o s.op) is s.of_it in
      woke_to port e d law ldr z p q r w v b stage.HearingShadow st' Woke refl refl h s
      (stands_roused e d law ldr z (with_shadow r b) w v' st' f a) refl (λ y. cc y)
      (λ y. cc y) (sym (ap (λ o. driver_woken o act.Awake) of)) (roused_on port e d law ldr z p q r w v b st' (a.finished, a.is))
      (roused_off port e d law ldr z p q r w v b st' (a.finished, a.is))
      (omega (
        arith,
        roused_by port e d law ldr z p q r w v b st' w.shown v'.shown (a.finished, a.is),
        hear_most r.winding w.shown v'.shown,
        hears_some r.winding v.doing,
        ap (λ o. shadow_owes r.winding stage.HearingShadow o v.doing w.shown v.shown (d.left r.shadow)) is,
      ))

  asleep_view : (s : IsDriverStep port d p q v r.shadow b act.Asleep) → d.side.after v s.op s.access s.got ≡ v
  asleep_view s = ldr.stays.asleep v s.op s.access s.got s.was_next (sym s.is_answer)

  hears_idle : (s : IsDriverStep port d p q v r.shadow b act.Asleep) → v.doing ≡ now.Idle
  hears_idle s = ((ldr.looks.asleep v s.op s.access s.got s.was_next).0 (sym s.is_answer)).1

  hears_armed : v.doing ≡ now.Idle → ShadowHears DriverOp.hear v.doing v.armed → IsSome v.armed
  hears_armed idle (inl x) = x.1
  hears_armed idle (inr x) = absurd (cc (x, idle))

  sleeps : (h : Stands e d z (at_stage r stage.HearingShadow) w v) → IsDriverStep port d p q v r.shadow b act.Asleep
      → ShadowTurn port e d z p q (at_stage r stage.HearingShadow) (next_at r b stage.HearingGuest) w v Slept
  sleeps h s =
      let v' : DriverView = d.side.after v s.op s.access s.got in
      let f = freed_at port e d law ldr z p q r w v b act.Asleep s stage.HearingShadow refl refl h s.says.2 s.says.1 in
      let idle = hears_idle s in
      let here : IsSome v.armed = hears_armed idle (subst (λ o. ShadowHears o v.doing v.armed) s.says.0 h.shadow_armed) in
      let some : IsSome v'.armed = (here.0, ap (λ (x : DriverView). x.armed) (asleep_view s) ∙ here.1) in
      made_at port e d law ldr z p q r w v b act.Asleep s stage.HearingShadow (next_at r b stage.HearingGuest) Slept
      (settled e d law ldr z (with_shadow r b) w v' stage.HearingGuest refl f tt h.guest_armed some) refl
      (not_woken s.op act.Asleep (λ y. cc y)) ((λ y. refl), λ y. refl)
      (once port e d law ldr z p q r w v b act.Asleep Slept (λ y. cc y) (λ y. cc y)) refl
      (omega (
        arith,
        owes_idle e d law ldr z (with_shadow r b) w v' stage.HearingGuest f,
        ap (λ o. shadow_owes r.winding stage.HearingShadow o v.doing w.shown v.shown (d.left r.shadow)) s.says.0,
        ap (shadow_hears r.winding) idle,
      )) refl (λ y. absurd (cc y))
      (λ y. record { was = refl; is = refl; guest_idle = f.guest_idle; shadow_idle = s.says.1 })
      (λ n. absurd (n refl))

  pub slept_at : Stands e d z r w v → IsDriverStep port d p q v r.shadow b act.Asleep
      → ShadowTurn port e d z p q r (next_at r b (heard_next r.stage)) w v Slept
  slept_at h s =
      let at = at_shadow_hear r.stage (subst (λ o. ShadowIs r.stage o) s.says.0 h.shadow) in
      subst (λ (x : Stage). ShadowTurn port e d z p q r (next_at r b (heard_next x)) w v Slept) (sym at)
      (to_stage port e d law ldr z p q r w v b stage.HearingShadow (next_at r b stage.HearingGuest) Slept at (λ x. sleeps x s) h)
