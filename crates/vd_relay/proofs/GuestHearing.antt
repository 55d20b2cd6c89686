-- A hearing of the guest's end: a bell wakes it, or it sleeps.
use Rattle.std.proofs.Common.{◌≡◌, ◌≤◌, Bool, true, false, [], refl, sym, ◌∙◌, ap, subst, arith, inl, inr}
use Rattle.vd_words.specs.declared.access.Op.TheVariants as op
use Rattle.vd_words.specs.Model.{PortModel}
use Rattle.vd_ring.specs.declared.act.DeviceAct.TheVariants as act
use Rattle.vd_ring.specs.declared.driver.DriverView.{DriverView}
use Rattle.vd_ring.specs.declared.device.DeviceNow.TheVariants as now
use Rattle.vd_ring.specs.declared.device.DeviceView.{DeviceView}
use Rattle.vd_ring.specs.Sleep.{device_woken}
use Rattle.vd_layout.specs.Begun.{DeviceOp, IsDeviceOp}
use Rattle.vd_layout.specs.Driver.{DriverModel, IsLawfulDriver}
use Rattle.vd_layout.specs.Device.{DeviceModel, IsLawfulDevice, IsDeviceStep}
use Rattle.vd_relay.specs.declared.counts.Turn.TheVariants.{Woke, Slept}
use Rattle.vd_relay.specs.declared.stage.Stage.{Stage}
use Rattle.vd_relay.specs.declared.stage.Stage.TheVariants as stage
use Rattle.vd_relay.specs.declared.state.State.{State}
use Rattle.vd_relay.specs.Pace.{guest_owes, guest_hears}
use Rattle.vd_relay.specs.Stages.{heard_next, GuestIs, BackIs, GuestHears, IsSome}
use Rattle.vd_relay.specs.Tie.{Course}
use Rattle.vd_relay.specs.Relay.{Stands, GuestTurn, IsRoused}
use Rattle.vd_relay.proofs.Calm.{at_stage, settled, owes_idle, stands_roused, hear_most}
use Rattle.vd_relay.proofs.Ops.{at_guest_hear}
use Rattle.vd_relay.proofs.GuestTurns.{bag_same, made_at, next_at, not_woken, to_stage, with_guest}
use Rattle.vd_relay.proofs.GuestFree.{freed_at}
use Rattle.vd_relay.proofs.GuestWakes.{awake_at, roused_by, roused_off, woke_to}

hears_some : (winding : Bool) (x : _) → 1 ≤ guest_hears winding x
hears_some true now.Idle = omega arith
hears_some false now.Idle = omega arith
hears_some true (now.Taking ws) = omega arith
hears_some false (now.Taking ws) = omega arith
hears_some true (now.Giving ws) = omega arith
hears_some false (now.Giving ws) = omega arith
hears_some true (now.Checking i j) = omega arith
hears_some false (now.Checking i j) = omega arith
hears_some true (now.Ringing i j) = omega arith
hears_some false (now.Ringing i j) = omega arith
hears_some true now.Arming = omega arith
hears_some false now.Arming = omega arith
hears_some true (now.Disarming o) = omega arith
hears_some false (now.Disarming o) = omega arith
hears_some true now.Resting = omega arith
hears_some false now.Resting = omega arith

module _ {P E D : Type 0} (port : PortModel P) (e : DeviceModel E) (d : DriverModel D) (law : IsLawfulDevice e) (ldr : IsLawfulDriver d)
    (z : Course) (p q : P) (r : State E D) (w : DeviceView) (v : DriverView) (b : E) where
  pub hearing_woke : (st' : Stage) → e.begun r.guest ≡ DeviceOp.hear → (h : Stands e d z (at_stage r stage.HearingGuest) w v)
      → (s : IsDeviceStep port e p q w r.guest b act.Awake)
      → IsRoused e d (with_guest r b) (e.side.after w s.op s.access s.got) v st'
      → GuestTurn port e d z p q (at_stage r stage.HearingGuest) (next_at r b st') w v Woke
  hearing_woke st' is h s a =
      let w' : DeviceView = e.side.after w s.op s.access s.got in
      let back : h.back ≡ [] = subst (λ o. BackIs o h.back) is h.to_give in
      let f = awake_at port e d law ldr z p q r w v b stage.HearingGuest refl refl h back s in
      let of : s.op ≡ op.Hear = subst (λ o. IsDeviceOp o s.op) is s.of_it in
      woke_to port e d law ldr z p q r w v b stage.HearingGuest st' Woke refl refl h back s
      (stands_roused e d law ldr z (with_guest r b) w' v st' f a) refl (λ y. cc y)
      (λ y. cc y) (sym (ap (λ o. device_woken o act.Awake) of))
      (roused_off port e d law ldr z p q r w v b st' (a.finished, a.is))
      (omega (
        arith,
        roused_by port e d law ldr z p q r w v b st' w'.shown v.shown (a.finished, a.is),
        hear_most r.winding w'.shown v.shown,
        hears_some r.winding w.doing,
        ap (λ o. guest_owes r.winding stage.HearingGuest o w.doing w.shown v.shown (e.left r.guest)) is,
      ))

  asleep_view : (s : IsDeviceStep port e p q w r.guest b act.Asleep) → e.side.after w s.op s.access s.got ≡ w
  asleep_view s = law.stays.asleep w s.op s.access s.got s.was_next (sym s.is_answer)

  hears_idle : (s : IsDeviceStep port e p q w r.guest b act.Asleep) → w.doing ≡ now.Idle
  hears_idle s = ((law.looks.asleep w s.op s.access s.got s.was_next).0 (sym s.is_answer)).1

  hears_armed : w.doing ≡ now.Idle → GuestHears DeviceOp.hear w.doing w.armed → IsSome w.armed
  hears_armed idle (inl x) = x.1
  hears_armed idle (inr x) = absurd (cc (x, idle))

  sleeps : (h : Stands e d z (at_stage r stage.HearingGuest) w v) → IsDeviceStep port e p q w r.guest b act.Asleep
      → GuestTurn port e d z p q (at_stage r stage.HearingGuest) (next_at r b stage.HearingShadow) w v Slept
  sleeps h s =
      let w' : DeviceView = e.side.after w s.op s.access s.got in
      let back : h.back ≡ [] = subst (λ o. BackIs o h.back) s.says.0 h.to_give in
      let f = freed_at port e d law ldr z p q r w v b act.Asleep s stage.HearingGuest refl refl h back s.says.2 s.says.1 s.rests in
      let idle = hears_idle s in
      let here : IsSome w.armed = hears_armed idle (subst (λ o. GuestHears o w.doing w.armed) s.says.0 h.guest_armed) in
      let some : IsSome w'.armed = (here.0, ap (λ (x : DeviceView). x.armed) (asleep_view s) ∙ here.1) in
      made_at port e d law ldr z p q r w v b act.Asleep s stage.HearingGuest (next_at r b stage.HearingShadow) Slept
      (settled e d law ldr z (with_guest r b) w' v stage.HearingShadow refl f tt some h.shadow_armed)
      (bag_same port e d law ldr z p q r w v b act.Asleep s s.says.2) refl
      (not_woken s.op act.Asleep (λ y. cc y)) ((λ y. refl), λ y. refl) (λ y. cc y) (λ y. refl)
      (omega (
        arith,
        owes_idle e d law ldr z (with_guest r b) w' v stage.HearingShadow f,
        ap (λ o. guest_owes r.winding stage.HearingGuest o w.doing w.shown v.shown (e.left r.guest)) s.says.0,
        ap (guest_hears r.winding) idle,
      )) refl (λ y. absurd (cc y))
      (λ y. record { was = refl; is = refl; guest_idle = s.says.1; shadow_idle = f.shadow_idle })
      (λ n. absurd (n refl))

  pub slept_at : Stands e d z r w v → IsDeviceStep port e p q w r.guest b act.Asleep
      → GuestTurn port e d z p q r (next_at r b (heard_next r.stage)) w v Slept
  slept_at h s =
      let at = at_guest_hear r.stage (subst (λ o. GuestIs r.stage o) s.says.0 h.guest) in
      subst (λ (x : Stage). GuestTurn port e d z p q r (next_at r b (heard_next x)) w v Slept) (sym at)
      (to_stage port e d law ldr z p q r w v b stage.HearingGuest (next_at r b stage.HearingShadow) Slept at (λ x. sleeps x s) h)
