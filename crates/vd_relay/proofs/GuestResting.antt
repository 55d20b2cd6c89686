-- A rest of the guest's end.
use Rattle.std.proofs.Common.{◌≡◌, List, [], ◌∷◌, refl, sym, ◌∙◌, ap, subst, arith, inl}
use Rattle.vd_words.specs.declared.access.Op.TheVariants as op
use Rattle.vd_words.specs.Model.{PortModel}
use Rattle.vd_ring.specs.declared.act.DeviceAct.TheVariants as act
use Rattle.vd_ring.specs.declared.frame.Used.{Used}
use Rattle.vd_ring.specs.declared.driver.DriverView.{DriverView}
use Rattle.vd_ring.specs.declared.device.DeviceDone.{DeviceDone}
use Rattle.vd_ring.specs.declared.device.DeviceDone.TheVariants.{Rest}
use Rattle.vd_ring.specs.declared.device.DeviceView.{DeviceView}
use Rattle.vd_ring.specs.History.{gives}
use Rattle.vd_layout.specs.Begun.{DriverOp, IsDeviceOp}
use Rattle.vd_layout.specs.Driver.{DriverModel, IsLawfulDriver}
use Rattle.vd_layout.specs.Device.{DeviceModel, IsLawfulDevice, IsDeviceStep}
use Rattle.vd_relay.specs.declared.counts.Turn.TheVariants.{Worked}
use Rattle.vd_relay.specs.declared.stage.Stage.TheVariants as stage
use Rattle.vd_relay.specs.declared.state.State.{State}
use Rattle.vd_relay.specs.Pace.{guest_owes}
use Rattle.vd_relay.specs.Stages.{GuestIs, ShadowIs, TakesFrom, BackIs, GuestShown}
use Rattle.vd_relay.specs.Tie.{Course, IsTied}
use Rattle.vd_relay.specs.Relay.{Stands, GuestTurn}
use Rattle.vd_relay.proofs.Calm.{at_stage}
use Rattle.vd_relay.proofs.Ops.{at_rest}
use Rattle.vd_relay.proofs.Turns.{worked_only}
use Rattle.vd_relay.proofs.GuestTurns.{framed_at, made_at, next_at, not_woken, to_stage}
use Rattle.vd_relay.proofs.GuestFree.{shadow_free}

module _ {P E D : Type 0} (port : PortModel P) (e : DeviceModel E) (d : DriverModel D) (law : IsLawfulDevice e) (ldr : IsLawfulDriver d)
    (z : Course) (p q : P) (r : State E D) (w : DeviceView) (v : DriverView) (b : E) where
  rests_now : (h : Stands e d z (at_stage r stage.Resting) w v) → IsDeviceStep port e p q w r.guest b act.Rested
      → GuestTurn port e d z p q (at_stage r stage.Resting) (next_at r b stage.Rested) w v Worked
  rests_now h s =
      let w' : DeviceView = e.side.after w s.op s.access s.got in
      let back : h.back ≡ [] = subst (λ o. BackIs o h.back) s.says.0 h.to_give in
      let of : s.op ≡ op.Rest = subst (λ o. IsDeviceOp o s.op) s.says.0 s.of_it in
      let shadow : d.begun r.shadow ≡ DriverOp.idle = shadow_free port e d law ldr z p q r w v b stage.Resting refl h in
      made_at port e d law ldr z p q r w v b act.Rested s stage.Resting (next_at r b stage.Rested) Worked (record {
        serves = s.now_stands;
        drives = h.drives;
        paired = framed_at port e d law ldr z p q r w v b act.Rested s h.paired;
        rests = s.rests;
        acts = h.acts;
        before = s.says.2 ∙ ap (λ (y : List DeviceDone). Rest ∷ y) h.before;
        hand = h.hand;
        back = [];
        tied = subst (λ (us : List Used). IsTied z r.table h.hand us h.acts v.frame v.done) back h.tied;
        guest = subst (λ o. GuestIs stage.Rested o) (sym s.says.1) tt;
        shadow = subst (λ o. ShadowIs stage.Rested o) (sym shadow) tt;
        takes = subst (λ o. TakesFrom o h.hand) (sym s.says.1) tt;
        offers = h.offers;
        in_hand = h.in_hand;
        offer = tt;
        to_give = subst (λ o. BackIs o []) (sym s.says.1) refl;
        ends = h.ends;
        guest_armed = law.stays_unarmed w s.op s.access s.got (λ y. cc (of, y)) h.guest_armed;
        shadow_armed = h.shadow_armed;
        guest_shown = subst (λ o. GuestShown o w'.doing w'.shown (e.left b)) (sym s.says.1) tt;
        shadow_shown = h.shadow_shown;
      }) (inl (ap gives s.says.2)) refl (not_woken s.op act.Rested (λ y. cc y)) (worked_only act.Rested (λ y. cc y)) (λ y. cc y)
      (λ y. absurd (cc y))
      (omega (
        arith,
        s.left,
        ap (λ o. guest_owes r.winding stage.Rested o w'.doing w'.shown v.shown (e.left b)) s.says.1,
        ap (λ o. guest_owes r.winding stage.Resting o w.doing w.shown v.shown (e.left r.guest)) s.says.0,
      )) refl (λ y. absurd (cc y)) (λ y. absurd (cc y)) (λ n on at. absurd (cc at))

  pub rested : Stands e d z r w v → IsDeviceStep port e p q w r.guest b act.Rested
      → GuestTurn port e d z p q r (next_at r b stage.Rested) w v Worked
  rested h s = to_stage port e d law ldr z p q r w v b stage.Resting (next_at r b stage.Rested) Worked
      (at_rest r.stage (subst (λ o. GuestIs r.stage o) s.says.0 h.guest)) (λ x. rests_now x s) h
