-- A look of the guest's end that shows no chain.
use Rattle.std.proofs.Common.{◌≡◌, ℕ, ◌+◌, ◌≤◌, Bool, true, false, None, [], refl, sym, ap, subst, arith, inl}
use Rattle.vd_words.specs.declared.access.Op.TheVariants as op
use Rattle.vd_words.specs.Model.{PortModel}
use Rattle.vd_words.specs.Own.{IsOwn}
use Rattle.vd_ring.specs.declared.act.DeviceAct.TheVariants as act
use Rattle.vd_ring.specs.declared.driver.DriverView.{DriverView}
use Rattle.vd_ring.specs.declared.device.DeviceView.{DeviceView}
use Rattle.vd_layout.specs.Begun.{IsDeviceOp}
use Rattle.vd_layout.specs.Driver.{DriverModel, IsLawfulDriver}
use Rattle.vd_layout.specs.Device.{DeviceModel, IsLawfulDevice, IsDeviceStep}
use Rattle.vd_relay.specs.declared.counts.Turn.TheVariants.{Worked}
use Rattle.vd_relay.specs.declared.stage.Stage.TheVariants as stage
use Rattle.vd_relay.specs.declared.state.State.{State}
use Rattle.vd_relay.specs.Pace.{guest_owes, taking_owes, collect_owes}
use Rattle.vd_relay.specs.Stages.{GuestIs, BackIs}
use Rattle.vd_relay.specs.Tie.{Course}
use Rattle.vd_relay.specs.Relay.{Stands, GuestTurn}
use Rattle.vd_relay.proofs.Calm.{at_stage, settled, owes_idle}
use Rattle.vd_relay.proofs.Ops.{at_take}
use Rattle.vd_relay.proofs.Turns.{worked_only}
use Rattle.vd_relay.proofs.GuestTurns.{bag_same, made_at, next_at, not_woken, to_stage, with_guest}
use Rattle.vd_relay.proofs.GuestFree.{freed_at}

none_paid : (winding shown : Bool) (left : ℕ) → collect_owes winding true shown + 1 ≤ taking_owes winding false shown left
none_paid true shown left = omega arith
none_paid false true left = omega arith
none_paid false false left = omega arith

module _ {P E D : Type 0} (port : PortModel P) (e : DeviceModel E) (d : DriverModel D) (law : IsLawfulDevice e) (ldr : IsLawfulDriver d)
    (z : Course) (p q : P) (r : State E D) (w : DeviceView) (v : DriverView) (b : E) where
  -- it was not shown a chain before
  unshown : (s : IsDeviceStep port e p q w r.guest b act.Nothing) → (x : Bool) → w.shown ≡ x → IsOwn port e.side p w → x ≡ false
  unshown s false is own = refl
  unshown s true is own =
      let n = (law.looks.nothing w s.op s.access s.got s.was_next).0 (sym s.is_answer) in
      let t : e.shows w s.got ≡ true = law.stays.again w s.op s.access s.got s.was_next
      (own.told s.op s.access s.was_next s.got q s.moved) (inl (n.0, n.1)) is in
      absurd (cc (t, n.2))

  found_none : Stands e d z (at_stage r stage.Taking) w v → IsOwn port e.side p w → IsDeviceStep port e p q w r.guest b act.Nothing
      → GuestTurn port e d z p q (at_stage r stage.Taking) (next_at r b (stage.Collecting true)) w v Worked
  found_none h own s =
      let w' : DeviceView = e.side.after w s.op s.access s.got in
      let back : h.back ≡ [] = subst (λ o. BackIs o h.back) s.says.0 h.to_give in
      let f = freed_at port e d law ldr z p q r w v b act.Nothing s stage.Taking refl refl h back s.says.2 s.says.1 s.rests in
      let of : s.op ≡ op.Take = subst (λ o. IsDeviceOp o s.op) s.says.0 s.of_it in
      let unarmed : w'.armed ≡ None = law.stays_unarmed w s.op s.access s.got (λ y. cc (of, y)) h.guest_armed in
      made_at port e d law ldr z p q r w v b act.Nothing s stage.Taking (next_at r b (stage.Collecting true)) Worked
      (settled e d law ldr z (with_guest r b) w' v (stage.Collecting true) refl f tt unarmed h.shadow_armed)
      (bag_same port e d law ldr z p q r w v b act.Nothing s s.says.2) refl (not_woken s.op act.Nothing (λ y. cc y))
      (worked_only act.Nothing (λ y. cc y)) (λ y. cc y)
      (λ y. absurd (cc y))
      (omega (
        arith,
        owes_idle e d law ldr z (with_guest r b) w' v (stage.Collecting true) f,
        ap (λ o. guest_owes r.winding stage.Taking o w.doing w.shown v.shown (e.left r.guest)) s.says.0,
        ap (λ x. taking_owes r.winding x v.shown (e.left r.guest)) (unshown s w.shown refl own),
        none_paid r.winding v.shown (e.left r.guest),
      )) refl (λ y. absurd (cc y)) (λ y. absurd (cc y)) (λ n on at. absurd (cc at))

  pub none_taken : Stands e d z r w v → IsOwn port e.side p w → IsDeviceStep port e p q w r.guest b act.Nothing
      → GuestTurn port e d z p q r (next_at r b (stage.Collecting true)) w v Worked
  none_taken h own s = to_stage port e d law ldr z p q r w v b stage.Taking (next_at r b (stage.Collecting true)) Worked
      (at_take r.stage (subst (λ o. GuestIs r.stage o) s.says.0 h.guest)) (λ x. found_none x own s) h
