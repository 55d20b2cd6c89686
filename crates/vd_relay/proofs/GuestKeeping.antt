-- A take of the guest's end in the wind-up: the chain stays in hand.
use Rattle.std.proofs.Common.{◌≡◌, ℕ, ◌≤◌, Bool, true, false, List, [], ◌∷◌, if◌then◌else◌, refl, sym, ◌∙◌, ap, subst, arith, inl}
use Rattle.vd_model.specs.declared.chain.Piece.{Piece}
use Rattle.vd_words.specs.declared.access.Op.TheVariants as op
use Rattle.vd_words.specs.Model.{PortModel}
use Rattle.vd_ring.specs.declared.act.DeviceAct.TheVariants as act
use Rattle.vd_ring.specs.declared.driver.DriverView.{DriverView}
use Rattle.vd_ring.specs.declared.device.DeviceDone.{DeviceDone}
use Rattle.vd_ring.specs.declared.device.DeviceDone.TheVariants.{Take}
use Rattle.vd_ring.specs.declared.device.DeviceView.{DeviceView}
use Rattle.vd_ring.specs.History.{gives}
use Rattle.vd_layout.specs.Begun.{IsDeviceOp}
use Rattle.vd_layout.specs.Driver.{DriverModel, IsLawfulDriver}
use Rattle.vd_layout.specs.Device.{DeviceModel, IsLawfulDevice, IsDeviceStep}
use Rattle.vd_relay.specs.declared.counts.Turn.TheVariants.{Handled}
use Rattle.vd_relay.specs.declared.stage.Stage.{Stage}
use Rattle.vd_relay.specs.declared.stage.Stage.TheVariants as stage
use Rattle.vd_relay.specs.declared.state.State.{State}
use Rattle.vd_relay.specs.Pace.{guest_owes}
use Rattle.vd_relay.specs.Stages.{GuestIs, TakesFrom, OffersHand, BackIs, GuestShown}
use Rattle.vd_relay.specs.Tie.{Course}
use Rattle.vd_relay.specs.Relay.{Stands, GuestTurn}
use Rattle.vd_relay.proofs.Ways.{stand_in, stands_in}
use Rattle.vd_relay.proofs.Ties.{tied_taken}
use Rattle.vd_relay.proofs.Calm.{FewInHand, at_stage, hand_to}
use Rattle.vd_relay.proofs.GuestGoing.{take_most}
use Rattle.vd_relay.proofs.Turns.{handled_only}
use Rattle.vd_relay.proofs.GuestTurns.{framed_at, made_at, next_at, not_woken, to_stage, with_guest}
use Rattle.vd_relay.proofs.GuestFree.{shadow_free}
use Rattle.vd_relay.proofs.GuestChains.{takes_at, tied_at}

module _ {P E D : Type 0} (port : PortModel P) (e : DeviceModel E) (d : DriverModel D) (law : IsLawfulDevice e) (ldr : IsLawfulDriver d)
    (z : Course) (p q : P) (r : State E D) (w : DeviceView) (v : DriverView) (b : E) where
  -- in the wind-up it stays in hand
  kept_now : (k : ℕ) (x : List Piece) → (h : Stands e d z (at_stage r stage.Taking) w v)
      → IsDeviceStep port e p q w r.guest b (act.Taken k x)
      → r.winding ≡ true → GuestTurn port e d z p q (at_stage r stage.Taking) (next_at r b stage.Taking) w v Handled
  kept_now k x h s winding =
      let w' : DeviceView = e.side.after w s.op s.access s.got in
      let hd : ℕ = s.says.0 in
      let tied = tied_at port e d law ldr z p q r w v b k x h s in
      let of : s.op ≡ op.Take = subst (λ o. IsDeviceOp o s.op) s.says.1 s.of_it in
      let done : w'.done ≡ Take x hd ∷ w.done = s.says.4 in
      let one : FewInHand true (stand_in z.way x ∷ []) = omega arith in
      made_at port e d law ldr z p q r w v b (act.Taken k x) s stage.Taking (next_at r b stage.Taking) Handled (record {
        serves = s.now_stands;
        drives = h.drives;
        paired = framed_at port e d law ldr z p q r w v b (act.Taken k x) s h.paired;
        rests = s.rests;
        acts = Take x hd ∷ h.acts;
        before = done ∙ ap (λ (y : List DeviceDone). Take x hd ∷ y) h.before;
        hand = stand_in z.way x ∷ [];
        back = [];
        tied = tied_taken z r.table h.acts v.frame v.done x (stand_in z.way x) hd (stands_in z.way x) tied;
        guest = subst (λ o. GuestIs stage.Taking o) (sym s.says.2) tt;
        shadow = h.shadow;
        takes = subst (λ o. TakesFrom o (stand_in z.way x ∷ [])) (sym s.says.2) tt;
        offers = subst (λ o. OffersHand o (stand_in z.way x ∷ [])) (sym (shadow_free port e d law ldr z p q r w v b stage.Taking refl h)) tt;
        in_hand = hand_to stage.Taking r.winding (stand_in z.way x ∷ [])
            (subst (λ (y : Bool). FewInHand y (stand_in z.way x ∷ [])) (sym winding) one);
        offer = tt;
        to_give = subst (λ o. BackIs o []) (sym s.says.2) refl;
        ends = tt;
        guest_armed = law.stays_unarmed w s.op s.access s.got (λ y. cc (of, y)) h.guest_armed;
        shadow_armed = h.shadow_armed;
        guest_shown = subst (λ o. GuestShown o w'.doing w'.shown (e.left b)) (sym s.says.2) tt;
        shadow_shown = h.shadow_shown;
      })
      (inl (ap gives done)) refl (not_woken s.op (act.Taken k x) (λ y. cc y)) (handled_only (act.Taken k x) (λ y. cc y)) (λ y. cc y)
      (λ y. absurd (cc y))
      (omega (
        arith,
        take_most r.winding w'.shown v.shown,
        most_few r.winding,
        ap (λ o. guest_owes r.winding stage.Taking o w'.doing w'.shown v.shown (e.left b)) s.says.2,
      )) refl (λ y. absurd (cc y)) (λ y. absurd (cc y)) (λ n on at. absurd (cc at))
    where
      most_few : (y : Bool) → (if y then 4 else 47) ≤ 47
      most_few true = omega arith
      most_few false = omega arith

  pub kept : (k : ℕ) (x : List Piece) → Stands e d z r w v → IsDeviceStep port e p q w r.guest b (act.Taken k x) → r.winding ≡ true
      → GuestTurn port e d z p q r (with_guest r b) w v Handled
  kept k x h s winding =
      let at = takes_at port e d law ldr z p q r w v b k x h s in
      subst (λ (y : Stage). GuestTurn port e d z p q r (next_at r b y) w v Handled) (sym at)
      (to_stage port e d law ldr z p q r w v b stage.Taking (next_at r b stage.Taking) Handled at (λ u. kept_now k x u s winding) h)
