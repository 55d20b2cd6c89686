-- A take of the guest's end: the chain's offer is begun.
use Rattle.std.proofs.Common.{◌≡◌, ℕ, ◌≤◌, Bool, true, false, List, [], ◌∷◌, length, refl, sym, ◌∙◌, ap, subst, arith, inl, inr}
use Rattle.vd_model.specs.declared.chain.Piece.{Piece}
use Rattle.vd_words.specs.declared.access.Op.TheVariants as op
use Rattle.vd_words.specs.Model.{PortModel}
use Rattle.vd_ring.specs.declared.act.DeviceAct.TheVariants as act
use Rattle.vd_ring.specs.declared.driver.DriverView.{DriverView}
use Rattle.vd_ring.specs.declared.device.DeviceDone.{DeviceDone}
use Rattle.vd_ring.specs.declared.device.DeviceDone.TheVariants.{Take}
use Rattle.vd_ring.specs.declared.device.DeviceView.{DeviceView}
use Rattle.vd_ring.specs.History.{gives, takes, next_head}
use Rattle.vd_layout.specs.Begun.{DriverOp, IsDeviceOp}
use Rattle.vd_layout.specs.Driver.{DriverModel, IsLawfulDriver}
use Rattle.vd_layout.specs.Device.{DeviceModel, IsLawfulDevice, IsDeviceStep}
use Rattle.vd_relay.specs.declared.counts.Turn.TheVariants.{Handled}
use Rattle.vd_relay.specs.declared.stage.Stage.TheVariants as stage
use Rattle.vd_relay.specs.declared.state.State.{State}
use Rattle.vd_relay.specs.Pace.{guest_owes, shadow_owes, taking_owes}
use Rattle.vd_relay.specs.Stages.{GuestIs, ShadowIs, TakesFrom, OffersHand, BackIs, GuestShown, ShadowShown}
use Rattle.vd_relay.specs.Tie.{Course}
use Rattle.vd_relay.specs.Ways.{Carries}
use Rattle.vd_relay.specs.Relay.{Stands}
use Rattle.vd_relay.specs.Carriers.{CarrierModel, HasCarried, CarriesOn}
use Rattle.vd_relay.proofs.Ways.{number_next}
use Rattle.vd_relay.proofs.Ties.{taken_count, tied_taken}
use Rattle.vd_relay.proofs.Calm.{at_stage}
use Rattle.vd_relay.proofs.Turns.{handled_only}
use Rattle.vd_relay.proofs.GuestTurns.{TurnsTo, framed_at, made_to, not_woken, to_stage_to}
use Rattle.vd_relay.proofs.GuestChains.{takes_at, tied_at, has_next}

takes_some : (winding g s : Bool) (left : ℕ) → 1 ≤ left → 1 ≤ taking_owes winding g s left
takes_some winding true s left some = some
takes_some true false s left some = omega arith
takes_some false false true left some = omega arith
takes_some false false false left some = omega arith

module _ {P E D : Type 0} (port : PortModel P) (e : DeviceModel E) (d : DriverModel D) (law : IsLawfulDevice e) (ldr : IsLawfulDriver d)
    (z : Course) (p q : P) (r : State E D) (w : DeviceView) (v : DriverView) (b : E) where
  -- a chain is offered on the shadow ring, with this number on the guest's ring and this head
  abbrev pub offering : E → D → ℕ → ℕ → State E D
  offering b' c' k head = record {
    guest = b';
    shadow = c';
    table = r.table;
    stage = stage.Offering k head;
    winding = r.winding;
    target = r.target;
  }

  -- its offer is begun
  took_now : (k head : ℕ) (x y : List Piece) (c' : D) → (h : Stands e d z (at_stage r stage.Taking) w v)
      → (s : IsDeviceStep port e p q w r.guest b (act.Taken k x)) → d.stands c' v → Carries z.way x y → d.begun c' ≡ DriverOp.offer y
      → d.left c' ≤ 38 → head ≡ next_head v.frame v.done
      → TurnsTo port e d z p q (at_stage r stage.Taking) (offering b c' k head) w v Handled (e.side.after w s.op s.access s.got)
  took_now k head x y c' h s drives stands begun few is =
      let w' : DeviceView = e.side.after w s.op s.access s.got in
      let hd : ℕ = s.says.0 in
      let tied = tied_at port e d law ldr z p q r w v b k x h s in
      let of : s.op ≡ op.Take = subst (λ o. IsDeviceOp o s.op) s.says.1 s.of_it in
      let done : w'.done ≡ Take x hd ∷ w.done = s.says.4 in
      made_to port e d law ldr z p q r w v b (act.Taken k x) s stage.Taking (offering b c' k head) Handled (record {
        serves = s.now_stands;
        drives = drives;
        paired = framed_at port e d law ldr z p q r w v b (act.Taken k x) s h.paired;
        rests = s.rests;
        acts = Take x hd ∷ h.acts;
        before = done ∙ ap (λ (y : List DeviceDone). Take x hd ∷ y) h.before;
        hand = y ∷ [];
        back = [];
        tied = tied_taken z r.table h.acts v.frame v.done x y hd stands tied;
        guest = subst (λ o. GuestIs (stage.Offering k head) o) (sym s.says.2) tt;
        shadow = subst (λ o. ShadowIs (stage.Offering k head) o) (sym begun) tt;
        takes = subst (λ o. TakesFrom o (y ∷ [])) (sym s.says.2) tt;
        offers = subst (λ o. OffersHand o (y ∷ [])) (sym begun) refl;
        in_hand = tt;
        offer = (
          s.says.3 ∙ ap (λ (y : List DeviceDone). length (takes y)) h.before
              ∙ omega (arith, taken_count z r.table h.acts v.frame v.done [] [] tied, number_next z.way (length z.gives) v.done tied.follows),
          is,
        );
        to_give = subst (λ o. BackIs o []) (sym s.says.2) refl;
        ends = tt;
        guest_armed = law.stays_unarmed w s.op s.access s.got (λ y. cc (of, y)) h.guest_armed;
        shadow_armed = h.shadow_armed;
        guest_shown = subst (λ o. GuestShown o w'.doing w'.shown (e.left b)) (sym s.says.2) tt;
        shadow_shown = subst (λ o. ShadowShown o v.doing v.shown (d.left c')) (sym begun) tt;
      })
      (inl (ap gives done)) refl (not_woken s.op (act.Taken k x) (λ y. cc y)) (handled_only (act.Taken k x) (λ y. cc y)) (λ y. cc y)
      (λ y. absurd (cc y))
      (omega (
        arith,
        few,
        s.left,
        takes_some r.winding w.shown v.shown (e.left r.guest) (omega (arith, s.left)),
        ap (λ o. shadow_owes r.winding (stage.Offering k head) o v.doing w'.shown v.shown (d.left c')) begun,
        ap (λ o. guest_owes r.winding stage.Taking o w.doing w.shown v.shown (e.left r.guest)) s.says.1,
      )) refl (λ y. absurd (cc y)) (λ y. absurd (cc y)) (λ n on at. absurd (cc at))

  took_to : (k head : ℕ) (x y : List Piece) (c' : D) → Stands e d z r w v
      → (s : IsDeviceStep port e p q w r.guest b (act.Taken k x)) → Carries z.way x y → d.stands c' v → d.begun c' ≡ DriverOp.offer y
      → d.left c' ≤ 38 → head ≡ next_head v.frame v.done
      → TurnsTo port e d z p q r (offering b c' k head) w v Handled (e.side.after w s.op s.access s.got)
  took_to k head x y c' h s stands drives begun few is =
      to_stage_to port e d law ldr z p q r w v b stage.Taking (offering b c' k head) Handled (e.side.after w s.op s.access s.got)
      (takes_at port e d law ldr z p q r w v b k x h s)
      (λ u. took_now k head x y c' u s drives stands begun few is) h

  -- a chain was taken and is carried: its offer is begun
  pub took : {C : Type 0} (m : CarrierModel C) (c c' : C) (k head : ℕ) (x y : List Piece) (b' : D) → Stands e d z r w v
      → IsDeviceStep port e p q w r.guest b (act.Taken k x) → HasCarried m d z.way c c' k x y v → d.stands b' v
      → d.begun b' ≡ DriverOp.offer y → d.left b' ≤ 38 → head ≡ next_head v.frame v.done
      → CarriesOn m port e d z c c' p q r (offering b b' k head) w v Handled
  took m c c' k head x y b' h s carried drives begun few is =
      let t = took_to k head x y b' h s carried.carries drives begun few is in (
        t.0,
        inr (record {
          number = k;
          chain = x;
          head = s.says.0;
          taken = s.says.5;
          done = ap (λ (u : DeviceView). u.done) t.1 ∙ s.says.4;
          numbered = s.says.3;
          offered = y;
          next = ap (λ (i : ℕ). stage.Offering k i) is;
          begun = begun;
          carried = carried;
          has_free = has_next port e d law ldr z p q r w v b k x h s;
          short = few;
        }),
      )
