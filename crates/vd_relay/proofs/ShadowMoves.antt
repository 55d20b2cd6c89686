-- An access in the middle of the shadow end's operation.
use Rattle.std.proofs.Common.{◌≡◌, true, List, refl, sym, ◌∙◌, ap, subst, arith, inl, inr}
use Rattle.vd_words.specs.declared.access.Op.TheVariants as op
use Rattle.vd_words.specs.Model.{PortModel}
use Rattle.vd_ring.specs.declared.act.DriverAct.{DriverAct}
use Rattle.vd_ring.specs.declared.act.DriverAct.TheVariants as act
use Rattle.vd_ring.specs.declared.frame.Frame.{Frame}
use Rattle.vd_ring.specs.declared.driver.DriverDone.{DriverDone}
use Rattle.vd_ring.specs.declared.driver.DriverNow.TheVariants as now
use Rattle.vd_ring.specs.declared.driver.DriverView.{DriverView}
use Rattle.vd_ring.specs.declared.device.DeviceView.{DeviceView}
use Rattle.vd_layout.specs.Begun.{DriverOp, IsDriverOp}
use Rattle.vd_layout.specs.Driver.{DriverModel, IsLawfulDriver, IsDriverStep}
use Rattle.vd_layout.specs.Device.{DeviceModel, IsLawfulDevice}
use Rattle.vd_relay.specs.declared.counts.Turn.TheVariants.{Worked}
use Rattle.vd_relay.specs.declared.stage.Stage.{Stage}
use Rattle.vd_relay.specs.declared.stage.Stage.TheVariants as stage
use Rattle.vd_relay.specs.declared.state.State.{State}
use Rattle.vd_relay.specs.Stages.{is_shadow, OfferIs, EndsIs, ShadowIs, ShadowArmed, ShadowHears}
use Rattle.vd_relay.specs.Tie.{Course, guests}
use Rattle.vd_relay.specs.Relay.{Stands, ShadowTurn}
use Rattle.vd_relay.proofs.ShadowGoing.{Goes, went}
use Rattle.vd_relay.proofs.DriverGoing.{going}
use Rattle.vd_relay.proofs.Turns.{worked_only}
use Rattle.vd_relay.proofs.Ops.{at_shadow_hear}
use Rattle.vd_relay.proofs.Hearings.{shadow_stage, shadow_heard, shadow_goes_on}
use Rattle.vd_relay.proofs.ShadowTurns.{framed_at, made_at, not_woken, once, owes_here, tied_after, with_shadow}
use Rattle.vd_relay.proofs.ShadowFree.{shadow_live}

module _ {P E D : Type 0} (port : PortModel P) (e : DeviceModel E) (d : DriverModel D) (law : IsLawfulDevice e) (ldr : IsLawfulDriver d)
    (z : Course) (p q : P) (r : State E D) (w : DeviceView) (v : DriverView) (b : D) where
  goes_of : (s : IsDriverStep port d p q v r.shadow b act.Moved) → Goes s.op v (d.side.after v s.op s.access s.got)
  goes_of s = going port d ldr p q r.shadow v b s

  offer_after : (answer : DriverAct) (s : IsDriverStep port d p q v r.shadow b answer) (st : Stage)
      → (d.side.after v s.op s.access s.got).done ≡ v.done → OfferIs st (guests z) v.frame v.done
      → OfferIs st (guests z) (d.side.after v s.op s.access s.got).frame
      (d.side.after v s.op s.access s.got).done
  offer_after answer s st done is =
      subst (λ (f : Frame). OfferIs st (guests z) f (d.side.after v s.op s.access s.got).done)
      (sym (ldr.framed v s.op s.access s.got))
      (subst (λ (o : List DriverDone). OfferIs st (guests z) v.frame o) (sym done) is)

  -- the end that hears is in its disarming store then
  disarms : Stands e d z r w v → (s : IsDriverStep port d p q v r.shadow b act.Moved) → d.begun b ≡ DriverOp.hear
      → (d.side.after v s.op s.access s.got).doing ≡ now.Idle → ⊥
  disarms h s is idle =
      let heard = shadow_heard (d.begun r.shadow) (d.begun b) s.says.0 is in
      let of : s.op ≡ op.Hear = subst (λ o. IsDriverOp o s.op) heard s.of_it in
      let at = at_shadow_hear r.stage (subst (λ o. ShadowIs r.stage o) heard h.shadow) in
      let armed : ShadowHears DriverOp.hear v.doing v.armed = subst (λ o. ShadowHears o v.doing v.armed) heard
      (subst (λ (x : Stage). ShadowArmed x (d.begun r.shadow) v.doing v.armed) at h.shadow_armed) in
      elim armed [
        | inl x ↦ cc (idle, (goes_of s).heard of x.0)
        | inr x ↦ (goes_of s).busy (x ∙ ap now.Disarming (sym of))
      ]

  goes_to : r.stage ≡ stage.HearingShadow → Stands e d z r w v → IsDriverStep port d p q v r.shadow b act.Moved
      → d.begun b ≡ DriverOp.idle → ⊥
  goes_to at h s idle = shadow_goes_on (d.begun r.shadow) (d.begun b) s.op
      (subst (λ (x : Stage). ShadowIs x (d.begun r.shadow)) at h.shadow) s.of_it s.says.0 idle

  pub went_on : is_shadow r.stage ≡ true → Stands e d z r w v → IsDriverStep port d p q v r.shadow b act.Moved
      → ShadowTurn port e d z p q r (with_shadow r b) w v Worked
  went_on side h s =
      let v' : DriverView = d.side.after v s.op s.access s.got in
      let done : v'.done ≡ v.done = s.says.1 in
      let g = went r.winding h.hand s.op v v' w.shown (d.left r.shadow) (d.left b) r.stage (d.begun r.shadow) (d.begun b)
      h.shadow s.of_it h.shadow_armed h.offers h.shadow_shown s.says.0 s.left (goes_of s) in
      made_at port e d law ldr z p q r w v b act.Moved s r.stage (with_shadow r b) Worked (record {
        serves = h.serves;
        drives = s.now_stands;
        paired = framed_at port e d law ldr z p q r w v b act.Moved s h.paired;
        rests = h.rests;
        acts = h.acts;
        before = h.before;
        hand = h.hand;
        back = h.back;
        tied = tied_after port e d law ldr z p q r w v b act.Moved s r.table h.hand h.back h.acts v.done done h.tied;
        guest = h.guest;
        shadow = g.is;
        takes = h.takes;
        offers = g.offers;
        in_hand = h.in_hand;
        offer = offer_after act.Moved s r.stage done h.offer;
        to_give = h.to_give;
        ends = subst (λ (o : List DriverDone). EndsIs r.stage r.winding r.target h.acts o) (sym done) h.ends;
        guest_armed = h.guest_armed;
        shadow_armed = g.armed;
        guest_shown = h.guest_shown;
        shadow_shown = g.shown;
      }) refl (not_woken s.op act.Moved (λ y. cc y)) (worked_only act.Moved (λ y. cc y))
      (once port e d law ldr z p q r w v b act.Moved Worked (λ y. cc y) (λ y. cc y))
      (shadow_live r.stage side)
      (omega (
        arith,
        g.paid,
        owes_here port e d law ldr z p q r w v b r v side,
        owes_here port e d law ldr z p q r w v b (with_shadow r b) v' side,
      )) refl (λ y is idle. disarms h s is idle) (λ y. absurd (cc y))
      (λ n on at guest shadow. goes_to (shadow_stage r.stage at side) h s shadow)
