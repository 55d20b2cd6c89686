-- An access in the middle of the guest's end's operation.
use Rattle.std.proofs.Common.{◌≡◌, Bool, true, false, List, refl, sym, ◌∙◌, ap, subst, arith, inl, inr}
use Rattle.vd_words.specs.declared.access.Op.TheVariants as op
use Rattle.vd_words.specs.Model.{PortModel}
use Rattle.vd_ring.specs.declared.act.DeviceAct.TheVariants as act
use Rattle.vd_ring.specs.declared.driver.DriverView.{DriverView}
use Rattle.vd_ring.specs.declared.device.DeviceDone.{DeviceDone}
use Rattle.vd_ring.specs.declared.device.DeviceNow.TheVariants as now
use Rattle.vd_ring.specs.declared.device.DeviceView.{DeviceView}
use Rattle.vd_ring.specs.Looks.{DeviceGoes, DeviceWakes}
use Rattle.vd_layout.specs.Begun.{DeviceOp, IsDeviceOp}
use Rattle.vd_layout.specs.Driver.{DriverModel, IsLawfulDriver}
use Rattle.vd_layout.specs.Device.{DeviceModel, IsLawfulDevice, IsDeviceStep}
use Rattle.vd_relay.specs.declared.counts.Turn.TheVariants.{Worked}
use Rattle.vd_relay.specs.declared.stage.Stage.{Stage}
use Rattle.vd_relay.specs.declared.stage.Stage.TheVariants as stage
use Rattle.vd_relay.specs.declared.state.State.{State}
use Rattle.vd_relay.specs.Stages.{is_rested, is_shadow, BeforeRest, GuestIs, GuestArmed, GuestHears}
use Rattle.vd_relay.specs.Tie.{Course}
use Rattle.vd_relay.specs.Relay.{Stands, GuestTurn}
use Rattle.vd_relay.proofs.GuestGoing.{Goes, went}
use Rattle.vd_relay.proofs.Turns.{worked_only}
use Rattle.vd_relay.proofs.Ops.{at_guest_hear}
use Rattle.vd_relay.proofs.Hearings.{guest_stage, guest_heard, guest_goes_on}
use Rattle.vd_relay.proofs.GuestTurns.{bag_same, framed_at, made_at, not_woken, owes_here, with_guest}

module _ {P E D : Type 0} (port : PortModel P) (e : DeviceModel E) (d : DriverModel D) (law : IsLawfulDevice e) (ldr : IsLawfulDriver d)
    (z : Course) (p q : P) (r : State E D) (w : DeviceView) (v : DriverView) (b : E) where
  goes_of : (s : IsDeviceStep port e p q w r.guest b act.Moved) → Goes s.op w (e.side.after w s.op s.access s.got)
  goes_of s =
      let is = s.is_answer in
      let looks = law.looks in
      record {
        unarmed = λ other none. law.stays_unarmed w s.op s.access s.got other none;
        shown = λ h. law.stays.shown w s.op s.access s.got s.was_next (subst (λ y. DeviceGoes y) is tt) h;
        disarms = λ arm dis. elim ((looks.disarming w s.op s.access s.got s.was_next).0 (dis ∙ ap now.Disarming (sym arm))).0 [
          | inl x ↦ inr (x.0, x.1)
          | inr x ↦ absurd (cc (arm, x.0))
        ];
        arms = λ arm idle. law.stays.arms w s.op s.access s.got s.was_next arm idle;
        woke = λ arm again. woken_by (e.shows w s.got) refl arm again;
        heard = λ hears idle.
            let wakes : DeviceWakes e.shows w s.got s.op = inr (
              hears,
              idle,
              λ y. cc
                  (is, (looks.asleep w s.op s.access s.got s.was_next).1 (hears, idle, y)),
            ) in
            disarmed_by w.frame.features.event_idx refl wakes ∙ ap now.Disarming hears;
        busy = λ dis. cc (is, (looks.awake w s.op s.access s.got s.was_next).1 (inr (inl dis)));
        other = λ dis. cc (is, (looks.awake w s.op s.access s.got s.was_next).1 (inr (inr dis)));
      }
    where
      disarmed_by : (x : Bool) → w.frame.features.event_idx ≡ x → DeviceWakes e.shows w s.got s.op
          → (e.side.after w s.op s.access s.got).doing ≡ now.Disarming s.op
      disarmed_by true x wakes = absurd (cc (s.is_answer, (law.looks.awake w s.op s.access s.got s.was_next).1 (inl (wakes, x))))
      disarmed_by false x wakes = (law.looks.disarming w s.op s.access s.got s.was_next).1 (wakes, x)

      woken_by : (x : Bool) → e.shows w s.got ≡ x → s.op ≡ op.Arm → w.doing ≡ now.Arming
          → (e.side.after w s.op s.access s.got).doing ≡ now.Disarming op.Arm
      woken_by true x arm again = disarmed_by w.frame.features.event_idx refl (inl (arm, again, x)) ∙ ap now.Disarming arm
      woken_by false x arm again = absurd (cc (s.is_answer, (law.looks.armed w s.op s.access s.got s.was_next).1 (arm, again, x)))

  -- the end that hears is in its disarming store then
  disarms : Stands e d z r w v → (s : IsDeviceStep port e p q w r.guest b act.Moved) → e.begun b ≡ DeviceOp.hear
      → (e.side.after w s.op s.access s.got).doing ≡ now.Idle → ⊥
  disarms h s is idle =
      let heard = guest_heard (e.begun r.guest) (e.begun b) s.says.0 is in
      let of : s.op ≡ op.Hear = subst (λ o. IsDeviceOp o s.op) heard s.of_it in
      let at = at_guest_hear r.stage (subst (λ o. GuestIs r.stage o) heard h.guest) in
      let armed : GuestHears DeviceOp.hear w.doing w.armed = subst (λ o. GuestHears o w.doing w.armed) heard
      (subst (λ (x : Stage). GuestArmed x (e.begun r.guest) w.doing w.armed) at h.guest_armed) in
      elim armed [
        | inl x ↦ cc (idle, (goes_of s).heard of x.0)
        | inr x ↦ (goes_of s).busy (x ∙ ap now.Disarming (sym of))
      ]

  goes_to : r.stage ≡ stage.HearingGuest → Stands e d z r w v → IsDeviceStep port e p q w r.guest b act.Moved
      → e.begun b ≡ DeviceOp.idle → ⊥
  goes_to at h s idle = guest_goes_on (e.begun r.guest) (e.begun b) s.op (subst (λ (x : Stage). GuestIs x (e.begun r.guest)) at h.guest)
      s.of_it s.says.0 idle

  pub went_on : is_rested r.stage ≡ false → is_shadow r.stage ≡ false → Stands e d z r w v → IsDeviceStep port e p q w r.guest b act.Moved
      → GuestTurn port e d z p q r (with_guest r b) w v Worked
  went_on live side h s =
      let w' : DeviceView = e.side.after w s.op s.access s.got in
      let done : w'.done ≡ w.done = s.says.1 in
      let g = went r.winding h.hand h.back s.op w w' v.shown (e.left r.guest) (e.left b) r.stage (e.begun r.guest) (e.begun b)
      h.guest s.of_it h.guest_armed h.takes h.to_give h.guest_shown s.says.0 s.left (goes_of s) in
      made_at port e d law ldr z p q r w v b act.Moved s r.stage (with_guest r b) Worked (record {
        serves = s.now_stands;
        drives = h.drives;
        paired = framed_at port e d law ldr z p q r w v b act.Moved s h.paired;
        rests = s.rests ∙ sym live;
        acts = h.acts;
        before = subst (λ (x : List DeviceDone). BeforeRest r.stage h.acts x) (sym done) h.before;
        hand = h.hand;
        back = h.back;
        tied = h.tied;
        guest = g.is;
        shadow = h.shadow;
        takes = g.takes;
        offers = h.offers;
        in_hand = h.in_hand;
        offer = h.offer;
        to_give = g.gives;
        ends = h.ends;
        guest_armed = g.armed;
        shadow_armed = h.shadow_armed;
        guest_shown = g.shown;
        shadow_shown = h.shadow_shown;
      }) (bag_same port e d law ldr z p q r w v b act.Moved s done) refl (not_woken s.op act.Moved (λ y. cc y))
      (worked_only act.Moved (λ y. cc y)) (λ y. cc y)
      (λ y. absurd (cc y))
      (omega (
        arith,
        g.paid,
        owes_here port e d law ldr z p q r w v b r w side,
        owes_here port e d law ldr z p q r w v b (with_guest r b) w' side,
      )) refl (λ y is idle. disarms h s is idle) (λ y. absurd (cc y))
      (λ n on at guest shadow. goes_to (guest_stage r.stage at side) h s guest)
