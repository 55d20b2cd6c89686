-- Where an operation of the shadow end has ended with nothing done, the relay is between two operations.
use Rattle.std.proofs.Common.{◌≡◌, true, false, List, [], refl, ◌∙◌, subst}
use Rattle.vd_words.specs.Model.{PortModel}
use Rattle.vd_ring.specs.declared.act.DriverAct.{DriverAct}
use Rattle.vd_ring.specs.declared.frame.Used.{Used}
use Rattle.vd_ring.specs.declared.driver.DriverView.{DriverView}
use Rattle.vd_ring.specs.declared.device.DeviceDone.{DeviceDone}
use Rattle.vd_ring.specs.declared.device.DeviceView.{DeviceView}
use Rattle.vd_layout.specs.Begun.{DriverOp, DeviceOp}
use Rattle.vd_layout.specs.Driver.{DriverModel, IsLawfulDriver, IsDriverStep}
use Rattle.vd_layout.specs.Device.{DeviceModel, IsLawfulDevice}
use Rattle.vd_relay.specs.declared.stage.Stage.{Stage}
use Rattle.vd_relay.specs.declared.stage.Stage.TheVariants as stage
use Rattle.vd_relay.specs.declared.state.State.{State}
use Rattle.vd_relay.specs.Stages.{is_rested, is_shadow, BackIs}
use Rattle.vd_relay.specs.Tie.{Course, IsTied}
use Rattle.vd_relay.specs.Relay.{Stands}
use Rattle.vd_relay.proofs.Calm.{Free, at_stage, hand_at, done_calm, not_offering, is_calm}
use Rattle.vd_relay.proofs.Ops.{guest_idle}
use Rattle.vd_relay.proofs.ShadowTurns.{framed_at, tied_after, with_shadow}

pub shadow_live : (st : Stage) → is_shadow st ≡ true → is_rested st ≡ false
shadow_live stage.Taking s = refl
shadow_live (stage.Offering n h) s = refl
shadow_live (stage.Collecting n) s = refl
shadow_live stage.Giving s = refl
shadow_live stage.ArmingGuest s = refl
shadow_live stage.ArmingShadow s = refl
shadow_live stage.HearingGuest s = refl
shadow_live stage.HearingShadow s = refl
shadow_live stage.DisarmingGuest s = refl
shadow_live stage.DisarmingShadow s = refl
shadow_live stage.Resting s = refl
shadow_live stage.Rested s = absurd (cc)

module _ {P E D : Type 0} (port : PortModel P) (e : DeviceModel E) (d : DriverModel D) (law : IsLawfulDevice e) (ldr : IsLawfulDriver d)
    (z : Course) (p q : P) (r : State E D) (w : DeviceView) (v : DriverView) (b : D) where
  pub guest_free : (st : Stage) → is_shadow st ≡ true → (h : Stands e d z (at_stage r st) w v) → e.begun r.guest ≡ DeviceOp.idle
  guest_free st side h = guest_idle st (e.begun r.guest) side h.guest

  pub none_back : (st : Stage) → is_shadow st ≡ true → (h : Stands e d z (at_stage r st) w v) → h.back ≡ []
  none_back st side h = subst (λ o. BackIs o h.back) (guest_free st side h) h.to_give

  -- where the operation has ended, and nothing was done
  pub freed_at : (answer : DriverAct) (s : IsDriverStep port d p q v r.shadow b answer) (st : Stage) → is_calm st ≡ true
      → is_shadow st ≡ true → (h : Stands e d z (at_stage r st) w v) → (d.side.after v s.op s.access s.got).done ≡ v.done
      → d.begun b ≡ DriverOp.idle → Free e d z (with_shadow r b) w (d.side.after v s.op s.access s.got)
  freed_at answer s st calm side h done idle = record {
    serves = h.serves;
    drives = s.now_stands;
    paired = framed_at port e d law ldr z p q r w v b answer s h.paired;
    awake = h.rests ∙ shadow_live st side;
    hand = h.hand;
    tied = tied_after port e d law ldr z p q r w v b answer s r.table h.hand [] w.done v.done done
        (subst (λ (x : List DeviceDone). IsTied z r.table h.hand [] x v.frame v.done) (done_calm st h.acts w.done calm h.before)
        (subst (λ (us : List Used). IsTied z r.table h.hand us h.acts v.frame v.done) (none_back st side h) h.tied));
    few = hand_at st r.winding h.hand (not_offering st calm) h.in_hand;
    guest_idle = guest_free st side h;
    shadow_idle = idle;
  }
