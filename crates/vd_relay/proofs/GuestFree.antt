-- Where an operation of the guest's end has ended with nothing done, the relay is between two operations.
use Rattle.std.proofs.Common.{◌≡◌, true, false, List, [], sym, ◌∙◌, subst}
use Rattle.vd_words.specs.Model.{PortModel}
use Rattle.vd_ring.specs.declared.act.DeviceAct.{DeviceAct}
use Rattle.vd_ring.specs.declared.frame.Used.{Used}
use Rattle.vd_ring.specs.declared.driver.DriverView.{DriverView}
use Rattle.vd_ring.specs.declared.device.DeviceDone.{DeviceDone}
use Rattle.vd_ring.specs.declared.device.DeviceView.{DeviceView}
use Rattle.vd_layout.specs.Begun.{DriverOp, DeviceOp}
use Rattle.vd_layout.specs.Driver.{DriverModel, IsLawfulDriver}
use Rattle.vd_layout.specs.Device.{DeviceModel, IsLawfulDevice, IsDeviceStep}
use Rattle.vd_relay.specs.declared.stage.Stage.{Stage}
use Rattle.vd_relay.specs.declared.state.State.{State}
use Rattle.vd_relay.specs.Stages.{is_shadow}
use Rattle.vd_relay.specs.Tie.{Course, IsTied}
use Rattle.vd_relay.specs.Relay.{Stands}
use Rattle.vd_relay.proofs.Calm.{Free, at_stage, hand_at, done_calm, not_offering, is_calm}
use Rattle.vd_relay.proofs.Ops.{shadow_idle}
use Rattle.vd_relay.proofs.GuestTurns.{framed_at, with_guest}

module _ {P E D : Type 0} (port : PortModel P) (e : DeviceModel E) (d : DriverModel D) (law : IsLawfulDevice e) (ldr : IsLawfulDriver d)
    (z : Course) (p q : P) (r : State E D) (w : DeviceView) (v : DriverView) (b : E) where
  pub shadow_free : (st : Stage) → is_shadow st ≡ false → (h : Stands e d z (at_stage r st) w v) → d.begun r.shadow ≡ DriverOp.idle
  shadow_free st side h = shadow_idle st (d.begun r.shadow) side h.shadow

  -- where the operation has ended, and nothing was done
  pub freed_at : (answer : DeviceAct) (s : IsDeviceStep port e p q w r.guest b answer) (st : Stage) → is_calm st ≡ true
      → is_shadow st ≡ false → (h : Stands e d z (at_stage r st) w v) → h.back ≡ []
      → (e.side.after w s.op s.access s.got).done ≡ w.done → e.begun b ≡ DeviceOp.idle → e.resting b ≡ false
      → Free e d z (with_guest r b) (e.side.after w s.op s.access s.got) v
  freed_at answer s st calm side h none done idle awake = record {
    serves = s.now_stands;
    drives = h.drives;
    paired = framed_at port e d law ldr z p q r w v b answer s h.paired;
    awake = awake;
    hand = h.hand;
    tied = subst (λ (x : List DeviceDone). IsTied z r.table h.hand [] x v.frame v.done)
        (done_calm st h.acts w.done calm h.before ∙ sym done)
        (subst (λ (us : List Used). IsTied z r.table h.hand us h.acts v.frame v.done) none h.tied);
    few = hand_at st r.winding h.hand (not_offering st calm) h.in_hand;
    guest_idle = idle;
    shadow_idle = shadow_free st side h;
  }
