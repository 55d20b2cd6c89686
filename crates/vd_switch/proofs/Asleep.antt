-- A relay that hears has offered all that it took and given all that it collected, and both its ends are armed.
use Rattle.std.proofs.Common.{◌≡◌, ℕ, true, false, Option, List, [], length, ap, subst, arith}
use Rattle.vd_model.specs.declared.chain.Piece.{Piece}
use Rattle.vd_ring.specs.declared.driver.DriverNow.{DriverNow}
use Rattle.vd_ring.specs.declared.driver.DriverView.{DriverView}
use Rattle.vd_ring.specs.declared.device.DeviceDone.{DeviceDone}
use Rattle.vd_ring.specs.declared.device.DeviceNow.{DeviceNow}
use Rattle.vd_ring.specs.declared.device.DeviceView.{DeviceView}
use Rattle.vd_ring.specs.declared.frame.Used.{Used}
use Rattle.vd_ring.specs.History.{takes, gives}
use Rattle.vd_layout.specs.Begun.{DriverOp, DeviceOp}
use Rattle.vd_layout.specs.Driver.{DriverModel, IsLawfulDriver}
use Rattle.vd_layout.specs.Device.{DeviceModel, IsLawfulDevice}
use Rattle.vd_relay.specs.declared.stage.Stage.{Stage}
use Rattle.vd_relay.specs.declared.stage.Stage.TheVariants as stage
use Rattle.vd_relay.specs.declared.state.State.{State}
use Rattle.vd_relay.specs.Relay.{Stands}
use Rattle.vd_relay.specs.Stages.{IsSome, is_hearing, BeforeRest, InHand, BackIs, GuestArmed, ShadowArmed}
use Rattle.vd_relay.specs.Tie.{Course}
use Rattle.vd_relay.proofs.Ties.{taken_count, given_count}
use Rattle.vd_switch.specs.Sleeping.{SleepsOn}

-- what a hearing goes with, where no operation is in progress
record Hears (st : Stage) (hand : List (List Piece)) (acts done : List DeviceDone) (d : DeviceNow) (armed : Option ℕ)
    (c : DriverNow) (shadow_armed : Option ℕ) : Type 0 where
  none : hand ≡ []
  same : done ≡ acts
  guest : IsSome armed
  shadow : IsSome shadow_armed

hears : (st : Stage) (hand : List (List Piece)) (acts done : List DeviceDone) (d : DeviceNow) (armed : Option ℕ)
    (c : DriverNow) (shadow_armed : Option ℕ) → is_hearing st ≡ true → InHand st false hand → BeforeRest st acts done
    → GuestArmed st DeviceOp.idle d armed → ShadowArmed st DriverOp.idle c shadow_armed
    → Hears st hand acts done d armed c shadow_armed
hears stage.HearingGuest hand acts done d armed c shadow_armed is none same guest shadow = record {
  none = none;
  same = same;
  guest = guest;
  shadow = shadow;
}
hears stage.HearingShadow hand acts done d armed c shadow_armed is none same guest shadow = record {
  none = none;
  same = same;
  guest = guest;
  shadow = shadow;
}
hears stage.Taking hand acts done d armed c shadow_armed is none same guest shadow = absurd (cc is)
hears (stage.Offering k p) hand acts done d armed c shadow_armed is none same guest shadow = absurd (cc is)
hears (stage.Collecting n) hand acts done d armed c shadow_armed is none same guest shadow = absurd (cc is)
hears stage.Giving hand acts done d armed c shadow_armed is none same guest shadow = absurd (cc is)
hears stage.ArmingGuest hand acts done d armed c shadow_armed is none same guest shadow = absurd (cc is)
hears stage.ArmingShadow hand acts done d armed c shadow_armed is none same guest shadow = absurd (cc is)
hears stage.DisarmingGuest hand acts done d armed c shadow_armed is none same guest shadow = absurd (cc is)
hears stage.DisarmingShadow hand acts done d armed c shadow_armed is none same guest shadow = absurd (cc is)
hears stage.Resting hand acts done d armed c shadow_armed is none same guest shadow = absurd (cc is)
hears stage.Rested hand acts done d armed c shadow_armed is none same guest shadow = absurd (cc is)

module _ {E D : Type 0} (e : DeviceModel E) (d : DriverModel D) (law : IsLawfulDevice e) (ldr : IsLawfulDriver d) (z : Course)
    (r : State E D) (w : DeviceView) (v : DriverView) (h : Stands e d z r w v) where
  pub sleeps : r.winding ≡ false → is_hearing r.stage ≡ true → e.begun r.guest ≡ DeviceOp.idle
      → d.begun r.shadow ≡ DriverOp.idle → SleepsOn z w v
  sleeps live hearing guest_idle shadow_idle =
      let back : h.back ≡ [] = subst (λ (a : DeviceOp). BackIs a h.back) guest_idle h.to_give in
      let heard = hears r.stage h.hand h.acts w.done w.doing w.armed v.doing v.armed hearing
      (subst (λ b. InHand r.stage b h.hand) live h.in_hand) h.before
      (subst (λ (a : DeviceOp). GuestArmed r.stage a w.doing w.armed) guest_idle h.guest_armed)
      (subst (λ (a : DriverOp). ShadowArmed r.stage a v.doing v.armed) shadow_idle h.shadow_armed) in record {
        guest_idle = law.at_rest r.guest w h.serves guest_idle;
        shadow_idle = ldr.at_rest r.shadow v h.drives shadow_idle;
        guest_armed = heard.guest;
        shadow_armed = heard.shadow;
        offered = omega (
          arith,
          taken_count z r.table h.acts v.frame v.done h.hand h.back h.tied,
          ap (λ (s : List DeviceDone). length (takes s)) heard.same,
          ap (λ (cs : List (List Piece)). length cs) heard.none,
        );
        given = omega (
          arith,
          given_count z r.table h.acts v.frame v.done h.hand h.back h.tied,
          ap (λ (s : List DeviceDone). length (gives s)) heard.same,
          ap (λ (us : List Used). length us) back,
        );
      }
