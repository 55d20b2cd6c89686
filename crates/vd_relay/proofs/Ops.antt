-- Which stage goes with which operation.
use Rattle.std.proofs.Common.{◌≡◌, ℕ, Bool, true, false, refl}
use Rattle.std.specs.Prelude.{List}
use Rattle.vd_model.specs.declared.chain.Piece.{Piece}
use Rattle.vd_layout.specs.Begun.{DriverOp, DeviceOp}
use Rattle.vd_relay.specs.declared.stage.Stage.{Stage}
use Rattle.vd_relay.specs.declared.stage.Stage.TheVariants as stage
use Rattle.vd_relay.specs.Stages.{GuestIs, ShadowIs, is_shadow}

pub at_take : (st : Stage) → GuestIs st DeviceOp.take → st ≡ stage.Taking
at_take stage.Taking h = refl
at_take (stage.Offering n k) h = absurd h
at_take (stage.Collecting n) h = absurd h
at_take stage.Giving h = absurd h
at_take stage.ArmingGuest h = absurd h
at_take stage.ArmingShadow h = absurd h
at_take stage.HearingGuest h = absurd h
at_take stage.HearingShadow h = absurd h
at_take stage.DisarmingGuest h = absurd h
at_take stage.DisarmingShadow h = absurd h
at_take stage.Resting h = absurd h
at_take stage.Rested h = absurd h

pub at_guest_signal : (st : Stage) → GuestIs st DeviceOp.signal → st ≡ stage.Taking
at_guest_signal stage.Taking h = refl
at_guest_signal (stage.Offering n k) h = absurd h
at_guest_signal (stage.Collecting n) h = absurd h
at_guest_signal stage.Giving h = absurd h
at_guest_signal stage.ArmingGuest h = absurd h
at_guest_signal stage.ArmingShadow h = absurd h
at_guest_signal stage.HearingGuest h = absurd h
at_guest_signal stage.HearingShadow h = absurd h
at_guest_signal stage.DisarmingGuest h = absurd h
at_guest_signal stage.DisarmingShadow h = absurd h
at_guest_signal stage.Resting h = absurd h
at_guest_signal stage.Rested h = absurd h

pub at_give : (j l : ℕ) (st : Stage) → GuestIs st (DeviceOp.give j l) → st ≡ stage.Giving
at_give j l stage.Taking h = absurd h
at_give j l (stage.Offering n k) h = absurd h
at_give j l (stage.Collecting n) h = absurd h
at_give j l stage.Giving h = refl
at_give j l stage.ArmingGuest h = absurd h
at_give j l stage.ArmingShadow h = absurd h
at_give j l stage.HearingGuest h = absurd h
at_give j l stage.HearingShadow h = absurd h
at_give j l stage.DisarmingGuest h = absurd h
at_give j l stage.DisarmingShadow h = absurd h
at_give j l stage.Resting h = absurd h
at_give j l stage.Rested h = absurd h

pub at_guest_arm : (st : Stage) → GuestIs st DeviceOp.arm → st ≡ stage.ArmingGuest
at_guest_arm stage.Taking h = absurd h
at_guest_arm (stage.Offering n k) h = absurd h
at_guest_arm (stage.Collecting n) h = absurd h
at_guest_arm stage.Giving h = absurd h
at_guest_arm stage.ArmingGuest h = refl
at_guest_arm stage.ArmingShadow h = absurd h
at_guest_arm stage.HearingGuest h = absurd h
at_guest_arm stage.HearingShadow h = absurd h
at_guest_arm stage.DisarmingGuest h = absurd h
at_guest_arm stage.DisarmingShadow h = absurd h
at_guest_arm stage.Resting h = absurd h
at_guest_arm stage.Rested h = absurd h

pub at_guest_hear : (st : Stage) → GuestIs st DeviceOp.hear → st ≡ stage.HearingGuest
at_guest_hear stage.Taking h = absurd h
at_guest_hear (stage.Offering n k) h = absurd h
at_guest_hear (stage.Collecting n) h = absurd h
at_guest_hear stage.Giving h = absurd h
at_guest_hear stage.ArmingGuest h = absurd h
at_guest_hear stage.ArmingShadow h = absurd h
at_guest_hear stage.HearingGuest h = refl
at_guest_hear stage.HearingShadow h = absurd h
at_guest_hear stage.DisarmingGuest h = absurd h
at_guest_hear stage.DisarmingShadow h = absurd h
at_guest_hear stage.Resting h = absurd h
at_guest_hear stage.Rested h = absurd h

pub at_guest_disarm : (st : Stage) → GuestIs st DeviceOp.disarm → st ≡ stage.DisarmingGuest
at_guest_disarm stage.Taking h = absurd h
at_guest_disarm (stage.Offering n k) h = absurd h
at_guest_disarm (stage.Collecting n) h = absurd h
at_guest_disarm stage.Giving h = absurd h
at_guest_disarm stage.ArmingGuest h = absurd h
at_guest_disarm stage.ArmingShadow h = absurd h
at_guest_disarm stage.HearingGuest h = absurd h
at_guest_disarm stage.HearingShadow h = absurd h
at_guest_disarm stage.DisarmingGuest h = refl
at_guest_disarm stage.DisarmingShadow h = absurd h
at_guest_disarm stage.Resting h = absurd h
at_guest_disarm stage.Rested h = absurd h

pub at_rest : (st : Stage) → GuestIs st DeviceOp.rest → st ≡ stage.Resting
at_rest stage.Taking h = absurd h
at_rest (stage.Offering n k) h = absurd h
at_rest (stage.Collecting n) h = absurd h
at_rest stage.Giving h = absurd h
at_rest stage.ArmingGuest h = absurd h
at_rest stage.ArmingShadow h = absurd h
at_rest stage.HearingGuest h = absurd h
at_rest stage.HearingShadow h = absurd h
at_rest stage.DisarmingGuest h = absurd h
at_rest stage.DisarmingShadow h = absurd h
at_rest stage.Resting h = refl
at_rest stage.Rested h = absurd h

-- the number and the head that it offers
pub record OffersAt (st : Stage) : Type 0 where
  pub number : ℕ
  pub head : ℕ
  pub is : st ≡ stage.Offering number head

-- whether the take before it showed nothing
pub record CollectsAt (st : Stage) : Type 0 where
  pub none : Bool
  pub is : st ≡ stage.Collecting none

pub at_offer : (c : List Piece) (st : Stage) → ShadowIs st (DriverOp.offer c) → OffersAt st
at_offer c stage.Taking h = absurd h
at_offer c (stage.Offering n k) h = record { number = n; head = k; is = refl }
at_offer c (stage.Collecting n) h = absurd h
at_offer c stage.Giving h = absurd h
at_offer c stage.ArmingGuest h = absurd h
at_offer c stage.ArmingShadow h = absurd h
at_offer c stage.HearingGuest h = absurd h
at_offer c stage.HearingShadow h = absurd h
at_offer c stage.DisarmingGuest h = absurd h
at_offer c stage.DisarmingShadow h = absurd h
at_offer c stage.Resting h = absurd h
at_offer c stage.Rested h = absurd h

pub at_collect : (st : Stage) → ShadowIs st DriverOp.collect → CollectsAt st
at_collect stage.Taking h = absurd h
at_collect (stage.Offering n k) h = absurd h
at_collect (stage.Collecting n) h = record { none = n; is = refl }
at_collect stage.Giving h = absurd h
at_collect stage.ArmingGuest h = absurd h
at_collect stage.ArmingShadow h = absurd h
at_collect stage.HearingGuest h = absurd h
at_collect stage.HearingShadow h = absurd h
at_collect stage.DisarmingGuest h = absurd h
at_collect stage.DisarmingShadow h = absurd h
at_collect stage.Resting h = absurd h
at_collect stage.Rested h = absurd h

pub at_shadow_signal : (st : Stage) → ShadowIs st DriverOp.signal → CollectsAt st
at_shadow_signal stage.Taking h = absurd h
at_shadow_signal (stage.Offering n k) h = absurd h
at_shadow_signal (stage.Collecting n) h = record { none = n; is = refl }
at_shadow_signal stage.Giving h = absurd h
at_shadow_signal stage.ArmingGuest h = absurd h
at_shadow_signal stage.ArmingShadow h = absurd h
at_shadow_signal stage.HearingGuest h = absurd h
at_shadow_signal stage.HearingShadow h = absurd h
at_shadow_signal stage.DisarmingGuest h = absurd h
at_shadow_signal stage.DisarmingShadow h = absurd h
at_shadow_signal stage.Resting h = absurd h
at_shadow_signal stage.Rested h = absurd h

pub at_shadow_arm : (st : Stage) → ShadowIs st DriverOp.arm → st ≡ stage.ArmingShadow
at_shadow_arm stage.Taking h = absurd h
at_shadow_arm (stage.Offering n k) h = absurd h
at_shadow_arm (stage.Collecting n) h = absurd h
at_shadow_arm stage.Giving h = absurd h
at_shadow_arm stage.ArmingGuest h = absurd h
at_shadow_arm stage.ArmingShadow h = refl
at_shadow_arm stage.HearingGuest h = absurd h
at_shadow_arm stage.HearingShadow h = absurd h
at_shadow_arm stage.DisarmingGuest h = absurd h
at_shadow_arm stage.DisarmingShadow h = absurd h
at_shadow_arm stage.Resting h = absurd h
at_shadow_arm stage.Rested h = absurd h

pub at_shadow_hear : (st : Stage) → ShadowIs st DriverOp.hear → st ≡ stage.HearingShadow
at_shadow_hear stage.Taking h = absurd h
at_shadow_hear (stage.Offering n k) h = absurd h
at_shadow_hear (stage.Collecting n) h = absurd h
at_shadow_hear stage.Giving h = absurd h
at_shadow_hear stage.ArmingGuest h = absurd h
at_shadow_hear stage.ArmingShadow h = absurd h
at_shadow_hear stage.HearingGuest h = absurd h
at_shadow_hear stage.HearingShadow h = refl
at_shadow_hear stage.DisarmingGuest h = absurd h
at_shadow_hear stage.DisarmingShadow h = absurd h
at_shadow_hear stage.Resting h = absurd h
at_shadow_hear stage.Rested h = absurd h

pub at_shadow_disarm : (st : Stage) → ShadowIs st DriverOp.disarm → st ≡ stage.DisarmingShadow
at_shadow_disarm stage.Taking h = absurd h
at_shadow_disarm (stage.Offering n k) h = absurd h
at_shadow_disarm (stage.Collecting n) h = absurd h
at_shadow_disarm stage.Giving h = absurd h
at_shadow_disarm stage.ArmingGuest h = absurd h
at_shadow_disarm stage.ArmingShadow h = absurd h
at_shadow_disarm stage.HearingGuest h = absurd h
at_shadow_disarm stage.HearingShadow h = absurd h
at_shadow_disarm stage.DisarmingGuest h = absurd h
at_shadow_disarm stage.DisarmingShadow h = refl
at_shadow_disarm stage.Resting h = absurd h
at_shadow_disarm stage.Rested h = absurd h

-- at a stage of the guest's ring the shadow end is idle, and the other way round
pub shadow_idle : (st : Stage) (o : DriverOp) → is_shadow st ≡ false → ShadowIs st o → o ≡ DriverOp.idle
shadow_idle stage.Taking DriverOp.idle side h = refl
shadow_idle stage.Taking (DriverOp.offer c) side h = absurd h
shadow_idle stage.Taking DriverOp.collect side h = absurd h
shadow_idle stage.Taking DriverOp.arm side h = absurd h
shadow_idle stage.Taking DriverOp.hear side h = absurd h
shadow_idle stage.Taking DriverOp.disarm side h = absurd h
shadow_idle stage.Taking DriverOp.signal side h = absurd h
shadow_idle (stage.Offering n k) o side h = absurd (cc)
shadow_idle (stage.Collecting n) o side h = absurd (cc)
shadow_idle stage.Giving DriverOp.idle side h = refl
shadow_idle stage.Giving (DriverOp.offer c) side h = absurd h
shadow_idle stage.Giving DriverOp.collect side h = absurd h
shadow_idle stage.Giving DriverOp.arm side h = absurd h
shadow_idle stage.Giving DriverOp.hear side h = absurd h
shadow_idle stage.Giving DriverOp.disarm side h = absurd h
shadow_idle stage.Giving DriverOp.signal side h = absurd h
shadow_idle stage.ArmingGuest DriverOp.idle side h = refl
shadow_idle stage.ArmingGuest (DriverOp.offer c) side h = absurd h
shadow_idle stage.ArmingGuest DriverOp.collect side h = absurd h
shadow_idle stage.ArmingGuest DriverOp.arm side h = absurd h
shadow_idle stage.ArmingGuest DriverOp.hear side h = absurd h
shadow_idle stage.ArmingGuest DriverOp.disarm side h = absurd h
shadow_idle stage.ArmingGuest DriverOp.signal side h = absurd h
shadow_idle stage.ArmingShadow o side h = absurd (cc)
shadow_idle stage.HearingGuest DriverOp.idle side h = refl
shadow_idle stage.HearingGuest (DriverOp.offer c) side h = absurd h
shadow_idle stage.HearingGuest DriverOp.collect side h = absurd h
shadow_idle stage.HearingGuest DriverOp.arm side h = absurd h
shadow_idle stage.HearingGuest DriverOp.hear side h = absurd h
shadow_idle stage.HearingGuest DriverOp.disarm side h = absurd h
shadow_idle stage.HearingGuest DriverOp.signal side h = absurd h
shadow_idle stage.HearingShadow o side h = absurd (cc)
shadow_idle stage.DisarmingGuest DriverOp.idle side h = refl
shadow_idle stage.DisarmingGuest (DriverOp.offer c) side h = absurd h
shadow_idle stage.DisarmingGuest DriverOp.collect side h = absurd h
shadow_idle stage.DisarmingGuest DriverOp.arm side h = absurd h
shadow_idle stage.DisarmingGuest DriverOp.hear side h = absurd h
shadow_idle stage.DisarmingGuest DriverOp.disarm side h = absurd h
shadow_idle stage.DisarmingGuest DriverOp.signal side h = absurd h
shadow_idle stage.DisarmingShadow o side h = absurd (cc)
shadow_idle stage.Resting DriverOp.idle side h = refl
shadow_idle stage.Resting (DriverOp.offer c) side h = absurd h
shadow_idle stage.Resting DriverOp.collect side h = absurd h
shadow_idle stage.Resting DriverOp.arm side h = absurd h
shadow_idle stage.Resting DriverOp.hear side h = absurd h
shadow_idle stage.Resting DriverOp.disarm side h = absurd h
shadow_idle stage.Resting DriverOp.signal side h = absurd h
shadow_idle stage.Rested DriverOp.idle side h = refl
shadow_idle stage.Rested (DriverOp.offer c) side h = absurd h
shadow_idle stage.Rested DriverOp.collect side h = absurd h
shadow_idle stage.Rested DriverOp.arm side h = absurd h
shadow_idle stage.Rested DriverOp.hear side h = absurd h
shadow_idle stage.Rested DriverOp.disarm side h = absurd h
shadow_idle stage.Rested DriverOp.signal side h = absurd h

pub guest_idle : (st : Stage) (o : DeviceOp) → is_shadow st ≡ true → GuestIs st o → o ≡ DeviceOp.idle
guest_idle stage.Taking o side h = absurd (cc)
guest_idle (stage.Offering n k) DeviceOp.idle side h = refl
guest_idle (stage.Offering n k) DeviceOp.take side h = absurd h
guest_idle (stage.Offering n k) (DeviceOp.give j l) side h = absurd h
guest_idle (stage.Offering n k) DeviceOp.rest side h = absurd h
guest_idle (stage.Offering n k) DeviceOp.arm side h = absurd h
guest_idle (stage.Offering n k) DeviceOp.hear side h = absurd h
guest_idle (stage.Offering n k) DeviceOp.disarm side h = absurd h
guest_idle (stage.Offering n k) DeviceOp.signal side h = absurd h
guest_idle (stage.Collecting n) DeviceOp.idle side h = refl
guest_idle (stage.Collecting n) DeviceOp.take side h = absurd h
guest_idle (stage.Collecting n) (DeviceOp.give j l) side h = absurd h
guest_idle (stage.Collecting n) DeviceOp.rest side h = absurd h
guest_idle (stage.Collecting n) DeviceOp.arm side h = absurd h
guest_idle (stage.Collecting n) DeviceOp.hear side h = absurd h
guest_idle (stage.Collecting n) DeviceOp.disarm side h = absurd h
guest_idle (stage.Collecting n) DeviceOp.signal side h = absurd h
guest_idle stage.Giving o side h = absurd (cc)
guest_idle stage.ArmingGuest o side h = absurd (cc)
guest_idle stage.ArmingShadow DeviceOp.idle side h = refl
guest_idle stage.ArmingShadow DeviceOp.take side h = absurd h
guest_idle stage.ArmingShadow (DeviceOp.give j l) side h = absurd h
guest_idle stage.ArmingShadow DeviceOp.rest side h = absurd h
guest_idle stage.ArmingShadow DeviceOp.arm side h = absurd h
guest_idle stage.ArmingShadow DeviceOp.hear side h = absurd h
guest_idle stage.ArmingShadow DeviceOp.disarm side h = absurd h
guest_idle stage.ArmingShadow DeviceOp.signal side h = absurd h
guest_idle stage.HearingGuest o side h = absurd (cc)
guest_idle stage.HearingShadow DeviceOp.idle side h = refl
guest_idle stage.HearingShadow DeviceOp.take side h = absurd h
guest_idle stage.HearingShadow (DeviceOp.give j l) side h = absurd h
guest_idle stage.HearingShadow DeviceOp.rest side h = absurd h
guest_idle stage.HearingShadow DeviceOp.arm side h = absurd h
guest_idle stage.HearingShadow DeviceOp.hear side h = absurd h
guest_idle stage.HearingShadow DeviceOp.disarm side h = absurd h
guest_idle stage.HearingShadow DeviceOp.signal side h = absurd h
guest_idle stage.DisarmingGuest o side h = absurd (cc)
guest_idle stage.DisarmingShadow DeviceOp.idle side h = refl
guest_idle stage.DisarmingShadow DeviceOp.take side h = absurd h
guest_idle stage.DisarmingShadow (DeviceOp.give j l) side h = absurd h
guest_idle stage.DisarmingShadow DeviceOp.rest side h = absurd h
guest_idle stage.DisarmingShadow DeviceOp.arm side h = absurd h
guest_idle stage.DisarmingShadow DeviceOp.hear side h = absurd h
guest_idle stage.DisarmingShadow DeviceOp.disarm side h = absurd h
guest_idle stage.DisarmingShadow DeviceOp.signal side h = absurd h
guest_idle stage.Resting o side h = absurd (cc)
guest_idle stage.Rested o side h = absurd (cc)

pub guest_rested : (o : DeviceOp) → GuestIs stage.Rested o → o ≡ DeviceOp.idle
guest_rested DeviceOp.idle h = refl
guest_rested DeviceOp.take h = absurd h
guest_rested (DeviceOp.give j l) h = absurd h
guest_rested DeviceOp.rest h = absurd h
guest_rested DeviceOp.arm h = absurd h
guest_rested DeviceOp.hear h = absurd h
guest_rested DeviceOp.disarm h = absurd h
guest_rested DeviceOp.signal h = absurd h
