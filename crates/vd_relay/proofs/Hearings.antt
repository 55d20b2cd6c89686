-- What goes with a hearing: its stage, and the operation before and after an access that ends none.
use Rattle.std.proofs.Common.{◌≡◌, ◌⊎◌, true, false, refl, inl, inr}
use Rattle.vd_words.specs.declared.access.Op.{Op}
use Rattle.vd_layout.specs.Begun.{DriverOp, DeviceOp, DriverGoesOn, DeviceGoesOn, IsDriverOp, IsDeviceOp}
use Rattle.vd_relay.specs.declared.stage.Stage.{Stage}
use Rattle.vd_relay.specs.declared.stage.Stage.TheVariants as stage
use Rattle.vd_relay.specs.Stages.{GuestIs, ShadowIs, is_hearing, is_shadow}

pub guest_stage : (st : Stage) → is_hearing st ≡ true → is_shadow st ≡ false → st ≡ stage.HearingGuest
guest_stage stage.Taking h side = absurd (cc h)
guest_stage (stage.Offering n k) h side = absurd (cc h)
guest_stage (stage.Collecting n) h side = absurd (cc h)
guest_stage stage.Giving h side = absurd (cc h)
guest_stage stage.ArmingGuest h side = absurd (cc h)
guest_stage stage.ArmingShadow h side = absurd (cc h)
guest_stage stage.HearingGuest h side = refl
guest_stage stage.HearingShadow h side = absurd (cc side)
guest_stage stage.DisarmingGuest h side = absurd (cc h)
guest_stage stage.DisarmingShadow h side = absurd (cc h)
guest_stage stage.Resting h side = absurd (cc h)
guest_stage stage.Rested h side = absurd (cc h)

pub shadow_stage : (st : Stage) → is_hearing st ≡ true → is_shadow st ≡ true → st ≡ stage.HearingShadow
shadow_stage stage.Taking h side = absurd (cc h)
shadow_stage (stage.Offering n k) h side = absurd (cc h)
shadow_stage (stage.Collecting n) h side = absurd (cc h)
shadow_stage stage.Giving h side = absurd (cc h)
shadow_stage stage.ArmingGuest h side = absurd (cc h)
shadow_stage stage.ArmingShadow h side = absurd (cc h)
shadow_stage stage.HearingGuest h side = absurd (cc side)
shadow_stage stage.HearingShadow h side = refl
shadow_stage stage.DisarmingGuest h side = absurd (cc h)
shadow_stage stage.DisarmingShadow h side = absurd (cc h)
shadow_stage stage.Resting h side = absurd (cc h)
shadow_stage stage.Rested h side = absurd (cc h)

-- at its stage the end hears, or is about to
pub guest_hears : (o : DeviceOp) → GuestIs stage.HearingGuest o → (o ≡ DeviceOp.idle) ⊎ (o ≡ DeviceOp.hear)
guest_hears DeviceOp.idle h = inl refl
guest_hears DeviceOp.take h = absurd h
guest_hears (DeviceOp.give j l) h = absurd h
guest_hears DeviceOp.rest h = absurd h
guest_hears DeviceOp.arm h = absurd h
guest_hears DeviceOp.hear h = inr refl
guest_hears DeviceOp.disarm h = absurd h
guest_hears DeviceOp.signal h = absurd h

pub guest_heard : (a b : DeviceOp) → DeviceGoesOn a b → b ≡ DeviceOp.hear → a ≡ DeviceOp.hear
guest_heard DeviceOp.idle b on is = absurd (cc (on, is))
guest_heard DeviceOp.take b on is = absurd (cc (on, is))
guest_heard (DeviceOp.give j l) b on is = absurd (cc (on, is))
guest_heard DeviceOp.rest b on is = absurd (cc (on, is))
guest_heard DeviceOp.arm b on is = absurd (cc (on, is))
guest_heard DeviceOp.hear b on is = refl
guest_heard DeviceOp.disarm b on is = absurd (cc (on, is))
guest_heard DeviceOp.signal b on is = absurd (elim on [ inl x ↦ cc (x, is) | inr x ↦ cc (x, is) ])

-- an access that doesn't end it leaves it in progress
pub guest_goes_on : (a b : DeviceOp) (o : Op) → GuestIs stage.HearingGuest a → IsDeviceOp a o → DeviceGoesOn a b → b ≡ DeviceOp.idle → ⊥
guest_goes_on DeviceOp.idle b o h of on is = absurd of
guest_goes_on DeviceOp.take b o h of on is = absurd h
guest_goes_on (DeviceOp.give j l) b o h of on is = absurd h
guest_goes_on DeviceOp.rest b o h of on is = absurd h
guest_goes_on DeviceOp.arm b o h of on is = absurd h
guest_goes_on DeviceOp.hear b o h of on is = cc (on, is)
guest_goes_on DeviceOp.disarm b o h of on is = absurd h
guest_goes_on DeviceOp.signal b o h of on is = absurd h

-- at its stage the end hears, or is about to
pub shadow_hears : (o : DriverOp) → ShadowIs stage.HearingShadow o → (o ≡ DriverOp.idle) ⊎ (o ≡ DriverOp.hear)
shadow_hears DriverOp.idle h = inl refl
shadow_hears (DriverOp.offer c) h = absurd h
shadow_hears DriverOp.collect h = absurd h
shadow_hears DriverOp.arm h = absurd h
shadow_hears DriverOp.hear h = inr refl
shadow_hears DriverOp.disarm h = absurd h
shadow_hears DriverOp.signal h = absurd h

pub shadow_heard : (a b : DriverOp) → DriverGoesOn a b → b ≡ DriverOp.hear → a ≡ DriverOp.hear
shadow_heard DriverOp.idle b on is = absurd (cc (on, is))
shadow_heard (DriverOp.offer c) b on is = absurd (cc (on, is))
shadow_heard DriverOp.collect b on is = absurd (cc (on, is))
shadow_heard DriverOp.arm b on is = absurd (cc (on, is))
shadow_heard DriverOp.hear b on is = refl
shadow_heard DriverOp.disarm b on is = absurd (cc (on, is))
shadow_heard DriverOp.signal b on is = absurd (elim on [ inl x ↦ cc (x, is) | inr x ↦ cc (x, is) ])

-- an access that doesn't end it leaves it in progress
pub shadow_goes_on : (a b : DriverOp) (o : Op) → ShadowIs stage.HearingShadow a → IsDriverOp a o → DriverGoesOn a b → b ≡ DriverOp.idle → ⊥
shadow_goes_on DriverOp.idle b o h of on is = absurd of
shadow_goes_on (DriverOp.offer c) b o h of on is = absurd h
shadow_goes_on DriverOp.collect b o h of on is = absurd h
shadow_goes_on DriverOp.arm b o h of on is = absurd h
shadow_goes_on DriverOp.hear b o h of on is = cc (on, is)
shadow_goes_on DriverOp.disarm b o h of on is = absurd h
shadow_goes_on DriverOp.signal b o h of on is = absurd h
