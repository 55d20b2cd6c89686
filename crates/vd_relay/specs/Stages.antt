-- The stages of a relay: which operations go with each, what is in hand and what is to be given, and which ends are armed.
use Rattle.std.specs.Prelude.{◌≡◌, ◌⊎◌, ℕ, ◌≤◌, Bool, true, false, Option, Some, None, List, [], ◌∷◌, length}
use Rattle.vd_model.specs.declared.chain.Piece.{Piece}
use Rattle.vd_words.specs.declared.access.Op.TheVariants as op
use Rattle.vd_ring.specs.declared.frame.Frame.{Frame}
use Rattle.vd_ring.specs.declared.frame.Used.{Used}
use Rattle.vd_ring.specs.declared.driver.DriverDone.{DriverDone}
use Rattle.vd_ring.specs.declared.driver.DriverNow.{DriverNow}
use Rattle.vd_ring.specs.declared.driver.DriverNow.TheVariants as driver
use Rattle.vd_ring.specs.declared.device.DeviceDone.{DeviceDone}
use Rattle.vd_ring.specs.declared.device.DeviceDone.TheVariants.{Rest}
use Rattle.vd_ring.specs.declared.device.DeviceNow.{DeviceNow}
use Rattle.vd_ring.specs.declared.device.DeviceNow.TheVariants as device
use Rattle.vd_ring.specs.History.{entry, offers, collects, next_head, IsWhole}
use Rattle.vd_layout.specs.Begun.{DriverOp, DeviceOp}
use Rattle.vd_relay.specs.declared.stage.Stage.{Stage}
use Rattle.vd_relay.specs.declared.stage.Stage.TheVariants as stage

abbrev pub is_rested : Stage → Bool
is_rested stage.Rested = true
is_rested _ = false

-- the next access is one of the shadow ring
abbrev pub is_shadow : Stage → Bool
is_shadow (stage.Offering number head) = true
is_shadow (stage.Collecting none) = true
is_shadow stage.ArmingShadow = true
is_shadow stage.HearingShadow = true
is_shadow stage.DisarmingShadow = true
is_shadow _ = false

-- a wind-up does something else in its place
abbrev pub is_open : Stage → Bool
is_open stage.Taking = true
is_open (stage.Collecting none) = true
is_open stage.ArmingGuest = true
is_open stage.ArmingShadow = true
is_open _ = false

abbrev pub is_hearing : Stage → Bool
is_hearing stage.HearingGuest = true
is_hearing stage.HearingShadow = true
is_hearing _ = false

-- a chain is to be offered
abbrev pub is_offering : Stage → Bool
is_offering (stage.Offering number head) = true
is_offering _ = false

-- ---- the operations

-- the guest end's operation: of one end at a time an operation is in progress
abbrev pub GuestIs : Stage → DeviceOp → Type 0
GuestIs stage.Taking DeviceOp.take = Unit {0}
GuestIs stage.Taking DeviceOp.signal = Unit {0}
GuestIs stage.Giving (DeviceOp.give k n) = Unit {0}
GuestIs stage.Giving _ = ⊥
GuestIs stage.ArmingGuest DeviceOp.arm = Unit {0}
GuestIs stage.HearingGuest DeviceOp.hear = Unit {0}
GuestIs stage.DisarmingGuest DeviceOp.disarm = Unit {0}
GuestIs stage.Resting DeviceOp.rest = Unit {0}
GuestIs _ DeviceOp.idle = Unit {0}
GuestIs _ _ = ⊥

abbrev pub ShadowIs : Stage → DriverOp → Type 0
ShadowIs (stage.Offering number head) (DriverOp.offer c) = Unit {0}
ShadowIs (stage.Offering number head) _ = ⊥
ShadowIs (stage.Collecting none) DriverOp.collect = Unit {0}
ShadowIs (stage.Collecting none) DriverOp.signal = Unit {0}
ShadowIs stage.ArmingShadow DriverOp.arm = Unit {0}
ShadowIs stage.HearingShadow DriverOp.hear = Unit {0}
ShadowIs stage.DisarmingShadow DriverOp.disarm = Unit {0}
ShadowIs _ DriverOp.idle = Unit {0}
ShadowIs _ _ = ⊥

-- what an operation in progress goes with: a take has nothing in hand, an offer the chain offered
abbrev pub TakesFrom : DeviceOp → List (List Piece) → Type 0
TakesFrom DeviceOp.take hand = hand ≡ []
TakesFrom _ hand = Unit {0}

abbrev pub OffersHand : DriverOp → List (List Piece) → Type 0
OffersHand (DriverOp.offer c) hand = hand ≡ c ∷ []
OffersHand _ hand = Unit {0}

-- only in its wind-up a relay keeps a chain in hand, which it doesn't offer
abbrev pub InHand : Stage → Bool → List (List Piece) → Type 0
InHand (stage.Offering number head) winding hand = Unit {0}
InHand _ false hand = hand ≡ []
InHand _ true hand = length hand ≤ 1

-- the number on the guest's ring and the head of the chain that is offered
abbrev pub OfferIs : Stage → (ℕ → ℕ) → Frame → List DriverDone → Type 0
OfferIs (stage.Offering number head) guests g o = (number ≡ guests (length (offers o))) × (head ≡ next_head g o)
OfferIs _ guests g o = Unit {0}

-- what is to be given
abbrev pub BackIs : DeviceOp → List Used → Type 0
BackIs (DeviceOp.give k n) back = back ≡ entry k n ∷ []
BackIs _ back = back ≡ []

-- where the guest's end rests, or begins to, all is collected and given
abbrev pub EndsIs : Stage → Bool → ℕ → List DeviceDone → List DriverDone → Type 0
EndsIs stage.Resting winding target s o = (winding ≡ true) × (target ≤ length (collects o)) × IsWhole s
EndsIs stage.Rested winding target s o = (winding ≡ true) × (target ≤ length (collects o)) × IsWhole s
EndsIs _ winding target s o = Unit {0}

-- the acts on the guest's ring up to its rest, if it rests: a rest takes back what is taken and not given
abbrev pub BeforeRest : Stage → List DeviceDone → List DeviceDone → Type 0
BeforeRest stage.Rested s done = done ≡ Rest ∷ s
BeforeRest _ s done = done ≡ s

-- ---- which ends are armed

abbrev pub IsSome : Option ℕ → Type 0
IsSome armed = (t : ℕ) × (armed ≡ Some t)

-- an end that arms, and one that hears
abbrev pub GuestArms : DeviceOp → DeviceNow → Option ℕ → Type 0
GuestArms DeviceOp.arm d armed = (d ≡ device.Idle) ⊎ ((d ≡ device.Arming) × IsSome armed) ⊎ (d ≡ device.Disarming op.Arm)
GuestArms _ d armed = armed ≡ None

abbrev pub GuestHears : DeviceOp → DeviceNow → Option ℕ → Type 0
GuestHears DeviceOp.hear d armed = ((d ≡ device.Idle) × IsSome armed) ⊎ (d ≡ device.Disarming op.Hear)
GuestHears _ d armed = IsSome armed

abbrev pub ShadowArms : DriverOp → DriverNow → Option ℕ → Type 0
ShadowArms DriverOp.arm d armed = (d ≡ driver.Idle) ⊎ ((d ≡ driver.Arming) × IsSome armed) ⊎ (d ≡ driver.Disarming op.Arm)
ShadowArms _ d armed = armed ≡ None

abbrev pub ShadowHears : DriverOp → DriverNow → Option ℕ → Type 0
ShadowHears DriverOp.hear d armed = ((d ≡ driver.Idle) × IsSome armed) ⊎ (d ≡ driver.Disarming op.Hear)
ShadowHears _ d armed = IsSome armed

-- an end that is being disarmed is armed until then
abbrev pub GuestDisarms : DeviceOp → Option ℕ → Type 0
GuestDisarms DeviceOp.disarm armed = Unit {0}
GuestDisarms _ armed = IsSome armed

abbrev pub ShadowDisarms : DriverOp → Option ℕ → Type 0
ShadowDisarms DriverOp.disarm armed = Unit {0}
ShadowDisarms _ armed = IsSome armed

-- a relay hears only where both ends are armed
abbrev pub GuestArmed : Stage → DeviceOp → DeviceNow → Option ℕ → Type 0
GuestArmed stage.ArmingGuest a d armed = GuestArms a d armed
GuestArmed stage.ArmingShadow a d armed = IsSome armed
GuestArmed stage.HearingGuest a d armed = GuestHears a d armed
GuestArmed stage.HearingShadow a d armed = IsSome armed
GuestArmed stage.DisarmingGuest a d armed = GuestDisarms a armed
GuestArmed _ a d armed = armed ≡ None

abbrev pub ShadowArmed : Stage → DriverOp → DriverNow → Option ℕ → Type 0
ShadowArmed stage.ArmingShadow c d armed = ShadowArms c d armed
ShadowArmed stage.HearingShadow c d armed = ShadowHears c d armed
ShadowArmed stage.HearingGuest c d armed = IsSome armed
ShadowArmed stage.DisarmingShadow c d armed = ShadowDisarms c armed
ShadowArmed stage.DisarmingGuest c d armed = Unit {0}
ShadowArmed _ c d armed = armed ≡ None

-- ---- what was shown

-- a take that goes on, and an arming that is to be followed by a disarming store, were shown a chain; a take has few accesses left
abbrev pub GuestShown : DeviceOp → DeviceNow → Bool → ℕ → Type 0
GuestShown DeviceOp.take d shown left = ((d ≡ device.Idle) ⊎ (shown ≡ true)) × (left ≤ 36)
GuestShown DeviceOp.arm d shown left = d ≡ device.Disarming op.Arm → shown ≡ true
GuestShown _ d shown left = Unit {0}

-- a collect that goes on, and an arming that is to be followed by a disarming store, were shown an entry
abbrev pub ShadowShown : DriverOp → DriverNow → Bool → ℕ → Type 0
ShadowShown DriverOp.collect d shown left = ((d ≡ driver.Idle) ⊎ (shown ≡ true)) × (left ≤ 3)
ShadowShown DriverOp.arm d shown left = d ≡ driver.Disarming op.Arm → shown ≡ true
ShadowShown _ d shown left = Unit {0}

-- ---- what comes next

-- after Awake, and in a wind-up: armed ends are disarmed; then it goes on, in a wind-up until it is finished
abbrev pub roused : Bool → Bool → Bool → Bool → Stage
roused true shadow_armed winding finished = stage.DisarmingGuest
roused false true winding finished = stage.DisarmingShadow
roused false false false finished = stage.Taking
roused false false true false = stage.Collecting false
roused false false true true = stage.Resting

-- the bells are heard in turn
abbrev pub heard_next : Stage → Stage
heard_next stage.HearingGuest = stage.HearingShadow
heard_next stage.HearingShadow = stage.HearingGuest
heard_next st = st

-- after a collect that showed nothing: where the take before it showed nothing either, it arms its ends
abbrev pub none_next : Stage → Stage
none_next (stage.Collecting true) = stage.ArmingGuest
none_next _ = stage.Taking
