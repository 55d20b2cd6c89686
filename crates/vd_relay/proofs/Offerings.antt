-- Stages at which no offer is begun, and turns by which none is made.
use Rattle.std.proofs.Common.{◌≡◌, Bool, true, false, refl}
use Rattle.vd_relay.specs.declared.stage.Stage.{Stage}
use Rattle.vd_relay.specs.declared.stage.Stage.TheVariants as stage
use Rattle.vd_relay.specs.Pace.{handled, waking, repeating}
use Rattle.vd_relay.specs.Stages.{is_shadow, is_offering, roused, heard_next, none_next}

pub none_offered : (st : Stage) → is_shadow st ≡ false → is_offering st ≡ false
none_offered (stage.Offering n h) i = absurd (cc i)
none_offered stage.Taking i = refl
none_offered (stage.Collecting n) i = refl
none_offered stage.Giving i = refl
none_offered stage.ArmingGuest i = refl
none_offered stage.ArmingShadow i = refl
none_offered stage.HearingGuest i = refl
none_offered stage.HearingShadow i = refl
none_offered stage.DisarmingGuest i = refl
none_offered stage.DisarmingShadow i = refl
none_offered stage.Resting i = refl
none_offered stage.Rested i = refl

pub heard_none : (st : Stage) → is_shadow st ≡ false → is_offering (heard_next st) ≡ false
heard_none (stage.Offering n h) i = absurd (cc i)
heard_none stage.Taking i = refl
heard_none (stage.Collecting n) i = refl
heard_none stage.Giving i = refl
heard_none stage.ArmingGuest i = refl
heard_none stage.ArmingShadow i = refl
heard_none stage.HearingGuest i = refl
heard_none stage.HearingShadow i = refl
heard_none stage.DisarmingGuest i = refl
heard_none stage.DisarmingShadow i = refl
heard_none stage.Resting i = refl
heard_none stage.Rested i = refl

pub roused_none : (guest shadow winding finished : Bool) → is_offering (roused guest shadow winding finished) ≡ false
roused_none true shadow winding finished = refl
roused_none false true winding finished = refl
roused_none false false false finished = refl
roused_none false false true false = refl
roused_none false false true true = refl

pub none_next_none : (st : Stage) → is_offering (none_next st) ≡ false
none_next_none (stage.Collecting true) = refl
none_next_none (stage.Collecting false) = refl
none_next_none (stage.Offering n h) = refl
none_next_none stage.Taking = refl
none_next_none stage.Giving = refl
none_next_none stage.ArmingGuest = refl
none_next_none stage.ArmingShadow = refl
none_next_none stage.HearingGuest = refl
none_next_none stage.HearingShadow = refl
none_next_none stage.DisarmingGuest = refl
none_next_none stage.DisarmingShadow = refl
none_next_none stage.Resting = refl
none_next_none stage.Rested = refl

pub hears_none : (st : Stage) → is_offering st ≡ false → is_offering (heard_next st) ≡ false
hears_none (stage.Offering n h) i = i
hears_none stage.Taking i = refl
hears_none (stage.Collecting n) i = refl
hears_none stage.Giving i = refl
hears_none stage.ArmingGuest i = refl
hears_none stage.ArmingShadow i = refl
hears_none stage.HearingGuest i = refl
hears_none stage.HearingShadow i = refl
hears_none stage.DisarmingGuest i = refl
hears_none stage.DisarmingShadow i = refl
hears_none stage.Resting i = refl
hears_none stage.Rested i = refl

-- ---- turns by which no chain is offered or collected

pub repeats : (st : Stage) → handled (repeating st) ≡ 0
repeats (stage.Offering n h) = refl
repeats stage.Taking = refl
repeats (stage.Collecting n) = refl
repeats stage.Giving = refl
repeats stage.ArmingGuest = refl
repeats stage.ArmingShadow = refl
repeats stage.HearingGuest = refl
repeats stage.HearingShadow = refl
repeats stage.DisarmingGuest = refl
repeats stage.DisarmingShadow = refl
repeats stage.Resting = refl
repeats stage.Rested = refl

pub wakes : (st : Stage) → handled (waking st) ≡ 0
wakes (stage.Offering n h) = refl
wakes stage.Taking = refl
wakes (stage.Collecting n) = refl
wakes stage.Giving = refl
wakes stage.ArmingGuest = refl
wakes stage.ArmingShadow = refl
wakes stage.HearingGuest = refl
wakes stage.HearingShadow = refl
wakes stage.DisarmingGuest = refl
wakes stage.DisarmingShadow = refl
wakes stage.Resting = refl
wakes stage.Rested = refl
