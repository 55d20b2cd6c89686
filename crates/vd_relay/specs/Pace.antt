-- How a relay's steps are counted, and how many accesses it may make until the next chain is taken, offered, collected or given, or the
-- next bell is heard.
use Rattle.std.specs.Prelude.{ℕ, ◌+◌, ◌*◌, ◌-◌, ◌^◌, ◌<◌, ◌≤◌, min, Bool, true, false, if◌then◌else◌}
use Rattle.vd_ring.specs.declared.act.DriverAct.{DriverAct}
use Rattle.vd_ring.specs.declared.act.DriverAct.TheVariants as driver_act
use Rattle.vd_ring.specs.declared.act.DeviceAct.{DeviceAct}
use Rattle.vd_ring.specs.declared.act.DeviceAct.TheVariants as device_act
use Rattle.vd_ring.specs.declared.driver.DriverNow.{DriverNow}
use Rattle.vd_ring.specs.declared.driver.DriverNow.TheVariants as driver
use Rattle.vd_ring.specs.declared.device.DeviceNow.{DeviceNow}
use Rattle.vd_ring.specs.declared.device.DeviceNow.TheVariants as device
use Rattle.vd_layout.specs.Begun.{DriverOp, DeviceOp}
use Rattle.vd_layout.specs.declared.moves.Move.{Move}
use Rattle.vd_layout.specs.declared.moves.Move.TheVariants as move
use Rattle.vd_relay.specs.declared.counts.Counts.{Counts}
use Rattle.vd_relay.specs.declared.counts.Turn.{Turn}
use Rattle.vd_relay.specs.declared.counts.Turn.TheVariants.{Worked, Handled, Woke, Slept, Again}
use Rattle.vd_relay.specs.declared.stage.Stage.{Stage}
use Rattle.vd_relay.specs.declared.stage.Stage.TheVariants as stage

-- ---- counts

-- the value at which a count stands still
abbrev pub last_count : ℕ
last_count = 2 ^ 64 - 1

-- a count that went up by so many
abbrev pub raised : ℕ → ℕ → ℕ
raised k n = min (n + k) last_count

abbrev pub counted : Turn → ℕ
counted Slept = 0
counted Again = 0
counted _ = 1

abbrev pub handled : Turn → ℕ
handled Handled = 1
handled _ = 0

abbrev pub woke : Turn → ℕ
woke Woke = 1
woke _ = 0

-- what Awake ended: a hearing, or an arming or a disarming
abbrev pub waking : Stage → Turn
waking stage.HearingGuest = Woke
waking stage.HearingShadow = Woke
waking _ = Worked

-- a look of a wind-up, by what comes next
abbrev pub repeating : Stage → Turn
repeating (stage.Collecting none) = Again
repeating _ = Worked

abbrev pub move_of : Turn → Bool → Move
move_of Slept rested = move.Looked
move_of _ true = move.Finished
move_of _ false = move.Worked

-- 1 for an access by which a chain was taken, offered, collected or given
abbrev pub guest_handled : DeviceAct → ℕ
guest_handled (device_act.Taken k c) = 1
guest_handled (device_act.Given k) = 1
guest_handled _ = 0

abbrev pub shadow_handled : DriverAct → ℕ
shadow_handled (driver_act.Offered k) = 1
shadow_handled (driver_act.Collected k n h) = 1
shadow_handled _ = 0

-- for counts below the last, 64 accesses at most for each chain taken, offered, collected or given, and each bell heard
abbrev pub KeepsPace : Counts → ℕ → Type 0
KeepsPace c owed = c.accesses < last_count → c.handled < last_count → c.heard < last_count
    → c.accesses + owed ≤ 64 * (c.handled + c.heard + 1)

-- ---- how many accesses it may make until then: before a take by whether it winds up, and whether a chain or an entry was shown

abbrev pub take_owes : Bool → Bool → Bool → ℕ
take_owes true guest_shown shadow_shown = 4
take_owes false true shadow_shown = 37
take_owes false false true = 37
take_owes false false false = 47

-- before a collect, whether the take before it showed nothing
abbrev pub collect_owes : Bool → Bool → Bool → ℕ
collect_owes true none shown = 4
collect_owes false none true = 4
collect_owes false true false = 46
collect_owes false false false = 48

-- in the middle of a take and of a collect
abbrev pub taking_owes : Bool → Bool → Bool → ℕ → ℕ
taking_owes winding true shadow_shown left = left
taking_owes true false shadow_shown left = 37
taking_owes false false shadow_shown left = take_owes false false shadow_shown

abbrev pub collecting_owes : Bool → Bool → Bool → ℕ → ℕ
collecting_owes winding none true left = left
collecting_owes winding none false left = collect_owes winding none false

abbrev pub hear_owes : Bool → ℕ
hear_owes winding = if winding then 2 else 7

-- between two operations
abbrev pub idle_owes : Bool → Stage → Bool → Bool → ℕ
idle_owes winding stage.Taking g s = take_owes winding g s
idle_owes winding (stage.Collecting none) g s = collect_owes winding none s
idle_owes winding stage.ArmingGuest g s = if winding then 4 else 45
idle_owes winding stage.ArmingShadow g s = if winding then 6 else 42
idle_owes winding stage.HearingGuest g s = hear_owes winding
idle_owes winding stage.HearingShadow g s = hear_owes winding
idle_owes winding stage.DisarmingGuest g s = 2 + take_owes winding g s
idle_owes winding stage.DisarmingShadow g s = 1 + take_owes winding g s
idle_owes winding stage.Resting g s = 2
idle_owes winding _ g s = 0

-- the disarming store of a hearing is one of two accesses
abbrev pub guest_hears : Bool → DeviceNow → ℕ
guest_hears winding device.Idle = hear_owes winding
guest_hears winding _ = if winding then 1 else 6

abbrev pub shadow_hears : Bool → DriverNow → ℕ
shadow_hears winding driver.Idle = hear_owes winding
shadow_hears winding _ = if winding then 1 else 6

-- in the middle of an operation
abbrev pub guest_owes : Bool → Stage → DeviceOp → DeviceNow → Bool → Bool → ℕ → ℕ
guest_owes winding st DeviceOp.idle d g s left = idle_owes winding st g s
guest_owes winding st DeviceOp.disarm d g s left = idle_owes winding st g s
guest_owes winding st DeviceOp.take d g s left = taking_owes winding g s left
guest_owes winding st DeviceOp.signal d g s left = left + (if winding then 4 else 47)
guest_owes winding st DeviceOp.arm d g s left = left + (if winding then 6 else 42)
guest_owes winding st DeviceOp.hear d g s left = guest_hears winding d
guest_owes winding st _ d g s left = left

abbrev pub shadow_owes : Bool → Stage → DriverOp → DriverNow → Bool → Bool → ℕ → ℕ
shadow_owes winding st DriverOp.idle d g s left = idle_owes winding st g s
shadow_owes winding st DriverOp.disarm d g s left = idle_owes winding st g s
shadow_owes winding (stage.Collecting none) DriverOp.collect d g s left = collecting_owes winding none s left
shadow_owes winding st DriverOp.signal d g s left = left + (if winding then 4 else 48)
shadow_owes winding st DriverOp.arm d g s left = left + (if winding then 6 else 39)
shadow_owes winding st DriverOp.hear d g s left = shadow_hears winding d
shadow_owes winding st _ d g s left = left
