-- The stages of a model guest, what holds at each while an operation is in progress, and how many accesses it may make until the next
-- chain is offered or collected, or the next bell is heard, with nothing in hand.
use Rattle.std.specs.Prelude.{◌≡◌, ◌⊎◌, ℕ, ◌+◌, ◌<◌, ◌≤◌, ◌==◌, Bool, true, false, Option, Some, None, List, if◌then◌else◌}
use Rattle.vd_model.specs.declared.chain.Piece.{Piece}
use Rattle.vd_words.specs.declared.access.Op.TheVariants as op
use Rattle.vd_ring.specs.declared.driver.DriverDone.{DriverDone}
use Rattle.vd_ring.specs.declared.driver.DriverNow.{DriverNow}
use Rattle.vd_ring.specs.declared.driver.DriverNow.TheVariants as now
use Rattle.vd_ring.specs.declared.frame.Frame.{Frame}
use Rattle.vd_layout.specs.Begun.{DriverOp}
use Rattle.vd_layout.specs.Driver.{HasRoom}
use Rattle.vd_models.specs.declared.counts.Turn.{Turn}
use Rattle.vd_models.specs.declared.counts.Turn.TheVariants.{Worked, Woke}
use Rattle.vd_models.specs.declared.driving.GuestStage.{GuestStage}
use Rattle.vd_models.specs.declared.driving.GuestStage.TheVariants as stage

-- the next chain, if one is left, has no room
abbrev pub IsStuck : Option (List Piece) → Frame → List DriverDone → Type 0
IsStuck None f o = Unit {0}
IsStuck (Some c) f o = HasRoom f o c → ⊥

-- what the operation that was begun goes with: out of its turn a guest collects only where nothing can be offered, and sleeps only then
abbrev pub BegunIs : GuestStage → DriverOp → Option (List Piece) → Frame → List DriverDone → Type 0
BegunIs stage.Offering DriverOp.idle next f o = Unit {0}
BegunIs stage.Offering DriverOp.signal next f o = Unit {0}
BegunIs stage.Offering (DriverOp.offer c) next f o = next ≡ Some c
BegunIs stage.Offering DriverOp.collect next f o = IsStuck next f o
BegunIs stage.Collecting DriverOp.idle next f o = Unit {0}
BegunIs stage.Collecting DriverOp.signal next f o = Unit {0}
BegunIs stage.Collecting DriverOp.collect next f o = Unit {0}
BegunIs stage.Arming DriverOp.idle next f o = IsStuck next f o
BegunIs stage.Arming DriverOp.arm next f o = IsStuck next f o
BegunIs stage.Hearing DriverOp.idle next f o = IsStuck next f o
BegunIs stage.Hearing DriverOp.hear next f o = IsStuck next f o
BegunIs stage.Done DriverOp.idle next f o = Unit {0}
BegunIs _ _ next f o = ⊥

abbrev pub is_done : GuestStage → Bool
is_done stage.Done = true
is_done _ = false

-- it is done as soon as all came back
abbrev pub DoneIs : GuestStage → ℕ → ℕ → Type 0
DoneIs stage.Done returned all = returned ≡ all
DoneIs _ returned all = returned < all

-- it is armed while it hears, until a bell is heard, and while it looks again
abbrev pub ArmedIs : GuestStage → DriverOp → DriverNow → Option ℕ → Type 0
ArmedIs stage.Hearing DriverOp.hear d armed = ((d ≡ now.Idle) × (t : ℕ) × (armed ≡ Some t)) ⊎ (d ≡ now.Disarming op.Hear)
ArmedIs stage.Hearing _ d armed = (t : ℕ) × (armed ≡ Some t)
ArmedIs stage.Arming DriverOp.arm d armed = (d ≡ now.Idle) ⊎ ((d ≡ now.Arming) × (t : ℕ) × (armed ≡ Some t)) ⊎ (d ≡ now.Disarming op.Arm)
ArmedIs _ _ d armed = armed ≡ None

-- a collect that goes on, and an arming that is to be followed by a disarming store, were shown an entry
abbrev pub OpIs : DriverOp → DriverNow → Bool → ℕ → Type 0
OpIs DriverOp.collect d shown left = ((d ≡ now.Idle) ⊎ (shown ≡ true)) × (left ≤ 3)
OpIs DriverOp.arm d shown left = d ≡ now.Disarming op.Arm → shown ≡ true
OpIs _ d shown left = Unit {0}

-- ---- what comes next

abbrev pub first_stage : ℕ → GuestStage
first_stage total = if total == 0 then stage.Done else stage.Offering

abbrev pub offered_stage : Bool → GuestStage
offered_stage true = stage.Collecting
offered_stage false = stage.Offering

abbrev pub collected_stage : Bool → GuestStage → GuestStage
collected_stage true st = stage.Done
collected_stage false st = st

abbrev pub none_stage : GuestStage → GuestStage
none_stage stage.Collecting = stage.Offering
none_stage _ = stage.Arming

abbrev pub woken_stage : Bool → GuestStage
woken_stage true = stage.Hearing
woken_stage false = stage.Offering

abbrev pub waking_turn : GuestStage → Turn
waking_turn stage.Hearing = Woke
waking_turn _ = Worked

-- ---- how many accesses it may make, sleepers' looks left out

abbrev pub idle_owes : GuestStage → Bool → ℕ
idle_owes stage.Offering true = 40
idle_owes stage.Offering false = 44
idle_owes stage.Collecting shown = 45
idle_owes stage.Arming shown = 43
idle_owes stage.Hearing shown = 2
idle_owes stage.Done shown = 0

abbrev pub hear_owes : DriverNow → ℕ
hear_owes now.Idle = 2
hear_owes _ = 1

abbrev pub collect_owes : GuestStage → Bool → ℕ → ℕ
collect_owes st true left = left + 1
collect_owes stage.Collecting false left = 45
collect_owes _ false left = 44

abbrev pub owes : GuestStage → DriverOp → DriverNow → Bool → ℕ → ℕ
owes st DriverOp.idle d shown left = idle_owes st shown
owes st DriverOp.collect d shown left = collect_owes st shown left
owes st DriverOp.arm d shown left = left + 40
owes st DriverOp.hear d shown left = hear_owes d
owes st DriverOp.signal d shown left = left + 45
owes st _ d shown left = left
