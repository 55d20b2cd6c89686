-- The stages of a model device, what holds at each while an operation is in progress, and how many accesses it may make until the next
-- chain, entry or bell.
use Rattle.std.specs.Prelude.{◌≡◌, ◌⊎◌, ℕ, ◌+◌, ◌<◌, ◌≤◌, Bool, true, false, Option, Some, None, List, [], length}
use Rattle.vd_words.specs.declared.access.Op.TheVariants as op
use Rattle.vd_ring.specs.declared.device.DeviceNow.{DeviceNow}
use Rattle.vd_ring.specs.declared.device.DeviceNow.TheVariants as now
use Rattle.vd_layout.specs.Begun.{DeviceOp}
use Rattle.vd_models.specs.declared.counts.Turn.{Turn}
use Rattle.vd_models.specs.declared.counts.Turn.TheVariants.{Worked, Woke}
use Rattle.vd_models.specs.declared.window.Held.{Held}
use Rattle.vd_models.specs.declared.serving.Stage.{Stage}
use Rattle.vd_models.specs.declared.serving.Stage.TheVariants as stage
use Rattle.vd_models.specs.Holding.{next_held}

-- what is held, and what is still to begin, at each stage and operation; it arms and hears only where nothing is held and more is to
-- begin
abbrev pub StageIs : Stage → DeviceOp → Bool → List Held → ℕ → ℕ → Type 0
StageIs stage.Taking DeviceOp.idle io hs n all = (hs ≡ []) ⊎ (n < all)
StageIs stage.Taking DeviceOp.signal io hs n all = (hs ≡ []) ⊎ (n < all)
StageIs stage.Taking DeviceOp.take io hs n all = n < all
StageIs stage.Taking DeviceOp.rest io hs n all = (hs ≡ []) × (n ≡ all)
StageIs stage.Giving DeviceOp.idle io hs n all = 0 < length hs
StageIs stage.Giving DeviceOp.signal io hs n all = 0 < length hs
StageIs stage.Giving (DeviceOp.give k len) io hs n all = next_held io hs ≡ Some (record { number = k; len = len })
StageIs stage.Arming DeviceOp.idle io hs n all = (hs ≡ []) × (n < all)
StageIs stage.Arming DeviceOp.arm io hs n all = (hs ≡ []) × (n < all)
StageIs stage.Hearing DeviceOp.idle io hs n all = (hs ≡ []) × (n < all)
StageIs stage.Hearing DeviceOp.hear io hs n all = (hs ≡ []) × (n < all)
StageIs stage.Done DeviceOp.idle io hs n all = (hs ≡ []) × (n ≡ all)
StageIs _ _ io hs n all = ⊥

abbrev pub is_done : Stage → Bool
is_done stage.Done = true
is_done _ = false

-- the window has room while chains are taken
abbrev pub HasWindow : Stage → ℕ → ℕ → Type 0
HasWindow stage.Taking n capacity = n < capacity
HasWindow _ n capacity = (n ≤ capacity) × (0 < capacity)

-- it is armed while it hears, until a bell is heard, and while it looks again
abbrev pub ArmedIs : Stage → DeviceOp → DeviceNow → Option ℕ → Type 0
ArmedIs stage.Hearing DeviceOp.hear d armed = ((d ≡ now.Idle) × (t : ℕ) × (armed ≡ Some t)) ⊎ (d ≡ now.Disarming op.Hear)
ArmedIs stage.Hearing _ d armed = (t : ℕ) × (armed ≡ Some t)
ArmedIs stage.Arming DeviceOp.arm d armed = (d ≡ now.Idle) ⊎ ((d ≡ now.Arming) × (t : ℕ) × (armed ≡ Some t)) ⊎ (d ≡ now.Disarming op.Arm)
ArmedIs _ _ d armed = armed ≡ None

-- a take that goes on, and an arming that is to be followed by a disarming store, were shown a chain; a take has few accesses left
abbrev pub OpIs : DeviceOp → DeviceNow → Bool → ℕ → Type 0
OpIs DeviceOp.take d shown left = ((d ≡ now.Idle) ⊎ (shown ≡ true)) × (left ≤ 36)
OpIs DeviceOp.arm d shown left = d ≡ now.Disarming op.Arm → shown ≡ true
OpIs _ d shown left = Unit {0}

-- ---- what comes next

abbrev pub taken_stage : Bool → Stage
taken_stage true = stage.Giving
taken_stage false = stage.Taking

abbrev pub given_stage : Bool → Stage
given_stage true = stage.Taking
given_stage false = stage.Giving

abbrev pub nothing_stage : Bool → Stage
nothing_stage true = stage.Arming
nothing_stage false = stage.Giving

abbrev pub woken_stage : Bool → Stage
woken_stage true = stage.Hearing
woken_stage false = stage.Taking

abbrev pub waking_turn : Stage → Turn
waking_turn stage.Hearing = Woke
waking_turn _ = Worked

-- ---- how many accesses it may make, sleepers' looks left out, until the next chain is begun or given, or the next bell is heard

abbrev pub idle_owes : Stage → Bool → ℕ
idle_owes stage.Taking true = 36
idle_owes stage.Taking false = 40
idle_owes stage.Giving shown = 5
idle_owes stage.Arming shown = 39
idle_owes stage.Hearing shown = 2
idle_owes stage.Done shown = 0

abbrev pub hear_owes : DeviceNow → ℕ
hear_owes now.Idle = 2
hear_owes _ = 1

abbrev pub take_owes : Bool → ℕ → ℕ
take_owes true left = left
take_owes false left = 40

abbrev pub owes : Stage → DeviceOp → DeviceNow → Bool → ℕ → ℕ
owes st DeviceOp.idle d shown left = idle_owes st shown
owes st DeviceOp.take d shown left = take_owes shown left
owes st DeviceOp.arm d shown left = left + 36
owes st DeviceOp.hear d shown left = hear_owes d
owes st DeviceOp.signal d shown left = left + 40
owes st _ d shown left = left
