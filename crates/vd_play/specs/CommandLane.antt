-- What holds of the control queue's lane while a machine is played: of its guest, of what its device has journalled, and, between two
-- epochs, of the end that rests. Each part holds after each single access.
use Rattle.std.specs.Prelude.{◌≡◌, ℕ, ◌+◌, ◌<◌, ◌≤◌, Bool, true, List, [], ◌∷◌, ◌++◌, length, take, flat_map, slice_get, Some, None, if◌then◌else◌}
use Rattle.std.specs.List.{All}
use Rattle.vd_model.specs.declared.base.Base.{Base}
use Rattle.vd_model.specs.declared.base.Mode.TheVariants.{Shadow}
use Rattle.vd_model.specs.declared.record.Begun.{Begun}
use Rattle.vd_words.specs.Plain.{RingWords}
use Rattle.vd_ring.specs.declared.driver.DriverView.{DriverView}
use Rattle.vd_ring.specs.declared.device.DeviceView.{DeviceView}
use Rattle.vd_ring.specs.History.{takes, gives, used_at}
use Rattle.vd_layout.specs.Device.{DeviceModel, IsStill}
use Rattle.vd_layout.specs.Layout.{LayoutModel, CanMake}
use Rattle.vd_control.specs.declared.settings.Settings.{Settings}
use Rattle.vd_control.specs.Settings.{default}
use Rattle.vd_bus.specs.declared.event.Event.{Event}
use Rattle.vd_bus.specs.declared.event.Event.TheVariants.{Attach, Reset}
use Rattle.vd_switch.specs.CommandLanes.{AreAnsweredTo}
use Rattle.vd_control_lane.specs.Scripts.{AreSendable}
use Rattle.vd_machine.specs.File.{Plan}
use Rattle.vd_play.specs.AllWork.{command_events_room, commands_room}
use Rattle.vd_play.specs.Commands.{control_queue, control_commands, control_epochs, sent_at, settings_at}
use Rattle.vd_play.specs.CommandsPlayed.{bytes_of, HasAckLength}
use Rattle.vd_play.specs.ControlJournal.{epoch_commands, commands_before, journalled_at, command_events, IsCommandBase}
use Rattle.vd_play.specs.ControlRings.{control_frame, control_ring}
use Rattle.vd_play.specs.Epochs.{Epoch, AreChained, AreNumbered, mode_at, renewed_at}
use Rattle.vd_play.specs.Journal.{map_in}
use Rattle.vd_play.specs.Places.{HasControl}
use Rattle.vd_play.specs.Setting.{Setting}

-- a machine has at most so many commands
abbrev pub most_commands : ℕ
most_commands = 4096

-- what the machine's rules and its ring's size say of the control queue
pub record IsCommandQueue (l : LayoutModel) (plan : Plan) : Type 0 where
  pub there : HasControl plan
  pub plain : (control_queue plan).runs ≡ []
  pub sendable : AreSendable (control_commands plan)
  pub few : length (control_commands plan) ≤ most_commands
  pub sized : (2 ≤ plan.size) × (plan.size ≤ 32768)
  pub made : CanMake l plan.size plan.features
  pub epochs : length (control_epochs plan) ≤ 18
  pub chained : AreChained (length (control_commands plan)) (control_epochs plan)
  pub numbered : AreNumbered plan (control_epochs plan)

-- the guest's part: it has loaded the control queue's script, and holds the driver's end of its ring
pub record DrivesCommands {D E G X C : Type 0} (s : Setting D E G X C) (plan : Plan) (guest : G) (v : DriverView) : Type 0 where
  pub script : s.guest.script guest ≡ Some (control_queue plan)
  pub holds : s.guest.holds guest v
  pub framed : v.frame ≡ control_frame s.layout plan

-- the guest on its ring, which has the number 15
pub record IsCommandDriven {D E G X C : Type 0} (s : Setting D E G X C) (plan : Plan) (words : RingWords) (guest : G) (v : DriverView)
    (w : DeviceView) : Type 0 where
  pub queue : IsCommandQueue s.layout plan
  pub numbered : words.ring ≡ 15
  pub ring : s.layout.ring words.words v w
  pub part : DrivesCommands s plan guest v

-- ---- the journal

-- the commands begun before epoch k are those that the machine orders before it; those of the epoch stand behind them
pub record IsCommandAccount (plan : Plan) (k : ℕ) (begun : List Begun) : Type 0 where
  pub before : bytes_of (take (journalled_at plan k) begun) ≡ commands_before plan k
  pub many : journalled_at plan k ≤ length begun
  pub each : All HasAckLength begun

-- the bases of the shadow rings of the epochs before k
abbrev pub AreBasesBefore : {E : Type 0} → DeviceModel E → LayoutModel → Plan → ℕ → (ℕ → Base) → Type 0
AreBasesBefore e l plan k bases = (j : ℕ) (ep : Epoch) → j < k → slice_get (control_epochs plan) j ≡ Some ep
    → IsCommandBase e l plan j (length (epoch_commands plan ep)) (bases j)

-- the events of the epochs before k, by these bases
abbrev pub command_events_before : LayoutModel → Plan → (ℕ → Base) → ℕ → List Event
command_events_before l plan bases k = flat_map (command_events l plan bases) (take k (control_epochs plan))

-- the device's events are those of the epochs before k, and then these
pub record AreCommandEvents {D E G X C : Type 0} (s : Setting D E G X C) (plan : Plan) (k : ℕ) (device : X) (more : List Event)
    : Type 0 where
  pub bases : ℕ → Base
  pub based : AreBasesBefore s.device s.layout plan k bases
  pub events : s.party.events device ≡ command_events_before s.layout plan bases k ++ more

-- for epoch k the device is reset, where the epoch begins with a renewal, and attached
abbrev pub command_resets : Plan → ℕ → List Event
command_resets plan k = if renewed_at plan k then Reset (journalled_at plan k) ∷ [] else []

abbrev pub command_attached : LayoutModel → Plan → ℕ → List Event
command_attached l plan k = command_resets plan k
    ++ Attach (journalled_at plan k) (control_ring k) (record { 0 = l.fresh_base }) Shadow default (map_in plan (mode_at plan k)) ∷ []

-- ---- what was reserved

-- the machine's window, and room for all commands
pub record AreCommandsReserved {D E G X C : Type 0} (s : Setting D E G X C) (plan : Plan) (device : X) : Type 0 where
  pub window : s.party.window device ≡ plan.window
  pub room : commands_room plan ≤ s.party.chain_room device + length (s.party.begun device)

-- the journal has room for all events that the machine orders still
abbrev pub HasCommandRoom : {D E G X C : Type 0} → Setting D E G X C → Plan → X → Type 0
HasCommandRoom s plan device = command_events_room plan ≤ s.party.event_room device + length (s.party.events device)

-- ---- between two epochs

-- the guest's part, the account up to epoch k and in it, and what was reserved
pub record AreCommandsKept {D E G X C : Type 0} (s : Setting D E G X C) (plan : Plan) (k : ℕ) (words : RingWords) (guest : G) (device : X)
    (v : DriverView) (w : DeviceView) : Type 0 where
  pub driven : IsCommandDriven s plan words guest v w
  pub account : IsCommandAccount plan k (s.party.begun device)
  pub reserved : AreCommandsReserved s plan device

-- before epoch k: the device isn't attached, and the lane keeps the end of the guest's ring and the settings. Each command begun so far
-- was given back with one byte written, its ack
pub record CommandRests {D E G X C : Type 0} (s : Setting D E G X C) (plan : Plan) (k : ℕ) (end : E) (control : Bool)
    (settings : Settings) (device : X) (v : DriverView) (w : DeviceView) : Type 0 where
  pub stands : s.device.stands end w
  pub still : IsStill s.device end
  pub of_control : control ≡ true
  pub kept : settings ≡ settings_at plan k
  pub set : s.party.settings device ≡ settings_at plan k
  pub free : s.party.attached device ≡ None
  pub taken : length (takes w.done) ≡ sent_at plan k
  pub given : length (gives w.done) ≡ sent_at plan k
  pub ones : (j : ℕ) → j < length (gives w.done) → (used_at (gives w.done) j).len ≡ 1
  pub answers : AreAnsweredTo (sent_at plan k) v w
  pub begun : length (s.party.begun device) ≡ journalled_at plan k
  pub events : AreCommandEvents s plan k device []
  pub room : HasCommandRoom s plan device
