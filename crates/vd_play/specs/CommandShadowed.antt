-- What holds of the control queue's lane in an epoch: a relay stands between the guest's ring and the epoch's shadow ring.
use Rattle.std.specs.Prelude.{◌≡◌, ℕ, ◌+◌, ◌<◌, List, [], length, map, take, Some, None, if◌then◌else◌}
use Rattle.vd_words.specs.Plain.{RingWords}
use Rattle.vd_ring.specs.declared.driver.DriverView.{DriverView}
use Rattle.vd_ring.specs.declared.device.DeviceView.{DeviceView}
use Rattle.vd_control.specs.declared.settings.Settings.{Settings}
use Rattle.vd_control.specs.Settings.{default}
use Rattle.vd_bus.specs.Orders.{IsControl}
use Rattle.vd_relay.specs.declared.control.Control.{Control}
use Rattle.vd_relay.specs.declared.counts.Counts.{Counts}
use Rattle.vd_relay.specs.declared.state.State.{State}
use Rattle.vd_switch.specs.Controlling.{ControlStart}
use Rattle.vd_turns.specs.ControlTurns.{IsControlLane}
use Rattle.vd_machine.specs.File.{Plan}
use Rattle.vd_play.specs.CommandLane.{IsCommandDriven, IsCommandAccount, AreCommandsReserved, AreCommandEvents, HasCommandRoom, command_attached}
use Rattle.vd_play.specs.Commands.{control_commands, control_epochs, sent_at, settings_at}
use Rattle.vd_play.specs.ControlJournal.{journalled_at}
use Rattle.vd_play.specs.ControlRings.{control_shadow_frame}
use Rattle.vd_play.specs.Epochs.{renewed_at}
use Rattle.vd_play.specs.Setting.{Setting}

-- where the lane stood as epoch k began: its relay took over where all commands begun before were given back, and replays what they have
-- set after a renewal, which has reset the device. The device is attached to begin the epoch's commands
pub record IsCommandStart (plan : Plan) (k : ℕ) (x : ControlStart) : Type 0 where
  pub settings : x.opening.settings ≡ settings_at plan k
  pub replays : x.opening.replays ≡ renewed_at plan k
  pub taken : length x.opening.takes ≡ sent_at plan k
  pub given : length x.opening.gives ≡ sent_at plan k
  pub old : x.old ≡ map (λ b. (b, 1)) (take (sent_at plan k) (control_commands plan))
  pub at : x.by.at ≡ journalled_at plan k
  pub to : x.by.at + x.by.count ≡ journalled_at plan (k + 1)
  pub set : x.settings ≡ (if renewed_at plan k then default else settings_at plan k)

-- the guest's part, the account, what was reserved, and the parts of relay and device on their two rings
pub record AreCommandsRelayed {D E G X C : Type 0} (s : Setting D E G X C) (plan : Plan) (k : ℕ) (words : RingWords)
    (shadow_words : List ℕ) (r : State E D) (control : Control) (settings : Settings) (c : Counts) (guest : G) (device : X)
    (x : ControlStart) (v : DriverView) (w : DeviceView) (sv : DriverView) (sw : DeviceView) : Type 0 where
  pub epoch : k < length (control_epochs plan)
  pub driven : IsCommandDriven s plan words guest v w
  pub account : IsCommandAccount plan k (s.party.begun device)
  pub reserved : AreCommandsReserved s plan device
  pub framed : sv.frame ≡ control_shadow_frame s.layout plan k
  pub start : IsCommandStart plan k x
  pub lane : IsControlLane s.layout s.device s.driver x (s.party.begun device) (s.party.settings device) words.words shadow_words v w sv sw
      r control settings c

-- the device's part: it is attached to the shadow ring, to begin the epoch's commands, and not yet done
pub record ServesCommands {D E G X C : Type 0} (s : Setting D E G X C) (plan : Plan) (k : ℕ) (device : X) (x : ControlStart)
    (sw : DeviceView) : Type 0 where
  pub holds : s.party.holds device sw
  pub attached : s.party.attached device ≡ Some x.by
  pub for_control : IsControl x.by.queue
  pub attached_with : s.party.attached_with device ≡ x.settings
  pub events : AreCommandEvents s plan k device (command_attached s.layout plan k)
  pub room : HasCommandRoom s plan device
  pub live : s.party.is_done device → ⊥

-- the device was suspended, once it had begun the epoch's commands
pub record HasServedCommands {D E G X C : Type 0} (s : Setting D E G X C) (plan : Plan) (k : ℕ) (device : X) : Type 0 where
  pub free : s.party.attached device ≡ None
  pub begun : length (s.party.begun device) ≡ journalled_at plan (k + 1)
  pub events : AreCommandEvents s plan (k + 1) device []
  pub room : HasCommandRoom s plan device
