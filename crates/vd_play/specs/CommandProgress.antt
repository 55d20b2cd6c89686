-- How far the control queue's lane is: what it keeps, and apart from it how many steps its parties have made. A round is the guest's turn,
-- the relay's and then the device's.
use Rattle.std.specs.Prelude.{◌≡◌, ◌⊎◌, ℕ, ◌+◌, ◌*◌, ◌≤◌, Bool, true, false, Option, Some, None, List, length}
use Rattle.vd_words.specs.Plain.{RingWords}
use Rattle.vd_ring.specs.declared.driver.DriverView.{DriverView}
use Rattle.vd_ring.specs.declared.device.DeviceView.{DeviceView}
use Rattle.vd_ring.specs.History.{takes}
use Rattle.vd_ring.specs.Sleep.{DriverWaits, DeviceWaits, driver_hearings, device_hearings}
use Rattle.vd_layout.specs.declared.device.DeviceEnd as device_end
use Rattle.vd_layout.specs.declared.driver.DriverEnd as driver_end
use Rattle.vd_layout.specs.declared.layout.Layout as layout
use Rattle.vd_control.specs.declared.settings.Settings.{Settings}
use Rattle.vd_bus.specs.Pace.{attaches}
use Rattle.vd_relay.specs.declared.control.Control.{Control}
use Rattle.vd_relay.specs.declared.control.Mode.TheVariants.{Replaying}
use Rattle.vd_relay.specs.declared.counts.Counts.{Counts}
use Rattle.vd_relay.specs.declared.replay.ReplayStage.TheVariants.{Hearing}
use Rattle.vd_relay.specs.declared.state.State.{State}
use Rattle.vd_relay.specs.Stages.{is_rested}
use Rattle.vd_switch.specs.declared.still.Still.{Still}
use Rattle.vd_switch.specs.Controlling.{ControlStart}
use Rattle.vd_machine.specs.File.{Plan}
use Rattle.vd_turns.specs.RelayTurns.{HalfWaits, did}
use Rattle.vd_play.specs.declared.command_lane.CommandLane.{CommandLane}
use Rattle.vd_play.specs.declared.floor.Relaying.{Relaying}
use Rattle.vd_play.specs.AllWork.{command_work}
use Rattle.vd_play.specs.Commands.{control_commands, sent_at}
use Rattle.vd_play.specs.CommandLane.{AreCommandsKept, CommandRests}
use Rattle.vd_play.specs.CommandShadowed.{AreCommandsRelayed, ServesCommands, HasServedCommands}
use Rattle.vd_play.specs.ControlJournal.{journalled_at}
use Rattle.vd_play.specs.ControlRings.{HasControlKits}
use Rattle.vd_play.specs.Progress.{If, steps, guest_bound, device_bound}
use Rattle.vd_play.specs.Setting.{Setting}

-- ---- steps that were no looks of a sleeper

-- at most so many of the relays before epoch k, which heard so many bells: a relay takes, offers, collects and gives each command that is
-- begun, and may take and offer as many more as the ring has places
abbrev pub command_relays_bound : Plan → ℕ → ℕ → ℕ
command_relays_bound plan k heard = 64 * (4 * journalled_at plan k + (2 * plan.size + 1) * k + heard)

-- so many bells at most were stored on the shadow rings before epoch k: one for each command offered there, and one for each given
abbrev pub command_bells_before : Plan → ℕ → ℕ
command_bells_before plan k = 2 * journalled_at plan k + plan.size * k

-- ---- pace

-- the bells that the guest heard are in its view, and guest and device have kept their pace
pub record AreCommandsPaced {D E G X C : Type 0} (s : Setting D E G X C) (plan : Plan) (most : ℕ) (guest : G) (device : X) (v : DriverView)
    : Type 0 where
  pub guest_heard : s.guest.heard guest ≤ driver_hearings v
  pub guest_low : s.guest.accesses guest ≤ guest_bound (length (control_commands plan))
  pub device_low : s.party.accesses device
      ≤ device_bound (command_work plan) (s.party.heard device) (attaches (s.party.events device))
  pub times : attaches (s.party.events device) ≤ most

-- the bells that the device and the relays before epoch k heard, `relays` of them the relays, are in the view of the end that rests, or
-- were stored on shadow rings; and those relays have kept their pace
pub record AreCommandsHeard {D E G X C : Type 0} (s : Setting D E G X C) (plan : Plan) (k relayed : ℕ) (device : X) (w : DeviceView)
    : Type 0 where
  pub relays : ℕ
  pub heard : s.party.heard device + relays ≤ device_hearings w + command_bells_before plan k
  pub low : relayed ≤ command_relays_bound plan k relays

-- the bells that the device and all relays heard are in the three views that listen, or were stored on shadow rings before; and the
-- relay has taken, offered, collected and given what stands on its two rings
pub record HasCommandRelayHeard {D E G X C : Type 0} (s : Setting D E G X C) (plan : Plan) (k relayed : ℕ) (r : State E D) (c : Counts)
    (device : X) (v : DriverView) (w : DeviceView) (sv : DriverView) (sw : DeviceView) : Type 0 where
  pub relays : ℕ
  pub before : ℕ
  pub heard : s.party.heard device + relays + c.heard
      ≤ device_hearings w + driver_hearings sv + device_hearings sw + command_bells_before plan k
  pub low : before ≤ command_relays_bound plan k relays
  pub counted : relayed ≡ before + c.accesses
  pub handled : c.handled + 2 * sent_at plan k ≤ did r v w sv
  pub pace : c.accesses ≤ 64 * (c.handled + c.heard + 1)

-- ---- rounds: of two in a row one has made a step that was no look

-- whose turn is next
pub data Next : Type 0 where
  guests relays devices : Next

-- how many rounds a still lane has had, after so many whole ones: of the next its guest alone has a turn
abbrev pub rounds_until : Next → ℕ → ℕ
rounds_until guests n = n
rounds_until relays n = n + 1
rounds_until devices n = n + 1

-- the guest is done, or sleeps without a signal
abbrev pub IsQuietGuest : {D E G X C : Type 0} → Setting D E G X C → G → DriverView → DeviceView → Type 0
IsQuietGuest s guest v w = s.guest.is_done guest ⊎ DriverWaits v w

-- the relay sleeps: a replay without a signal, after a round with a step; one that carries has heard one end without a signal, or both in
-- two rounds
abbrev pub IsQuietRelay : {E D : Type 0} → ℕ → ℕ → State E D → Control → DriverView → DeviceView → DriverView → DeviceView → Type 0
IsQuietRelay n made r control v w sv sw =
    ((n ≤ 2 * made) × (control.mode ≡ Replaying) × (control.replay.stage ≡ Hearing) × DriverWaits sv sw)
    ⊎ (HalfWaits r.stage v w sv sw × ((n ≤ 2 * made) ⊎ ((n ≤ 2 * made + 1) × DeviceWaits v w × DriverWaits sv sw)))

-- after n whole rounds, while the relay doesn't wind up. In the round before all may have looked, and so may those of the next that had
-- their turn
abbrev pub ShadowRounds : {D E G X C : Type 0} → Next → Setting D E G X C → ℕ → ℕ → State E D → Control → G → DriverView → DeviceView
    → DriverView → DeviceView → Type 0
ShadowRounds guests s n made r control guest v w sv sw = (n ≤ 2 * made) ⊎ ((n ≤ 2 * made + 1) × HalfWaits r.stage v w sv sw)
ShadowRounds relays s n made r control guest v w sv sw = (n + 1 ≤ 2 * made)
    ⊎ (IsQuietGuest s guest v w × ((n ≤ 2 * made) ⊎ ((n ≤ 2 * made + 1) × HalfWaits r.stage v w sv sw)))
ShadowRounds devices s n made r control guest v w sv sw = (n + 1 ≤ 2 * made)
    ⊎ (IsQuietGuest s guest v w × IsQuietRelay n made r control v w sv sw)

-- a relay that winds up never looks
abbrev pub WindingRounds : Next → ℕ → ℕ → Type 0
WindingRounds devices n made = n + 1 ≤ 2 * made
WindingRounds _ n made = n ≤ 2 * made + 1

-- ---- the lane

-- before epoch k; where all commands were taken, of two rounds one has made a step that was no look, or the guest is done
pub record IsCommandStopped {D E G X C : Type 0} (s : Setting D E G X C) (plan : Plan) (k r : ℕ) (words : RingWords) (end : E)
    (control : Bool) (settings : Settings) (relayed : ℕ) (guest : G) (device : X) : Type 0 where
  pub view : DriverView
  pub device_view : DeviceView
  pub kept : AreCommandsKept s plan k words guest device view device_view
  pub rests : CommandRests s plan k end control settings device view device_view
  pub paced : AreCommandsPaced s plan k guest device view
  pub heard : AreCommandsHeard s plan k relayed device device_view
  pub early : k ≤ 18
  pub late : length (control_commands plan) ≤ length (takes device_view.done)
      → s.guest.is_done guest ⊎ (r ≤ 2 * steps s relayed guest device + 1)

-- in epoch k, the device attached to the shadow ring
pub record IsCommandShadowing {D E G X C : Type 0} (s : Setting D E G X C) (plan : Plan) (next : Next) (k n : ℕ) (words : RingWords)
    (shadow_words : List ℕ) (r : State E D) (control : Control) (settings : Settings) (c : Counts) (relayed : ℕ) (guest : G) (device : X)
    : Type 0 where
  pub start : ControlStart
  pub view : DriverView
  pub device_view : DeviceView
  pub shadow_view : DriverView
  pub shadow_device_view : DeviceView
  pub kept : AreCommandsRelayed s plan k words shadow_words r control settings c guest device start view device_view shadow_view
      shadow_device_view
  pub serves : ServesCommands s plan k device start shadow_device_view
  pub awake : (r.winding ≡ false) × (is_rested r.stage ≡ false)
  pub paced : AreCommandsPaced s plan (k + 1) guest device view
  pub heard : HasCommandRelayHeard s plan k relayed r c device view device_view shadow_view shadow_device_view
  pub rounds : ShadowRounds next s n (steps s relayed guest device) r control guest view device_view shadow_view shadow_device_view

-- the device is suspended, and the relay winds up
pub record IsCommandWinding {D E G X C : Type 0} (s : Setting D E G X C) (plan : Plan) (next : Next) (k n : ℕ) (words : RingWords)
    (shadow_words : List ℕ) (r : State E D) (control : Control) (settings : Settings) (c : Counts) (relayed : ℕ) (guest : G) (device : X)
    : Type 0 where
  pub start : ControlStart
  pub view : DriverView
  pub device_view : DeviceView
  pub shadow_view : DriverView
  pub shadow_device_view : DeviceView
  pub kept : AreCommandsRelayed s plan k words shadow_words r control settings c guest device start view device_view shadow_view
      shadow_device_view
  pub served : HasServedCommands s plan k device
  pub winds : (r.winding ≡ true) × (is_rested r.stage ≡ false)
  pub paced : AreCommandsPaced s plan (k + 1) guest device view
  pub heard : HasCommandRelayHeard s plan k relayed r c device view device_view shadow_view shadow_device_view
  pub rounds : WindingRounds next n (steps s relayed guest device)

-- by whether its relay winds up; it is one of a control queue
abbrev pub CommandRelayingBy : {D E G X C : Type 0} → Option Control → Bool → Setting D E G X C → Plan → Next → ℕ → ℕ → RingWords
    → List ℕ → State E D → Settings → Counts → ℕ → G → X → Type 0
CommandRelayingBy (Some control) false s plan next k n words shadow_words r settings c relayed guest device =
    IsCommandShadowing s plan next k n words shadow_words r control settings c relayed guest device
CommandRelayingBy (Some control) true s plan next k n words shadow_words r settings c relayed guest device =
    IsCommandWinding s plan next k n words shadow_words r control settings c relayed guest device
CommandRelayingBy None winding s plan next k n words shadow_words r settings c relayed guest device = ⊥

abbrev pub IsCommandRelaying : {L D E G X C : Type 0} → Setting D E G X C → Plan → Next → ℕ → ℕ → RingWords → Relaying L D E → ℕ → G → X
    → Type 0
IsCommandRelaying s plan next k n words x relayed guest device =
    CommandRelayingBy x.lane.relay.control x.lane.relay.state.winding s plan next k n words x.words.words x.lane.relay.state
    x.lane.relay.settings x.lane.relay.counts relayed guest device

module _ {L D E G X C : Type 0} {a : layout.Ghosts L D E} {b : driver_end.Ghosts D} {c : device_end.Ghosts E} (s : Setting D E G X C)
    (plan : Plan) where
  -- before epoch k, the lane holding what a stop left, and no relay
  abbrev pub CommandStoppedWith : ℕ → RingWords → Option (Still L D E a b c) → Option (Relaying L D E) → ℕ → G → X → Type 0
  CommandStoppedWith k words (Some still) None relayed guest device =
      IsCommandStopped s plan k 0 words still.end still.control still.settings relayed guest device
  CommandStoppedWith k words _ _ relayed guest device = ⊥

  -- in epoch k after n rounds, with whose turn is next, the lane holding what a stop left or none, and this relay or none. Where a device
  -- may be attached still the lane is shadowing; else none is
  abbrev pub InCommandRoundWith : Next → Bool → ℕ → ℕ → RingWords → Option (Still L D E a b c) → Option (Relaying L D E) → ℕ → G → X
      → Type 0
  InCommandRoundWith next on k n words None (Some x) relayed guest device =
      If on (IsCommandRelaying s plan next k n words x relayed guest device)
  InCommandRoundWith next on k n words (Some still) None relayed guest device = IsCommandStopped s plan (k + 1) (rounds_until next n) words
      still.end still.control still.settings relayed guest device
  InCommandRoundWith next on k n words _ _ relayed guest device = ⊥

  -- the lane is still before epoch k, and has the shadow rings from there on
  pub record CommandStopped (k : ℕ) (lane : CommandLane L D E a b c) (guest : G) (device : X) : Type 0 where
    pub held : CommandStoppedWith k lane.words lane.still lane.relaying lane.relayed guest device
    pub kits : HasControlKits s.driver s.device s.layout plan k lane.kits.items

  -- the lane is shadowing in epoch k, unless it is closed, or has come to its end; it has the shadow rings behind that. In the round after
  -- the n-th this one's turn is next
  pub record InCommandRound (next : Next) (on : Bool) (k n : ℕ) (lane : CommandLane L D E a b c) (guest : G) (device : X) : Type 0 where
    pub held : InCommandRoundWith next on k n lane.words lane.still lane.relaying lane.relayed guest device
    pub kits : HasControlKits s.driver s.device s.layout plan (k + 1) lane.kits.items

  -- between two rounds
  abbrev pub InCommandEpoch : Bool → ℕ → ℕ → CommandLane L D E a b c → G → X → Type 0
  InCommandEpoch on k n lane guest device = InCommandRound guests on k n lane guest device
