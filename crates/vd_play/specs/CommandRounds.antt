-- What a round leaves of the control queue's lane, turn by turn.
use Rattle.std.specs.Prelude.{◌≡◌, ℕ, ◌+◌, Bool, true, false, Option, Some, None}
use Rattle.vd_layout.specs.declared.device.DeviceEnd as device_end
use Rattle.vd_layout.specs.declared.driver.DriverEnd as driver_end
use Rattle.vd_layout.specs.declared.layout.Layout as layout
use Rattle.vd_machine.specs.File.{Plan}
use Rattle.vd_relay.specs.Modes.{has_replayed}
use Rattle.vd_play.specs.declared.command_lane.CommandLane.{CommandLane}
use Rattle.vd_play.specs.declared.floor.Relaying.{Relaying}
use Rattle.vd_play.specs.Commands.{settings_at}
use Rattle.vd_play.specs.CommandProgress.{InCommandRound}
use Rattle.vd_play.specs.CommandProgress.Next.{guests, relays, devices}
use Rattle.vd_play.specs.Progress.{steps}
use Rattle.vd_play.specs.Setting.{Setting}

-- all of an epoch's replay is acknowledged: its relay says so, or the lane has come to the epoch's end
abbrev pub is_replayed : {L D E : Type 0} → Option (Relaying L D E) → Bool
is_replayed None = true
is_replayed (Some x) = has_replayed x.lane.relay.control

module _ {L D E G X C : Type 0} {a : layout.Ghosts L D E} {b : driver_end.Ghosts D} {c : device_end.Ghosts E} (s : Setting D E G X C)
    (plan : Plan) where
  -- the guest has had its turn, with so many steps that were no looks
  abbrev pub CommandGuestGoes : CommandLane L D E a b c → CommandLane L D E a b c → G → G → ℕ → Type 0
  CommandGuestGoes lane lane' guest guest' made = (on : Bool) (k n : ℕ) (device : X)
      → InCommandRound s plan guests on k n lane guest device → InCommandRound s plan relays on k n lane' guest' device
      × (steps s lane'.relayed guest' device ≡ steps s lane.relayed guest device + made)

  -- then the relay, if there is one
  abbrev pub CommandRelayGoes : CommandLane L D E a b c → CommandLane L D E a b c → ℕ → Type 0
  CommandRelayGoes lane lane' made = (on : Bool) (k n : ℕ) (guest : G) (device : X)
      → InCommandRound s plan relays on k n lane guest device → InCommandRound s plan devices on k n lane' guest device
      × (steps s lane'.relayed guest device ≡ steps s lane.relayed guest device + made)

  -- then the device, if it is attached: the lane is one round further
  abbrev pub CommandDeviceGoes : CommandLane L D E a b c → CommandLane L D E a b c → X → X → ℕ → Type 0
  CommandDeviceGoes lane lane' device device' made = (on : Bool) (k n : ℕ) (guest : G)
      → InCommandRound s plan devices on k n lane guest device → InCommandRound s plan guests on k (n + 1) lane' guest device'
      × (steps s lane'.relayed guest device' ≡ steps s lane.relayed guest device + made)

  -- where the replay has come to its end by this turn of the relay, the device has begun all of it and nothing behind it: it has set what
  -- the commands before the epoch have set
  abbrev pub CommandsReplayed : CommandLane L D E a b c → CommandLane L D E a b c → Type 0
  CommandsReplayed lane lane' = (on : Bool) (k n : ℕ) (guest : G) (device : X) → InCommandRound s plan relays on k n lane guest device
      → is_replayed lane.relaying ≡ false → is_replayed lane'.relaying ≡ true → s.party.settings device ≡ settings_at plan k

  -- a round of all three
  abbrev pub CommandGoes : CommandLane L D E a b c → CommandLane L D E a b c → G → G → X → X → ℕ → Type 0
  CommandGoes lane lane' guest guest' device device' made = (on : Bool) (k n : ℕ) → InCommandRound s plan guests on k n lane guest device
      → InCommandRound s plan guests on k (n + 1) lane' guest' device'
      × (steps s lane'.relayed guest' device' ≡ steps s lane.relayed guest device + made)
