-- What the play of a control queue leaves of its parties, as the report takes it.
use Rattle.std.specs.Prelude.{◌≡◌, ◌+◌, length, slice_get, Some}
use Rattle.vd_machine.specs.File.{Plan}
use Rattle.vd_play.specs.Commands.{control_commands, settings_of, AreAnswered}
use Rattle.vd_play.specs.Each.{HasLanes}
use Rattle.vd_play.specs.Setting.{Setting}
use Rattle.vd_play.specs.declared.bench.Bench.{Bench}

-- the guest and the device of the control queue stand behind those of the data queues. Each command came back to the guest once,
-- with its ack, and the device has set what all of them set
pub record HasControlPlayed {D E G X C : Type 0} (s : Setting D E G X C) (plan : Plan) (bench : Bench G X) : Type 0 where
  pub parties : HasLanes (length plan.queues + 1) bench
  pub answered : (guest : G) → slice_get bench.guests.items (length plan.queues) ≡ Some guest
      → AreAnswered plan.features.in_order (control_commands plan) (s.guest.returned guest)
  pub settings : (device : X) → slice_get bench.devices.items (length plan.queues) ≡ Some device
      → s.party.settings device ≡ settings_of plan
