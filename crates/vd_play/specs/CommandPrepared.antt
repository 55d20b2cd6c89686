-- What prepare leaves of the control queue.
use Rattle.std.specs.Prelude.{◌≡◌, ℕ, ◌<◌, Option, Some, None, IsSomeAnd, slice_get}
use Rattle.vd_layout.specs.declared.device.DeviceEnd as device_end
use Rattle.vd_layout.specs.declared.driver.DriverEnd as driver_end
use Rattle.vd_layout.specs.declared.layout.Layout as layout
use Rattle.vd_control.specs.Settings.{default}
use Rattle.vd_bus.specs.Device.{DeviceParty}
use Rattle.vd_bus.specs.Guest.{GuestParty}
use Rattle.vd_machine.specs.File.{Plan}
use Rattle.vd_play.specs.declared.bench.Bench.{Bench}
use Rattle.vd_play.specs.declared.command_lane.CommandLane.{CommandLane}
use Rattle.vd_play.specs.CommandProgress.{CommandStopped}
use Rattle.vd_play.specs.Each.{HasLanes}
use Rattle.vd_play.specs.Places.{HasControl, queue_total, control_place}
use Rattle.vd_play.specs.Prepared.{IsEmptyDevice, IsEmptyGuest}
use Rattle.vd_play.specs.Setting.{Setting}

-- the guest and the device at the place of the control queue are as they were handed in, the device's settings the default
pub record IsEmptyPlace {G X C : Type 0} (g : GuestParty G) (m : DeviceParty X C) (plan : Plan) (bench : Bench G X) : Type 0 where
  pub guest : (x : G) → slice_get bench.guests.items (control_place plan) ≡ Some x → IsEmptyGuest g x
  pub device : (x : X) → slice_get bench.devices.items (control_place plan) ≡ Some x
      → IsEmptyDevice m x × (m.settings x ≡ default)

-- the parties of the first n queues are as they were
pub record KeepsFirst {G X : Type 0} (n : ℕ) (old new : Bench G X) : Type 0 where
  pub guests : (k : ℕ) → k < n → slice_get new.guests.items k ≡ slice_get old.guests.items k
  pub devices : (k : ℕ) → k < n → slice_get new.devices.items k ≡ slice_get old.devices.items k

-- the control queue has a lane exactly where the machine has such a queue. Its guest's ring has no chains; its guest, at the control
-- queue's place, holds the driver's end and has loaded the commands, its device's end rests in the lane, and its device's journal is
-- empty and has room for all that the machine orders
pub record AreCommandsPrepared {L D E G X C : Type 0} {a : layout.Ghosts L D E} {b : driver_end.Ghosts D} {c : device_end.Ghosts E}
    (s : Setting D E G X C) (plan : Plan) (control : Option (CommandLane L D E a b c)) (bench : Bench G X) : Type 0 where
  pub none : plan.control ≡ None → control ≡ None
  pub some : HasControl plan → IsSomeAnd control (λ lane. (guest : G) (device : X)
      → slice_get bench.guests.items (control_place plan) ≡ Some guest → slice_get bench.devices.items (control_place plan) ≡ Some device
      → CommandStopped s plan 0 lane guest device × (lane.relayed ≡ 0))
  pub parties : HasLanes (queue_total plan) bench
