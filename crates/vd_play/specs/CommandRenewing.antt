-- The control queue's lane as an epoch begins: before its device is attached, and where that was refused.
use Rattle.std.specs.Prelude.{ℕ}
use Rattle.vd_layout.specs.declared.device.DeviceEnd as device_end
use Rattle.vd_layout.specs.declared.driver.DriverEnd as driver_end
use Rattle.vd_layout.specs.declared.layout.Layout as layout
use Rattle.vd_machine.specs.File.{Plan}
use Rattle.vd_play.specs.declared.command_lane.CommandLane.{CommandLane}
use Rattle.vd_play.specs.CommandProgress.{CommandStopped}
use Rattle.vd_play.specs.Epochs.{renewed_at}
use Rattle.vd_play.specs.Renewing.{IsRenewed}
use Rattle.vd_play.specs.Setting.{Setting}

module _ {L D E G X C : Type 0} {a : layout.Ghosts L D E} {b : driver_end.Ghosts D} {c : device_end.Ghosts E} where
  -- the lane is still before epoch k, and its device was reset where the epoch begins with a renewal
  pub record CommandRenewed (s : Setting D E G X C) (plan : Plan) (k : ℕ) (lane : CommandLane L D E a b c) (guest : G) (device : X)
      : Type 0 where
    pub before : X
    pub stopped : CommandStopped s plan k lane guest before
    pub renewed : IsRenewed s.party (renewed_at plan k) before device
