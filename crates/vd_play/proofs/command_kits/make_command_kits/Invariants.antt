use Rattle.std.proofs.Common.{◌≡◌, ◌+◌, ◌-◌, length}
use Rattle.vd_machine.specs.File.{view}
use Rattle.vd_play.specs.ControlRings.{HasControlKits}
use Rattle.vd_play.proofs.command_kits.make_command_kits.Given as goal

abbrev pub invariant-loop-i : goal.invariant-loop-i
invariant-loop-i g l = record {
  all : l.epochs ≡ length l.m.switches + 2;
  kits : HasControlKits g.L.Driver.DriverEnd.driver g.L.Device.DeviceEnd.device g.L.Layout.layout (view l.m) (l.epochs - l.i) l.kits.items;
}
