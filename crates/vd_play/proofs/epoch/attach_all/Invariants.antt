use Rattle.std.proofs.Common.{◌≡◌, length}
use Rattle.vd_machine.specs.File.{view}
use Rattle.vd_play.specs.Setting.{setting_of}
use Rattle.vd_play.proofs.Attaches.{HasAttached}
use Rattle.vd_play.proofs.epoch.attach_all.Given as goal

abbrev pub invariant-loop-i : goal.invariant-loop-i
invariant-loop-i g l = record {
  many : length l.floor.lanes.items ≡ length l.initial.floor.lanes.items;
  tree : l.floor.tree ≡ l.initial.floor.tree;
  attached : HasAttached
      (setting_of g.L.Driver.DriverEnd.driver g.L.Device.DeviceEnd.device g.L.Layout.layout g.G.Guest.party g.V.Device.party)
      (view l.m) l.epoch l.initial.floor.lanes.items l.initial.bench l.i l.floor.lanes.items l.bench l.bus;
}
