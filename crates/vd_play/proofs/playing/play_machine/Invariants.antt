use Rattle.std.proofs.Common.{◌≡◌, ◌*◌, ◌≤◌, length}
use Rattle.vd_machine.specs.File.{view}
use Rattle.vd_play.specs.Each.{HasLanes}
use Rattle.vd_play.specs.Played.{KeepsBench, HasNoFault}
use Rattle.vd_play.specs.Progress.{AllStopped, all_made}
use Rattle.vd_play.specs.Setting.{setting_of}
use Rattle.vd_play.specs.Setup.{IsBefore}
use Rattle.vd_play.specs.Tree.{IsLaid}
use Rattle.vd_play.proofs.playing.play_machine.Given as goal

abbrev pub invariant-loop-epoch : goal.invariant-loop-epoch
invariant-loop-epoch g l = record {
  many : length l.floor.lanes.items ≡ length l.m.queues;
  tree : IsLaid (view l.m) l.floor.tree.mappings;
  parties : HasLanes (length l.m.queues) l.bench;
  few : l.made ≤ 412316860416 * l.epoch;
  keeps : KeepsBench g.V.Device.party (length l.m.queues) l.initial.bench l.bench;
  faults : HasNoFault g.V.Device.party l.initial.bench l.bench;
  counted : all_made (setting_of g.L.Driver.DriverEnd.driver g.L.Device.DeviceEnd.device g.L.Layout.layout g.G.Guest.party
      g.V.Device.party) l.floor.lanes.items l.bench ≡ l.made;
  before : IsBefore (view l.m) l.epoch l.bus;
  each : AllStopped (setting_of g.L.Driver.DriverEnd.driver g.L.Device.DeviceEnd.device g.L.Layout.layout g.G.Guest.party
      g.V.Device.party) (view l.m) l.epoch l.floor.lanes.items l.bench;
}
