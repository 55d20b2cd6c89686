use Rattle.std.proofs.Common.{◌≡◌, ◌+◌, ◌*◌, ◌≤◌, ℕ, true, length}
use Rattle.vd_machine.specs.File.{Plan}
use Rattle.vd_play.specs.Each.{HasLanes}
use Rattle.vd_play.specs.Journal.{tree_map}
use Rattle.vd_play.specs.Played.{KeepsBench, HasNoFault}
use Rattle.vd_play.specs.Progress.{AllInEpoch, all_made}
use Rattle.vd_play.specs.Setting.{setting_of}
use Rattle.vd_play.proofs.rounds.run_all.Given as goal

abbrev pub invariant-loop-turn : goal.invariant-loop-turn
invariant-loop-turn g l = record {
  many : length l.floor.lanes.items ≡ length l.initial.floor.lanes.items;
  tree : l.floor.tree ≡ l.initial.floor.tree;
  parties : HasLanes (length l.initial.floor.lanes.items) l.bench;
  few : l.made ≤ 96 * l.turn;
  keeps : KeepsBench g.V.Device.party (length l.initial.floor.lanes.items) l.initial.bench l.bench;
  faults : HasNoFault g.V.Device.party l.initial.bench l.bench;
  each : (plan : Plan) (k : ℕ) → l.initial.floor.tree.mappings ≡ tree_map plan → AllInEpoch
      (setting_of g.L.Driver.DriverEnd.driver g.L.Device.DeviceEnd.device g.L.Layout.layout g.G.Guest.party g.V.Device.party) plan true
      k 0 l.initial.floor.lanes.items l.initial.bench
      → AllInEpoch (setting_of g.L.Driver.DriverEnd.driver g.L.Device.DeviceEnd.device g.L.Layout.layout g.G.Guest.party
      g.V.Device.party) plan true k l.turn l.floor.lanes.items l.bench
      × (all_made
      (setting_of g.L.Driver.DriverEnd.driver g.L.Device.DeviceEnd.device g.L.Layout.layout g.G.Guest.party g.V.Device.party)
      l.floor.lanes.items l.bench ≡ all_made
      (setting_of g.L.Driver.DriverEnd.driver g.L.Device.DeviceEnd.device g.L.Layout.layout g.G.Guest.party g.V.Device.party)
      l.initial.floor.lanes.items l.initial.bench + l.made);
}
