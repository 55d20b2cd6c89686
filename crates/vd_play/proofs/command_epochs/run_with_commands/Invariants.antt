use Rattle.std.proofs.Common.{◌≡◌, ◌+◌, ◌*◌, ◌≤◌, ℕ, true, length}
use Rattle.vd_machine.specs.File.{Plan}
use Rattle.vd_play.specs.CommandEpochs.{CommandsIn, made_of_all}
use Rattle.vd_play.specs.CommandProgress.Next.{guests}
use Rattle.vd_play.specs.Each.{HasLanes}
use Rattle.vd_play.specs.Journal.{tree_map}
use Rattle.vd_play.specs.Played.{KeepsBench, HasNoFault}
use Rattle.vd_play.specs.Progress.{AllInEpoch}
use Rattle.vd_play.specs.Setting.{setting_of}
use Rattle.vd_play.proofs.command_epochs.run_with_commands.Given as goal

abbrev pub invariant-loop-turn : goal.invariant-loop-turn
invariant-loop-turn g l = record {
  many : length l.floor.lanes.items ≡ length l.initial.floor.lanes.items;
  tree : l.floor.tree ≡ l.initial.floor.tree;
  parties : HasLanes (length l.initial.floor.lanes.items + 1) l.bench;
  few : l.made ≤ 108 * l.turn;
  keeps : KeepsBench g.V.Device.party (length l.initial.floor.lanes.items + 1) l.initial.bench l.bench;
  faults : HasNoFault g.V.Device.party l.initial.bench l.bench;
  each : (plan : Plan) (k r : ℕ) → l.initial.floor.tree.mappings ≡ tree_map plan
      → AllInEpoch (setting_of g.L.Driver.DriverEnd.driver g.L.Device.DeviceEnd.device g.L.Layout.layout g.G.Guest.party g.V.Device.party) plan true k 0 l.initial.floor.lanes.items l.initial.bench
      → CommandsIn (setting_of g.L.Driver.DriverEnd.driver g.L.Device.DeviceEnd.device g.L.Layout.layout g.G.Guest.party g.V.Device.party) plan guests true k r (length l.initial.floor.lanes.items) l.initial.lane l.initial.bench
      → AllInEpoch (setting_of g.L.Driver.DriverEnd.driver g.L.Device.DeviceEnd.device g.L.Layout.layout g.G.Guest.party g.V.Device.party) plan true k l.turn l.floor.lanes.items l.bench
      × CommandsIn (setting_of g.L.Driver.DriverEnd.driver g.L.Device.DeviceEnd.device g.L.Layout.layout g.G.Guest.party g.V.Device.party) plan guests true k (r + l.turn) (length l.initial.floor.lanes.items) l.lane l.bench
      × (made_of_all (setting_of g.L.Driver.DriverEnd.driver g.L.Device.DeviceEnd.device g.L.Layout.layout g.G.Guest.party g.V.Device.party) l.floor.lanes.items l.lane l.bench
      ≡ made_of_all (setting_of g.L.Driver.DriverEnd.driver g.L.Device.DeviceEnd.device g.L.Layout.layout g.G.Guest.party g.V.Device.party) l.initial.floor.lanes.items l.initial.lane l.initial.bench + l.made);
}
