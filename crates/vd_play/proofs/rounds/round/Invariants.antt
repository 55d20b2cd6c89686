use Rattle.std.proofs.Common.{◌≡◌, ◌+◌, ◌*◌, ◌≤◌, ℕ, Bool, length}
use Rattle.vd_machine.specs.File.{Plan}
use Rattle.vd_play.specs.Each.{EachLane, Stage, HasLanes}
use Rattle.vd_play.specs.Journal.{tree_map}
use Rattle.vd_play.specs.Played.{KeepsBench, HasNoFault}
use Rattle.vd_play.specs.Progress.{InEpoch, AllInEpoch, all_made}
use Rattle.vd_play.specs.Setting.{setting_of}
use Rattle.vd_play.proofs.rounds.round.Given as goal

abbrev pub invariant-loop-i : goal.invariant-loop-i
invariant-loop-i g l = record {
  many : length l.floor.lanes.items ≡ length l.initial.floor.lanes.items;
  tree : l.floor.tree ≡ l.initial.floor.tree;
  parties : HasLanes (length l.initial.floor.lanes.items) l.bench;
  few : l.made ≤ 12 * l.i;
  keeps : KeepsBench g.V.Device.party (length l.initial.floor.lanes.items) l.initial.bench l.bench;
  faults : HasNoFault g.V.Device.party l.initial.bench l.bench;
  each : (plan : Plan) (on : Bool) (k r : ℕ) → l.initial.floor.tree.mappings ≡ tree_map plan
      → AllInEpoch (setting_of g.L.Driver.DriverEnd.driver g.L.Device.DeviceEnd.device g.L.Layout.layout g.G.Guest.party
      g.V.Device.party) plan on k r l.initial.floor.lanes.items l.initial.bench
      → EachLane (Stage l.i (λ q a b x. InEpoch
      (setting_of g.L.Driver.DriverEnd.driver g.L.Device.DeviceEnd.device g.L.Layout.layout g.G.Guest.party g.V.Device.party) plan q
      on k (r + 1) a b x) (λ q a b x. InEpoch
      (setting_of g.L.Driver.DriverEnd.driver g.L.Device.DeviceEnd.device g.L.Layout.layout g.G.Guest.party g.V.Device.party) plan q
      on k r a b x)) l.floor.lanes.items l.bench.guests.items l.bench.devices.items
      × (all_made
      (setting_of g.L.Driver.DriverEnd.driver g.L.Device.DeviceEnd.device g.L.Layout.layout g.G.Guest.party g.V.Device.party)
      l.floor.lanes.items l.bench ≡ all_made
      (setting_of g.L.Driver.DriverEnd.driver g.L.Device.DeviceEnd.device g.L.Layout.layout g.G.Guest.party g.V.Device.party)
      l.initial.floor.lanes.items l.initial.bench + l.made);
}
