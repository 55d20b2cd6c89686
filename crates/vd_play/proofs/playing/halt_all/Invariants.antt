use Rattle.std.proofs.Common.{◌≡◌, ℕ, false, length}
use Rattle.vd_machine.specs.File.{Plan}
use Rattle.vd_play.specs.Each.{EachLane, Stage, HasLanes}
use Rattle.vd_play.specs.Played.{KeepsBench, IsPlayed}
use Rattle.vd_play.specs.Progress.{InEpoch, AllInEpoch, all_steps}
use Rattle.vd_play.specs.Rounds.{IsLast}
use Rattle.vd_play.specs.Setting.{setting_of}
use Rattle.vd_play.proofs.playing.halt_all.Given as goal

abbrev pub invariant-loop-i : goal.invariant-loop-i
invariant-loop-i g l = record {
  parties : HasLanes (length l.floor.lanes.items) l.bench;
  keeps : KeepsBench g.V.Device.party (length l.floor.lanes.items) l.initial.bench l.bench;
  devices : l.bench.devices ≡ l.initial.bench.devices;
  counted : all_steps (setting_of g.L.Driver.DriverEnd.driver g.L.Device.DeviceEnd.device g.L.Layout.layout g.G.Guest.party
      g.V.Device.party) l.bench ≡ all_steps
      (setting_of g.L.Driver.DriverEnd.driver g.L.Device.DeviceEnd.device g.L.Layout.layout g.G.Guest.party g.V.Device.party)
      l.initial.bench;
  each : (plan : Plan) (k r : ℕ) → IsLast plan k
      → AllInEpoch (setting_of g.L.Driver.DriverEnd.driver g.L.Device.DeviceEnd.device g.L.Layout.layout g.G.Guest.party
      g.V.Device.party) plan false k r l.floor.lanes.items l.initial.bench
      → EachLane (Stage l.i (λ q a b x. IsPlayed
      (setting_of g.L.Driver.DriverEnd.driver g.L.Device.DeviceEnd.device g.L.Layout.layout g.G.Guest.party g.V.Device.party) plan q
      b x) (λ q a b x. InEpoch (setting_of g.L.Driver.DriverEnd.driver g.L.Device.DeviceEnd.device g.L.Layout.layout g.G.Guest.party
      g.V.Device.party) plan q false k r a b x × g.G.Guest.party.is_done b)) l.floor.lanes.items l.bench.guests.items
      l.bench.devices.items;
}
