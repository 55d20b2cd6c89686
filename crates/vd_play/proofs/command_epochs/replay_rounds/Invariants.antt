use Rattle.std.proofs.Common.{◌≡◌, ◌+◌, ◌*◌, ◌<◌, ◌≤◌, ℕ, List, true, false, length, map, slice_get}
use Rattle.vd_machine.specs.File.{Plan}
use Rattle.vd_play.specs.declared.floor.Lane.{Lane}
use Rattle.vd_play.specs.CommandEpochs.{CommandsIn, made_of_all}
use Rattle.vd_play.specs.CommandProgress.Next.{guests}
use Rattle.vd_play.specs.CommandRounds.{is_replayed}
use Rattle.vd_play.specs.Each.{HasLanes}
use Rattle.vd_play.specs.GuestsAlone.{AllWait}
use Rattle.vd_play.specs.Played.{KeepsBench, HasNoFault}
use Rattle.vd_play.specs.Setting.{setting_of}
use Rattle.vd_play.proofs.command_epochs.replay_rounds.Given as goal

abbrev pub invariant-loop-turn : goal.invariant-loop-turn
invariant-loop-turn g l = record {
  many : length l.floor.lanes.items ≡ length l.initial.floor.lanes.items;
  tree : l.floor.tree ≡ l.initial.floor.tree;
  parties : HasLanes (length l.initial.floor.lanes.items + 1) l.bench;
  few : l.made ≤ 44 * l.turn;
  keeps : KeepsBench g.V.Device.party (length l.initial.floor.lanes.items + 1) l.initial.bench l.bench;
  devices : (q : ℕ) → q < length l.initial.floor.lanes.items
      → slice_get l.bench.devices.items q ≡ slice_get l.initial.bench.devices.items q;
  ends : map (λ (z : Lane _ _ _). z.still) l.floor.lanes.items ≡ map (λ (z : Lane _ _ _). z.still) l.initial.floor.lanes.items;
  faults : HasNoFault g.V.Device.party l.initial.bench l.bench;
  replays : is_replayed l.lane.relaying ≡ false;
  each : (plan : Plan) (j k : ℕ) (xs : List _) → length l.initial.floor.lanes.items ≤ length xs
      → AllWait (setting_of g.L.Driver.DriverEnd.driver g.L.Device.DeviceEnd.device g.L.Layout.layout g.G.Guest.party g.V.Device.party) plan j 0 l.initial.floor.lanes.items l.initial.bench.guests.items xs
      → CommandsIn (setting_of g.L.Driver.DriverEnd.driver g.L.Device.DeviceEnd.device g.L.Layout.layout g.G.Guest.party g.V.Device.party) plan guests true k 0 (length l.initial.floor.lanes.items) l.initial.lane l.initial.bench
      → AllWait (setting_of g.L.Driver.DriverEnd.driver g.L.Device.DeviceEnd.device g.L.Layout.layout g.G.Guest.party g.V.Device.party) plan j l.turn l.floor.lanes.items l.bench.guests.items xs
      × CommandsIn (setting_of g.L.Driver.DriverEnd.driver g.L.Device.DeviceEnd.device g.L.Layout.layout g.G.Guest.party g.V.Device.party) plan guests true k l.turn (length l.initial.floor.lanes.items) l.lane l.bench
      × (made_of_all (setting_of g.L.Driver.DriverEnd.driver g.L.Device.DeviceEnd.device g.L.Layout.layout g.G.Guest.party g.V.Device.party) l.floor.lanes.items l.lane l.bench
      ≡ made_of_all (setting_of g.L.Driver.DriverEnd.driver g.L.Device.DeviceEnd.device g.L.Layout.layout g.G.Guest.party g.V.Device.party) l.initial.floor.lanes.items l.initial.lane l.initial.bench + l.made);
}
