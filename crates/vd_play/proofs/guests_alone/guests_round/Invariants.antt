use Rattle.std.proofs.Common.{◌≡◌, ◌+◌, ◌*◌, ◌≤◌, ℕ, List, false, length, map}
use Rattle.std.specs.List.{sum_by}
use Rattle.vd_machine.specs.File.{Plan}
use Rattle.vd_play.specs.declared.floor.Lane.{Lane}
use Rattle.vd_play.specs.Each.{EachLane, Stage, HasLanes}
use Rattle.vd_play.specs.GuestsAlone.{AllWait}
use Rattle.vd_play.specs.Played.{KeepsBench}
use Rattle.vd_play.specs.Progress.{InEpoch}
use Rattle.vd_play.specs.Setting.{setting_of}
use Rattle.vd_play.proofs.guests_alone.guests_round.Given as goal

abbrev pub invariant-loop-i : goal.invariant-loop-i
invariant-loop-i g l = record {
  many : length l.floor.lanes.items ≡ length l.initial.floor.lanes.items;
  tree : l.floor.tree ≡ l.initial.floor.tree;
  parties : HasLanes (length l.initial.floor.lanes.items) l.bench;
  few : l.made ≤ 4 * l.i;
  keeps : KeepsBench g.V.Device.party (length l.initial.floor.lanes.items) l.initial.bench l.bench;
  devices : l.bench.devices ≡ l.initial.bench.devices;
  ends : map (λ (z : Lane _ _ _). z.still) l.floor.lanes.items ≡ map (λ (z : Lane _ _ _). z.still) l.initial.floor.lanes.items;
  each : (plan : Plan) (k n : ℕ) (xs : List _) → length l.initial.floor.lanes.items ≤ length xs
      → AllWait (setting_of g.L.Driver.DriverEnd.driver g.L.Device.DeviceEnd.device g.L.Layout.layout g.G.Guest.party
      g.V.Device.party) plan k n l.initial.floor.lanes.items l.initial.bench.guests.items xs
      → EachLane (Stage l.i (λ q a b x. InEpoch
      (setting_of g.L.Driver.DriverEnd.driver g.L.Device.DeviceEnd.device g.L.Layout.layout g.G.Guest.party g.V.Device.party) plan q
      false k (n + 1) a b x) (λ q a b x. InEpoch
      (setting_of g.L.Driver.DriverEnd.driver g.L.Device.DeviceEnd.device g.L.Layout.layout g.G.Guest.party g.V.Device.party) plan q
      false k n a b x)) l.floor.lanes.items l.bench.guests.items xs;
  counted : sum_by g.G.Guest.party.accesses l.bench.guests.items + sum_by (λ (z : Lane _ _ _). z.relayed) l.floor.lanes.items
      ≡ sum_by g.G.Guest.party.accesses l.initial.bench.guests.items
      + sum_by (λ (z : Lane _ _ _). z.relayed) l.initial.floor.lanes.items + l.made;
}
