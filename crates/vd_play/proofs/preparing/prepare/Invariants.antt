use Rattle.std.proofs.Common.{◌≡◌, ◌≤◌, length, vec_len, vec_capacity}
use Rattle.std.specs.List.{All}
use Rattle.vd_machine.specs.File.{view}
use Rattle.vd_play.specs.declared.floor.Lane.{Lane}
use Rattle.vd_play.specs.Each.{EachLane, HasLanes}
use Rattle.vd_play.specs.Progress.{Stopped}
use Rattle.vd_play.specs.Played.{KeepsBench}
use Rattle.vd_play.specs.Prepared.{IsUntouched}
use Rattle.vd_play.specs.Setting.{setting_of}
use Rattle.vd_play.proofs.preparing.prepare.Given as goal

abbrev pub invariant-loop-i : goal.invariant-loop-i
invariant-loop-i g l = record {
  many : length l.lanes.items ≡ l.i;
  room : (vec_len l.lanes ≡ l.i) × (length l.m.queues ≤ vec_capacity l.lanes);
  parties : HasLanes (length l.m.queues) l.bench;
  keeps : KeepsBench g.V.Device.party l.i l.initial.bench l.bench;
  untouched : IsUntouched g.G.Guest.party g.V.Device.party l.initial.bench l.bench;
  each : EachLane (λ q a b x. Stopped
      (setting_of g.L.Driver.DriverEnd.driver g.L.Device.DeviceEnd.device g.L.Layout.layout g.G.Guest.party g.V.Device.party)
      (view l.m) q 0 a b x) l.lanes.items l.bench.guests.items l.bench.devices.items;
  none : All (λ (lane : Lane _ _ _). lane.relayed ≡ 0) l.lanes.items;
}
