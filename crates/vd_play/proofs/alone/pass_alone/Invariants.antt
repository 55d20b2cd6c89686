use Rattle.std.proofs.Common.{◌≡◌, ◌≤◌, ℕ}
use Rattle.vd_machine.specs.File.{Plan}
use Rattle.vd_play.specs.Progress.{IsPassing, steps}
use Rattle.vd_play.specs.Setting.{setting_of}
use Rattle.vd_play.proofs.alone.pass_alone.Given as goal

abbrev pub invariant-loop-turn : goal.invariant-loop-turn
invariant-loop-turn g l = record {
  each : (plan : Plan) (q k relayed : ℕ) → IsPassing
      (setting_of g.L.Driver.DriverEnd.driver g.L.Device.DeviceEnd.device g.L.Layout.layout g.G.Guest.party g.V.Device.party) plan q k
      0 l.initial.words relayed l.initial.guest l.initial.device
      → IsPassing
      (setting_of g.L.Driver.DriverEnd.driver g.L.Device.DeviceEnd.device g.L.Layout.layout g.G.Guest.party g.V.Device.party) plan q k
      l.turn l.words relayed l.guest l.device
      × (steps
      (setting_of g.L.Driver.DriverEnd.driver g.L.Device.DeviceEnd.device g.L.Layout.layout g.G.Guest.party g.V.Device.party) relayed
      l.initial.guest l.initial.device ≤ steps
      (setting_of g.L.Driver.DriverEnd.driver g.L.Device.DeviceEnd.device g.L.Layout.layout g.G.Guest.party g.V.Device.party) relayed
      l.guest l.device);
  carried : g.V.Device.party.carried l.device ≡ g.V.Device.party.carried l.initial.device;
  faults : g.V.Device.party.faults l.device ≡ g.V.Device.party.faults l.initial.device;
}
