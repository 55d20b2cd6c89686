use Rattle.std.proofs.Common.{false}
use Rattle.vd_play.specs.Setting.{setting_of}
use Rattle.vd_play.proofs.CommandEnding.{command_halts}
use Rattle.vd_play.proofs.CommandLanes.{can_drive}
use Rattle.vd_play.proofs.command_end.halt_commands.Goals as goal

pub halt-requires-clause-held : goal.halt-requires-clause-held
halt-requires-clause-held g c =
    let s = setting_of g.L.Driver.DriverEnd.driver g.L.Device.DeviceEnd.device g.L.Layout.layout g.G.Guest.party g.V.Device.party in
    let r = c.requires.lane in
    let lane = c.args.lane in
    let d = can_drive s r.0 r.1 r.2 lane.words lane.relayed c.args.guest.now r.3 false lane.still lane.relaying r.4.held in
    (d.0, d.3)

pub returns-clause-played : goal.returns-clause-played
returns-clause-played g c = λ plan k n device last p.
    let s = setting_of g.L.Driver.DriverEnd.driver g.L.Device.DeviceEnd.device g.L.Layout.layout g.G.Guest.party g.V.Device.party in
    command_halts s (record { layout = g.met.L.Layout.lawful; guest = g.met.G.Guest.lawful; party = g.met.V.Device.lawful }) plan k n
    c.args.lane c.args.guest.now c.halt.new.self device c.halt.result last c.requires.done c.halt.ensures p
