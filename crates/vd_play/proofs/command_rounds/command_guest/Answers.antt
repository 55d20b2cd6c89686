use Rattle.vd_play.specs.Setting.{setting_of}
use Rattle.vd_play.proofs.CommandLanes.{can_drive, guest_goes}
use Rattle.vd_play.proofs.command_rounds.command_guest.Goals as goal

pub guest_turn-requires : goal.guest_turn-requires
guest_turn-requires g c =
    let s = setting_of g.L.Driver.DriverEnd.driver g.L.Device.DeviceEnd.device g.L.Layout.layout g.G.Guest.party g.V.Device.party in
    let r = c.requires.lane in
    let lane = c.args.lane.now in record {
      on = can_drive s r.0 r.2 r.3 lane.words lane.relayed c.args.guest.now r.4 r.1 lane.still lane.relaying r.5.held;
    }

pub returns-clause-goes : goal.returns-clause-goes
returns-clause-goes g c = λ plan on k n device h.
    let s = setting_of g.L.Driver.DriverEnd.driver g.L.Device.DeviceEnd.device g.L.Layout.layout g.G.Guest.party g.V.Device.party in
    let lane = c.args.lane.now in
    let y = guest_goes s plan k n lane.words lane.relayed c.args.guest.now device
    (record { layout = g.met.L.Layout.lawful; guest = g.met.G.Guest.lawful; party = g.met.V.Device.lawful })
    c.guest_turn.result c.guest_turn.ensures.few c.guest_turn.new.words c.guest_turn.new.guest c.guest_turn.ensures.ring
    c.guest_turn.ensures.turn on lane.still lane.relaying h.held in
    (record { held = y.0; kits = h.kits }, y.1)
