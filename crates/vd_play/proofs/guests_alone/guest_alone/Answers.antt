use Rattle.std.proofs.Common.{false}
use Rattle.vd_play.specs.Setting.{setting_of}
use Rattle.vd_play.proofs.GuestsAlone.{is_waiting}
use Rattle.vd_play.proofs.Held.{waits_with}
use Rattle.vd_play.proofs.guests_alone.guest_alone.Goals as goal

pub returns-clause-goes : goal.returns-clause-goes
returns-clause-goes g c = λ plan q k n x h.
    let s = setting_of g.L.Driver.DriverEnd.driver g.L.Device.DeviceEnd.device g.L.Layout.layout g.G.Guest.party g.V.Device.party in
    let lane = c.args.lane.now in
    let some = is_waiting s plan q k n lane.words lane.still lane.relaying lane.relayed c.args.guest.now x h.held in
    let y = waits_with s plan q (record { layout = g.met.L.Layout.lawful; guest = g.met.G.Guest.lawful; party = g.met.V.Device.lawful })
    false k n c.guest_turn.result c.guest_turn.ensures.few lane.words _ lane.still lane.relaying lane.relayed c.args.guest.now _ x some
    c.guest_turn.ensures.ring h.held c.guest_turn.ensures.turn in
    (record { held = y.0; kits = h.kits; plain = h.plain }, y.1)
