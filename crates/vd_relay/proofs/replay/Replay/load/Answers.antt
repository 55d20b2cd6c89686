use Rattle.vd_relay.proofs.ReplayWords.{ack_is}
use Rattle.vd_relay.proofs.ReplayControl.{load}
use Rattle.vd_relay.proofs.replay.Replay.load.Goals as goal

pub returns-clause-turn : goal.returns-clause-turn
returns-clause-turn g c = λ v h own.
    let l = g.L.Layout.layout in
    let d = g.L.Driver.DriverEnd.driver in
    let e = g.L.Device.DeviceEnd.device in
    let lay = g.met.L.Layout.lawful in
    let placed = ack_is l d e lay c.args.shadow.now v c.size.result c.args.head c.ack_word-place.result c.features.result h.drives h.ring
    c.size.ensures c.features.ensures c.ack_word-place.ensures in
    rw c.between-self.ensures
    (load g.Q.Port.port l d e lay c.args.port.now c.access.new.self c.args.self.now c.args.shadow.now v h c.args.head
    c.ack_word-place.result c.access.result c.requires.at placed c.access.ensures)
