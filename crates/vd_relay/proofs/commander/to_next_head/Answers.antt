use Rattle.vd_relay.proofs.ControlAccesses.{free_below}
use Rattle.vd_relay.proofs.commander.to_next_head.Goals as goal

pub command_word-command-requires-clause-inside : goal.command_word-command-requires-clause-inside
command_word-command-requires-clause-inside g c =
    let o = c.requires.free in
    free_below g.L.Layout.layout g.L.Driver.DriverEnd.driver g.L.Device.DeviceEnd.device g.met.L.Layout.lawful c.args.shadow.now o.0
    c.size-size.result c.next_head-head.result o.1 c.size-size.ensures (c.next_head-head.ensures o.0 o.1.drives)

pub ack_word-ack-requires-clause-inside : goal.ack_word-ack-requires-clause-inside
ack_word-ack-requires-clause-inside g c =
    let o = c.requires.free in
    free_below g.L.Layout.layout g.L.Driver.DriverEnd.driver g.L.Device.DeviceEnd.device g.met.L.Layout.lawful c.args.shadow.now o.0
    c.size-size.result c.next_head-head.result o.1 c.size-size.ensures (c.next_head-head.ensures o.0 o.1.drives)
