use Rattle.vd_relay.proofs.ReplayWords.{head_inside_size}
use Rattle.vd_relay.proofs.replay.next_chain.Goals as goal

pub command_word-requires-clause-inside : goal.command_word-requires-clause-inside
command_word-requires-clause-inside g c =
    let o = c.requires in
    head_inside_size g.L.Layout.layout g.L.Driver.DriverEnd.driver g.L.Device.DeviceEnd.device g.met.L.Layout.lawful c.args.shadow.now o.0
    o.1 c.size-size.result c.next_head-head.result c.size-size.ensures (c.next_head-head.ensures o.0 o.1.drives)

pub ack_word-requires-clause-inside : goal.ack_word-requires-clause-inside
ack_word-requires-clause-inside g c =
    let o = c.requires in
    head_inside_size g.L.Layout.layout g.L.Driver.DriverEnd.driver g.L.Device.DeviceEnd.device g.met.L.Layout.lawful c.args.shadow.now o.0
    o.1 c.size-size.result c.next_head-head.result c.size-size.ensures (c.next_head-head.ensures o.0 o.1.drives)
