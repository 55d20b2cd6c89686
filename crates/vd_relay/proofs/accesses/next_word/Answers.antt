use Rattle.std.proofs.Common.{ap, arith}
use Rattle.vd_relay.proofs.ReplayWords.{command_is}
use Rattle.vd_relay.proofs.ControlAccesses.{free_below, next_narrow}
use Rattle.vd_relay.proofs.accesses.next_word.Goals as goal

pub command_word-requires-clause-inside : goal.command_word-requires-clause-inside
command_word-requires-clause-inside g c =
    let o = c.requires in
    free_below g.L.Layout.layout g.L.Driver.DriverEnd.driver g.L.Device.DeviceEnd.device g.met.L.Layout.lawful c.args.shadow.now o.0
    c.size-size.result c.next_head.result o.1 c.size-size.ensures (c.next_head.ensures o.0 o.1.drives)

pub returns-clause-narrow : goal.returns-clause-narrow
returns-clause-narrow g c =
    let o = c.requires in
    let is = command_is g.L.Layout.layout g.L.Driver.DriverEnd.driver g.L.Device.DeviceEnd.device g.met.L.Layout.lawful c.args.shadow.now
    o.0 c.size-size.result c.next_head.result c.command_word.result c.features-f.result o.1.drives o.1.ring c.size-size.ensures
    c.features-f.ensures c.command_word.ensures in
    omega (
      arith,
      is,
      ap (g.L.Driver.DriverEnd.driver.words.command o.0.frame) (c.next_head.ensures o.0 o.1.drives),
      next_narrow g.L.Layout.layout g.L.Driver.DriverEnd.driver g.L.Device.DeviceEnd.device g.met.L.Layout.lawful c.args.shadow.now o.0 o.1
          o.2,
    )
