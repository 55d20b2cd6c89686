use Rattle.vd_relay.proofs.CarryFinds.{finds_first}
use Rattle.vd_relay.proofs.CarryTurns.{on_first}
use Rattle.vd_relay.proofs.command.load_first.Goals as goal

pub load_command-first-requires : goal.load_command-first-requires
load_command-first-requires g c =
    let o = c.requires in
    let k = o.4 in (
      o.2,
      c.args.found.number,
      0,
      finds_first g.L.Layout.layout g.L.Device.DeviceEnd.device g.L.Driver.DriverEnd.driver k.from
          c.args.state.now o.0 o.1 o.2 o.3 c.args.found k.commands,
      o.5,
    )

pub returns : goal.returns
returns g c = λ z t s w v h.
    let l = g.L.Layout.layout in
    let e = g.L.Device.DeviceEnd.device in
    let d = g.L.Driver.DriverEnd.driver in
    on_first g.P.Port.port l e d z c.args.port.now c.load_command-first.new.port c.args.state.now t s w v
    g.met.L.Layout.lawful.driver_end c.args.found c.load_command-first.result h
    (c.load_command-first.ensures w c.args.found.number 0 (finds_first l e d z c.args.state.now t s w v c.args.found h))
