use Rattle.std.proofs.Common.{◌+◌, refl, arith}
use Rattle.vd_relay.proofs.CarryFinds.{finds_second, second_narrow}
use Rattle.vd_relay.proofs.CarryTurns.{on_second}
use Rattle.vd_relay.proofs.command.load_second.Goals as goal

pub overflow_add-found : goal.overflow_add-found
overflow_add-found g c =
    let o = c.requires in
    let k = o.4 in
    omega (
      arith,
      second_narrow g.L.Layout.layout g.L.Device.DeviceEnd.device g.L.Driver.DriverEnd.driver k.from c.args.state.now o.0 o.1 o.2 o.3
          g.P.Port.port c.args.port.now g.met.L.Layout.lawful c.args.found c.args.first k.commands,
    )

pub load_command-second-requires : goal.load_command-second-requires
load_command-second-requires g c =
    let o = c.requires in
    let k = o.4 in (
      o.2,
      c.args.found.number,
      1,
      finds_second g.L.Layout.layout g.L.Device.DeviceEnd.device g.L.Driver.DriverEnd.driver k.from
          c.args.state.now o.0 o.1 o.2 o.3 c.args.found c.args.first (c.args.found.place + 1) refl k.commands,
      o.5,
    )

pub returns : goal.returns
returns g c = λ z t s w v h.
    let l = g.L.Layout.layout in
    let e = g.L.Device.DeviceEnd.device in
    let d = g.L.Driver.DriverEnd.driver in
    on_second g.P.Port.port l e d z c.args.port.now c.load_command-second.new.port c.args.state.now t s w v
    g.met.L.Layout.lawful.driver_end c.args.found _ (c.args.found.place + 1) c.args.first c.load_command-second.result refl refl refl refl refl refl h
    (c.load_command-second.ensures w c.args.found.number 1
    (finds_second l e d z c.args.state.now t s w v c.args.found c.args.first (c.args.found.place + 1) refl h))
