use Rattle.vd_seats.proofs.Around.{device_stepped}
use Rattle.vd_seats.specs.laws.Seat.{devices_own, devices_told, serves_after}
use Rattle.vd_seats.proofs.tests.told.access_device.Goals as goal

pub access-requires : goal.access-requires
access-requires g c =
    let d = g.L.Driver.DriverEnd.driver in let e = g.L.Device.DeviceEnd.device in let l = g.L.Layout.layout in let law =
    g.met.L.Layout.lawful in
    (devices_own d e l law c.args.port.now c.requires.0 c.requires.1).may c.args.op c.args.a c.requires.2

pub returns : goal.returns
returns g c = λ v at next.
    let d = g.L.Driver.DriverEnd.driver in let e = g.L.Device.DeviceEnd.device in let l = g.L.Layout.layout in let law =
    g.met.L.Layout.lawful in
    let s = c.args.port.now in let t = c.access.new.self in let r = c.access.result in (
      devices_told d e l law s t v c.args.op c.args.a r at c.access.ensures,
      serves_after d e l law s t v c.args.op c.args.a r at c.access.ensures,
      device_stepped d e l law s t v c.args.op c.args.a r at next c.access.ensures,
    )
