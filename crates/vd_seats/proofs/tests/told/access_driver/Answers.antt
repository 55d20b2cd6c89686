use Rattle.vd_seats.proofs.Around.{driver_stepped}
use Rattle.vd_seats.specs.laws.Seat.{drivers_own, drivers_told, drives_after}
use Rattle.vd_seats.proofs.tests.told.access_driver.Goals as goal

pub access-requires : goal.access-requires
access-requires g c =
    let d = g.L.Driver.DriverEnd.driver in let e = g.L.Device.DeviceEnd.device in let l = g.L.Layout.layout in let law =
    g.met.L.Layout.lawful in
    (drivers_own d e l law c.args.port.now c.requires.0 c.requires.1).may c.args.op c.args.a c.requires.2

pub returns : goal.returns
returns g c = λ v at next.
    let d = g.L.Driver.DriverEnd.driver in let e = g.L.Device.DeviceEnd.device in let l = g.L.Layout.layout in let law =
    g.met.L.Layout.lawful in
    let s = c.args.port.now in let t = c.access.new.self in let r = c.access.result in (
      drivers_told d e l law s t v c.args.op c.args.a r at c.access.ensures,
      drives_after d e l law s t v c.args.op c.args.a r at c.access.ensures,
      driver_stepped d e l law s t v c.args.op c.args.a r at next c.access.ensures,
    )
