use Rattle.vd_seats.specs.laws.Seat.{devices_own}
use Rattle.vd_seats.specs.laws.Asleep.{device_told_asleep}
use Rattle.vd_seats.proofs.tests.asleep.hear_device.Goals as goal

pub finish_device-requires-clause-own : goal.finish_device-requires-clause-own
finish_device-requires-clause-own g c =
    let d = g.L.Driver.DriverEnd.driver in let e = g.L.Device.DeviceEnd.device in let l = g.L.Layout.layout in let law =
    g.met.L.Layout.lawful in
    let v = c.requires.at.0 in
    (v, c.begin_hear.ensures.stands v c.requires.at.1, devices_own d e l law c.args.port.now v c.requires.at.2)

pub returns : goal.returns
returns g c = λ v stands at.
    let d = g.L.Driver.DriverEnd.driver in let e = g.L.Device.DeviceEnd.device in let l = g.L.Layout.layout in let law =
    g.met.L.Layout.lawful in
    device_told_asleep d e l law c.args.port.now c.finish_device.new.port v c.begin_hear.new.self c.finish_device.new.end
    c.finish_device.result at
    (c.finish_device.ensures v (c.begin_hear.ensures.stands v stands) (devices_own d e l law c.args.port.now v at))
