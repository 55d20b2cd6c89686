use Rattle.vd_layout.specs.laws.Runs.{device_ran}
use Rattle.vd_seats.proofs.tests.turns.take_one.Goals as goal

pub returns : goal.returns
returns g c = λ v on.
    device_ran g.P.Port.port g.E.DeviceEnd.device g.met.E.DeviceEnd.device_lawful c.args.port.now c.finish_device.new.port v
    c.args.end.now c.begin_take.new.self c.finish_device.new.end c.finish_device.result on (λ z. cc (z, c.begin_take.ensures.begun))
    (c.finish_device.ensures v (c.begin_take.ensures.stands v on.stands) on.own)
