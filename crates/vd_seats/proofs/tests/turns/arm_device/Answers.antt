use Rattle.vd_layout.specs.laws.Runs.{device_ran}
use Rattle.vd_seats.proofs.tests.turns.arm_device.Goals as goal

pub returns : goal.returns
returns g c = λ v on.
    device_ran g.P.Port.port g.E.DeviceEnd.device g.met.E.DeviceEnd.device_lawful c.args.port.now c.finish_device.new.port v
    c.args.end.now c.begin_arm.new.self c.finish_device.new.end c.finish_device.result on (λ z. cc (z, c.begin_arm.ensures.begun))
    (c.finish_device.ensures v (c.begin_arm.ensures.stands v on.stands) on.own)
