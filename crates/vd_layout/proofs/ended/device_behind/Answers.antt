use Rattle.vd_layout.specs.laws.Ended.{device_ended}
use Rattle.vd_layout.proofs.ended.device_behind.Goals as goal

pub returns-clause-did : goal.returns-clause-did
returns-clause-did g c = λ f ws plain on.
    let did = c.finish_device_beside.ensures.did f ws plain on in
    device_ended g.P.Port.port g.met.P.Port.lawful g.L.Driver.DriverEnd.driver g.L.Device.DeviceEnd.device g.L.Layout.layout
    g.met.L.Layout.lawful c.args.port.now c.finish_device_beside.new.port ws f c.args.driver.now c.args.device.now
    c.finish_device_beside.new.device c.finish_device_beside.result on did.0 plain did.1 did.2
