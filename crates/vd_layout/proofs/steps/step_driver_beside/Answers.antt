use Rattle.vd_layout.specs.laws.Both.{driver_owns}
use Rattle.vd_layout.specs.laws.Stepped.{driver_stepped}
use Rattle.vd_layout.proofs.steps.step_driver_beside.Goals as goal

pub step-requires-clause-own : goal.step-requires-clause-own
step-requires-clause-own g c =
    let h = c.requires.on in (
      h.3.view,
      h.3.drives,
      driver_owns g.P.Port.port g.met.P.Port.lawful g.L.Driver.DriverEnd.driver g.L.Device.DeviceEnd.device
          g.L.Layout.layout g.met.L.Layout.lawful h.0 c.args.port.now h.1 c.args.driver.now c.args.device.now h.2 h.3,
    )

pub returns : goal.returns
returns g c = λ f ws plain on.
    let own = driver_owns g.P.Port.port g.met.P.Port.lawful g.L.Driver.DriverEnd.driver g.L.Device.DeviceEnd.device g.L.Layout.layout
    g.met.L.Layout.lawful f c.args.port.now ws c.args.driver.now c.args.device.now plain on in
    let s = c.step.ensures on.view on.drives own in (
      s,
      driver_stepped g.P.Port.port g.met.P.Port.lawful g.L.Driver.DriverEnd.driver g.L.Device.DeviceEnd.device g.L.Layout.layout
          g.met.L.Layout.lawful c.args.port.now c.step.new.port ws on.view on.device_view c.args.driver.now c.step.new.self c.step.result
          plain on.ring s,
    )
