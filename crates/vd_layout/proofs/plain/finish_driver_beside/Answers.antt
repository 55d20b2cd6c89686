use Rattle.vd_layout.specs.laws.Both.{driver_owns, driver_finished, driver_did}
use Rattle.vd_layout.proofs.plain.finish_driver_beside.Goals as goal

pub finish_driver-requires-clause-own : goal.finish_driver-requires-clause-own
finish_driver-requires-clause-own g c =
    let h = c.requires.on in (
      h.3.view,
      h.3.drives,
      driver_owns g.P.Port.port g.met.P.Port.lawful g.L.Driver.DriverEnd.driver g.L.Device.DeviceEnd.device
          g.L.Layout.layout g.met.L.Layout.lawful h.0 c.args.port.now h.1 c.args.driver.now c.args.device.now h.2 h.3,
    )

pub returns : goal.returns
returns g c =
    let h = c.requires.on in
    let ends = c.finish_driver.ensures h.3.view h.3.drives
    (driver_owns g.P.Port.port g.met.P.Port.lawful g.L.Driver.DriverEnd.driver g.L.Device.DeviceEnd.device g.L.Layout.layout
    g.met.L.Layout.lawful h.0 c.args.port.now h.1 c.args.driver.now c.args.device.now h.2 h.3) in
    record {
      on = λ f ws plain on.
          let own = driver_owns g.P.Port.port g.met.P.Port.lawful g.L.Driver.DriverEnd.driver g.L.Device.DeviceEnd.device
          g.L.Layout.layout g.met.L.Layout.lawful f c.args.port.now ws c.args.driver.now c.args.device.now plain on in
          driver_finished g.P.Port.port g.met.P.Port.lawful g.L.Driver.DriverEnd.driver g.L.Device.DeviceEnd.device g.L.Layout.layout
          g.met.L.Layout.lawful f c.args.port.now c.finish_driver.new.port ws c.args.driver.now c.finish_driver.new.end
          c.args.device.now c.finish_driver.result plain on (c.finish_driver.ensures on.view on.drives own);
      idle = ends.idle;
      did = λ f ws plain on.
          let own = driver_owns g.P.Port.port g.met.P.Port.lawful g.L.Driver.DriverEnd.driver g.L.Device.DeviceEnd.device
          g.L.Layout.layout g.met.L.Layout.lawful f c.args.port.now ws c.args.driver.now c.args.device.now plain on in
          let made = c.finish_driver.ensures on.view on.drives own in
          driver_did g.P.Port.port g.met.P.Port.lawful g.L.Driver.DriverEnd.driver g.L.Device.DeviceEnd.device g.L.Layout.layout
          g.met.L.Layout.lawful f c.args.port.now c.finish_driver.new.port ws c.args.driver.now c.finish_driver.new.end
          c.args.device.now c.finish_driver.result plain on made;
    }
