use Rattle.vd_layout.specs.laws.Both.{device_owns, device_finished, device_did}
use Rattle.vd_layout.proofs.plain.finish_device_beside.Goals as goal

pub finish_device-requires-clause-own : goal.finish_device-requires-clause-own
finish_device-requires-clause-own g c =
    let h = c.requires.on in (
      h.3.device_view,
      h.3.serves,
      device_owns g.P.Port.port g.met.P.Port.lawful g.L.Driver.DriverEnd.driver g.L.Device.DeviceEnd.device
          g.L.Layout.layout g.met.L.Layout.lawful h.0 c.args.port.now h.1 c.args.driver.now c.args.device.now h.2 h.3,
    )

pub returns : goal.returns
returns g c =
    let h = c.requires.on in
    let f = c.finish_device.ensures h.3.device_view h.3.serves
    (device_owns g.P.Port.port g.met.P.Port.lawful g.L.Driver.DriverEnd.driver g.L.Device.DeviceEnd.device g.L.Layout.layout
    g.met.L.Layout.lawful h.0 c.args.port.now h.1 c.args.driver.now c.args.device.now h.2 h.3) in
    record {
      on = λ f ws plain on.
          let own = device_owns g.P.Port.port g.met.P.Port.lawful g.L.Driver.DriverEnd.driver g.L.Device.DeviceEnd.device
          g.L.Layout.layout g.met.L.Layout.lawful f c.args.port.now ws c.args.driver.now c.args.device.now plain on in
          device_finished g.P.Port.port g.met.P.Port.lawful g.L.Driver.DriverEnd.driver g.L.Device.DeviceEnd.device g.L.Layout.layout
          g.met.L.Layout.lawful f c.args.port.now c.finish_device.new.port ws c.args.driver.now c.args.device.now
          c.finish_device.new.end c.finish_device.result plain on (c.finish_device.ensures on.device_view on.serves own);
      idle = f.idle;
      did = λ fr ws plain on.
          let own = device_owns g.P.Port.port g.met.P.Port.lawful g.L.Driver.DriverEnd.driver g.L.Device.DeviceEnd.device
          g.L.Layout.layout g.met.L.Layout.lawful fr c.args.port.now ws c.args.driver.now c.args.device.now plain on in
          let made = c.finish_device.ensures on.device_view on.serves own in
          device_did g.P.Port.port g.met.P.Port.lawful g.L.Driver.DriverEnd.driver g.L.Device.DeviceEnd.device g.L.Layout.layout
          g.met.L.Layout.lawful fr c.args.port.now c.finish_device.new.port ws c.args.driver.now c.args.device.now
          c.finish_device.new.end c.finish_device.result plain on made;
      rests = f.rests;
    }
