use Rattle.vd_relay.proofs.ControlAccesses.{may_load_command, loads_command}
use Rattle.vd_relay.proofs.accesses.load_command.Goals as goal

pub access-requires : goal.access-requires
access-requires g c =
    let o = c.requires in
    o.4.may _ _ (may_load_command g.P.Port.port g.L.Device.DeviceEnd.device g.met.L.Layout.lawful.device_end c.args.port.now c.args.port.now
    c.args.guest.now o.0 o.1 o.2 c.args.place o.3)

pub returns : goal.returns
returns g c = λ w number half h. loads_command g.P.Port.port g.L.Device.DeviceEnd.device g.met.L.Layout.lawful.device_end c.args.port.now
    c.access.new.self c.args.guest.now w number half c.args.place c.access.result h c.access.ensures
