use Rattle.vd_relay.proofs.ControlAccesses.{may_store_command, stores_command}
use Rattle.vd_relay.proofs.accesses.store_command.Goals as goal

pub access-requires : goal.access-requires
access-requires g c =
    let o = c.requires in
    o.3.may _ _ (may_store_command g.L.Layout.layout g.L.Driver.DriverEnd.driver g.L.Device.DeviceEnd.device
    g.met.L.Layout.lawful c.args.shadow.now o.0 o.1 c.args.place c.args.word o.2)

pub returns : goal.returns
returns g c = λ v half h. stores_command g.Q.Port.port g.L.Layout.layout g.L.Driver.DriverEnd.driver g.L.Device.DeviceEnd.device
    g.met.L.Layout.lawful c.args.port.now c.access.new.self c.args.shadow.now v half c.args.place c.args.word c.access.result h
    c.access.ensures
