use Rattle.vd_relay.proofs.ControlAccesses.{may_store_ack, stores_ack}
use Rattle.vd_relay.proofs.accesses.store_ack.Goals as goal

pub access-requires : goal.access-requires
access-requires g c =
    let o = c.requires in
    o.3.may _ _ (may_store_ack g.P.Port.port g.L.Device.DeviceEnd.device g.met.L.Layout.lawful.device_end c.args.port.now c.args.port.now
    c.args.guest.now o.0 o.1 c.args.place c.args.ack o.2)

pub returns : goal.returns
returns g c = λ w number h. stores_ack g.P.Port.port g.L.Device.DeviceEnd.device g.met.L.Layout.lawful.device_end c.args.port.now
    c.access.new.self c.args.guest.now w number c.args.place c.args.ack c.access.result h c.access.ensures
