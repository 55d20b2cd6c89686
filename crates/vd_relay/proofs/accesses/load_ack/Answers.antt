use Rattle.std.proofs.Common.{sym, subst}
use Rattle.vd_words.specs.declared.access.Access.TheVariants.{Load}
use Rattle.vd_words.specs.declared.access.Op.TheVariants.{Control}
use Rattle.vd_relay.proofs.ReplayWords.{ack_is}
use Rattle.vd_relay.proofs.ControlAccesses.{may_load_ack, loads_ack}
use Rattle.vd_relay.proofs.accesses.load_ack.Goals as goal

pub access-requires : goal.access-requires
access-requires g c =
    let o = c.requires in
    let is = ack_is g.L.Layout.layout g.L.Driver.DriverEnd.driver g.L.Device.DeviceEnd.device g.met.L.Layout.lawful c.args.shadow.now o.0
    c.size.result c.args.head c.ack_word-place.result c.features.result o.2.drives o.2.ring c.size.ensures c.features.ensures
    c.ack_word-place.ensures in
    o.3.may _ _ (subst (λ z. g.L.Driver.DriverEnd.driver.side.next o.0 Control (Load z)) (sym is)
    (may_load_ack g.Q.Port.port g.L.Layout.layout g.L.Driver.DriverEnd.driver g.L.Device.DeviceEnd.device g.met.L.Layout.lawful
    c.args.port.now c.args.port.now c.args.shadow.now o.0 o.1 c.args.head o.2))

pub returns : goal.returns
returns g c = λ v k h.
    let is = ack_is g.L.Layout.layout g.L.Driver.DriverEnd.driver g.L.Device.DeviceEnd.device g.met.L.Layout.lawful c.args.shadow.now v
    c.size.result c.args.head c.ack_word-place.result c.features.result h.drives h.ring c.size.ensures c.features.ensures
    c.ack_word-place.ensures in
    loads_ack g.Q.Port.port g.L.Layout.layout g.L.Driver.DriverEnd.driver g.L.Device.DeviceEnd.device g.met.L.Layout.lawful
    c.args.port.now c.access.new.self c.args.shadow.now v k c.args.head c.ack_word-place.result c.access.result h is c.access.ensures
