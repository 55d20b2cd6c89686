use Rattle.vd_switch.proofs.Wound.{may_rest}
use Rattle.vd_switch.proofs.laws.rest_law.Goals as goal

pub returns : goal.returns
returns g c = λ z old r begun by words shadow_words v w sv sw none h on here all. may_rest g.L.Device.DeviceEnd.device
    g.L.Driver.DriverEnd.driver g.L.Layout.layout g.met.L.Layout.lawful z old r begun by words shadow_words v w sv sw h on none here all
