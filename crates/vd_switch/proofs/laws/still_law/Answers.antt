use Rattle.vd_switch.proofs.ShadowingLanes.{leaves}
use Rattle.vd_switch.proofs.laws.still_law.Goals as goal

pub returns : goal.returns
returns g c = λ z old r begun by words shadow_words v w sv sw h is. leaves g.L.Device.DeviceEnd.device g.L.Driver.DriverEnd.driver
    g.L.Layout.layout g.met.L.Layout.lawful z old r begun by words shadow_words v w sv sw h is
