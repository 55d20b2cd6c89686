use Rattle.vd_switch.proofs.Wound.{starts}
use Rattle.vd_switch.proofs.laws.start_law.Goals as goal

pub returns : goal.returns
returns g c = λ z old r begun by words shadow_words v w sv sw ring shadow_ring holds off at from fresh before undone. starts
    g.L.Device.DeviceEnd.device g.L.Driver.DriverEnd.driver g.L.Layout.layout g.met.L.Layout.lawful z old r begun by words shadow_words v w
    sv sw ring shadow_ring holds off at from fresh before undone
