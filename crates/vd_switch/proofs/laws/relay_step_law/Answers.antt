use Rattle.vd_switch.proofs.ShadowingSteps.{relay_stepped}
use Rattle.vd_switch.proofs.laws.relay_step_law.Goals as goal

pub returns : goal.returns
returns g c = λ z old r r2 begun by words shadow_words v w sv sw a a2 b b2 c' c2 said h plain shadow_plain s.
    relay_stepped g.P.Port.port g.Q.Port.port g.met.P.Port.lawful g.met.Q.Port.lawful g.L.Device.DeviceEnd.device
    g.L.Driver.DriverEnd.driver g.L.Layout.layout g.met.L.Layout.lawful z old r r2 begun by words shadow_words v w sv sw h a a2 b b2 c'
    c2 said plain shadow_plain s
