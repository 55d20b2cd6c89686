use Rattle.vd_switch.proofs.ShadowingSteps.{device_stepped}
use Rattle.vd_switch.proofs.laws.device_step_law.Goals as goal

pub returns : goal.returns
returns g c = λ z old r by words shadow_words v w sv sw x y b b2 said h off attached for_data plain s.
    device_stepped g.Q.Port.port g.met.Q.Port.lawful g.L.Device.DeviceEnd.device g.L.Driver.DriverEnd.driver g.L.Layout.layout
    g.met.L.Layout.lawful g.V.Device.party g.met.V.Device.lawful z old r by words shadow_words v w sv sw x y b b2 said h off attached
    for_data plain s
