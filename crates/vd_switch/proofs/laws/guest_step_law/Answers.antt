use Rattle.vd_switch.proofs.ShadowingSteps.{guest_stepped}
use Rattle.vd_switch.proofs.laws.guest_step_law.Goals as goal

pub returns : goal.returns
returns g c = λ z old r begun by words shadow_words v w sv sw x y a a2 said h plain s.
    guest_stepped g.P.Port.port g.met.P.Port.lawful g.L.Device.DeviceEnd.device g.L.Driver.DriverEnd.driver g.L.Layout.layout
    g.met.L.Layout.lawful g.G.Guest.party z old r begun by words shadow_words v w sv sw h x y a a2 said plain s
