use Rattle.vd_switch.proofs.ControllingSteps.{relay_controlled}
use Rattle.vd_switch.proofs.control_step_laws.control_relay_law.Goals as goal

pub returns : goal.returns
returns g c = λ x r r2 k k2 s s2 n n2 begun now words shadow_words v w sv sw a a2 b b2 said h plain shadow_plain t.
    relay_controlled g.P.Port.port g.Q.Port.port g.met.P.Port.lawful g.met.Q.Port.lawful g.L.Layout.layout g.L.Device.DeviceEnd.device
    g.L.Driver.DriverEnd.driver
    g.met.L.Layout.lawful x a a2 b b2 r r2 k k2 s s2 n n2 begun now words shadow_words v w sv sw said h t plain shadow_plain
