use Rattle.vd_switch.proofs.CommandServed.{replay_commanded}
use Rattle.vd_switch.proofs.command_step_laws.replaying_device_law.Goals as goal

pub returns : goal.returns
returns g c = λ y words shadow_words v w sv sw x z b b2 said h attached for_control from plain s.
    replay_commanded g.Q.Port.port g.met.Q.Port.lawful g.L.Device.DeviceEnd.device g.L.Driver.DriverEnd.driver g.L.Layout.layout g.met.L.Layout.lawful g.V.Device.party g.met.V.Device.lawful y words shadow_words v w sv sw
    x z b b2 said attached for_control from plain s h
