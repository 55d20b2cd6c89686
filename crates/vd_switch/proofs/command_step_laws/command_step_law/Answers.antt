use Rattle.vd_switch.proofs.CommandRelay.{relay_commanded}
use Rattle.vd_switch.proofs.CommandTurned.{carrying}
use Rattle.vd_switch.proofs.command_step_laws.command_step_law.Goals as goal

pub returns : goal.returns
returns g c = λ y r r2 x x2 settings settings2 begun now words shadow_words v w sv sw a a2 b b2 c1 c2 said h plain shadow_plain s.
    relay_commanded g.P.Port.port g.Q.Port.port g.met.P.Port.lawful g.met.Q.Port.lawful g.L.Device.DeviceEnd.device
    g.L.Driver.DriverEnd.driver g.L.Layout.layout g.met.L.Layout.lawful y r r2 x.commands x2.commands settings settings2 x2.hand begun now
    words shadow_words v w sv sw h a a2 b b2 c1 c2 said plain shadow_plain (carrying g.P.Port.port g.Q.Port.port g.L.Layout.layout
    g.L.Device.DeviceEnd.device g.L.Driver.DriverEnd.driver y.from a a2 b b2 w sv r r2 x x2 settings settings2 c1 c2 said s)
