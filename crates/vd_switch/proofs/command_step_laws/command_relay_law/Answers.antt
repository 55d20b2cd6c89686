use Rattle.vd_switch.proofs.CommandRelay.{relay_commanded}
use Rattle.vd_switch.proofs.command_step_laws.command_relay_law.Goals as goal

pub returns : goal.returns
returns g c = λ y r r2 table table2 settings settings2 hand begun now words shadow_words v w sv sw a a2 b b2 c1 c2 said h plain
    shadow_plain s. relay_commanded g.P.Port.port g.Q.Port.port g.met.P.Port.lawful g.met.Q.Port.lawful g.L.Device.DeviceEnd.device g.L.Driver.DriverEnd.driver g.L.Layout.layout g.met.L.Layout.lawful y r r2 table table2
    settings settings2 hand begun now words shadow_words v w sv sw h a a2 b b2 c1 c2 said plain shadow_plain s
