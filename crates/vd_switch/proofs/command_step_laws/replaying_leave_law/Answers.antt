use Rattle.vd_switch.proofs.CommandReplays.{replay_left}
use Rattle.vd_switch.proofs.command_step_laws.replaying_leave_law.Goals as goal

pub returns : goal.returns
returns g c = λ y begun now words shadow_words v w sv sw end end2 a a2 rested h plain t.
    replay_left g.P.Port.port g.met.P.Port.lawful g.L.Device.DeviceEnd.device g.L.Driver.DriverEnd.driver g.L.Layout.layout
    g.met.L.Layout.lawful y begun now words shadow_words v w sv sw end end2 a a2 rested h plain t
