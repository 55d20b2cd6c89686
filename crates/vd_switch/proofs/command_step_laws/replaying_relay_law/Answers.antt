use Rattle.vd_switch.proofs.CommandReplays.{replay_stepped}
use Rattle.vd_switch.proofs.command_step_laws.replaying_relay_law.Goals as goal

pub returns : goal.returns
returns g c = λ y begun now words shadow_words v w sv sw r r2 x x2 b b2 turn h plain t same.
    replay_stepped g.Q.Port.port g.met.Q.Port.lawful g.L.Device.DeviceEnd.device g.L.Driver.DriverEnd.driver g.L.Layout.layout
    g.met.L.Layout.lawful y begun now words shadow_words v w sv sw r r2 x x2 b b2 turn h plain t same
