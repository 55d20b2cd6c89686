use Rattle.vd_switch.proofs.CommandRests.{replay_leaves}
use Rattle.vd_switch.proofs.command_laws.replaying_still_law.Goals as goal

pub returns : goal.returns
returns g c = λ y begun now words shadow_words v w sv sw end h stands rests.
    replay_leaves g.L.Device.DeviceEnd.device g.L.Driver.DriverEnd.driver g.L.Layout.layout g.met.L.Layout.lawful y begun now words shadow_words v w sv sw end h stands rests
