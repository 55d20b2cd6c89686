use Rattle.vd_switch.proofs.CommandLanes.{replay_keeps}
use Rattle.vd_switch.proofs.command_laws.replaying_law.Goals as goal

pub returns : goal.returns
returns g c = λ y begun now words shadow_words v w sv sw h.
    replay_keeps g.L.Device.DeviceEnd.device g.L.Driver.DriverEnd.driver g.L.Layout.layout g.met.L.Layout.lawful y begun now words shadow_words v w sv sw h
