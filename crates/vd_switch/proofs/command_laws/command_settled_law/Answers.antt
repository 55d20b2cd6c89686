use Rattle.vd_switch.proofs.CommandSettled.{settled_all}
use Rattle.vd_switch.proofs.command_laws.command_settled_law.Goals as goal

pub returns : goal.returns
returns g c = λ y r table settings begun now words shadow_words v w sv sw passes h acked is.
    settled_all g.L.Device.DeviceEnd.device g.L.Driver.DriverEnd.driver g.L.Layout.layout g.met.L.Layout.lawful y r table settings begun now
    words shadow_words v w sv sw h passes acked is
