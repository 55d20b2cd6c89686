use Rattle.vd_switch.proofs.CommandBegins.{goes_on}
use Rattle.vd_switch.proofs.command_laws.command_carry_law.Goals as goal

pub returns : goal.returns
returns g c = λ y r table settings begun now words shadow_words v w sv sw h s carried off.
    goes_on g.L.Device.DeviceEnd.device g.L.Driver.DriverEnd.driver g.L.Layout.layout y r table settings begun now words shadow_words v w sv sw h s carried off
