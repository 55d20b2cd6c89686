use Rattle.vd_switch.proofs.CommandBegins.{winds_up}
use Rattle.vd_switch.proofs.command_laws.command_wind_law.Goals as goal

pub returns : goal.returns
returns g c = λ y r r2 table settings begun now words shadow_words v w sv sw h s carried winding.
    winds_up g.L.Device.DeviceEnd.device g.L.Driver.DriverEnd.driver g.L.Layout.layout y r r2 table settings begun now words shadow_words v w sv sw h s carried winding
