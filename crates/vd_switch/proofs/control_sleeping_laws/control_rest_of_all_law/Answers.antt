use Rattle.vd_switch.proofs.AtRest.{control_at_rest}
use Rattle.vd_switch.proofs.control_sleeping_laws.control_rest_of_all_law.Goals as goal

pub returns : goal.returns
returns g c = control_at_rest g.L.Device.DeviceEnd.device g.L.Driver.DriverEnd.driver g.L.Layout.layout g.met.L.Layout.lawful
