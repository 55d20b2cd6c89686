use Rattle.vd_switch.proofs.PassingSteps.{served}
use Rattle.vd_switch.proofs.laws.passing_device_law.Goals as goal

pub returns : goal.returns
returns g c = λ ts gs old by words v w x y a a2 said h attached for_data plain s.
    served g.P.Port.port g.met.P.Port.lawful g.L.Device.DeviceEnd.device g.L.Driver.DriverEnd.driver g.L.Layout.layout
    g.met.L.Layout.lawful ts gs old by words v w g.V.Device.party g.met.V.Device.lawful x y a a2 said h attached for_data plain s
