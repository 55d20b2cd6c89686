use Rattle.vd_switch.proofs.PassingSteps.{driven}
use Rattle.vd_switch.proofs.laws.passing_guest_law.Goals as goal

pub returns : goal.returns
returns g c = λ ts gs old begun by words v w x y a a2 said h plain s.
    driven g.P.Port.port g.met.P.Port.lawful g.L.Device.DeviceEnd.device g.L.Driver.DriverEnd.driver g.L.Layout.layout
    g.met.L.Layout.lawful ts gs old by words v w g.G.Guest.party begun x y a a2 said h plain s
