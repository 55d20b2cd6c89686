use Rattle.vd_switch.proofs.PassingLanes.{keeps}
use Rattle.vd_switch.proofs.laws.passing_law.Goals as goal

pub returns : goal.returns
returns g c = λ ts gs old begun by words v w h.
    keeps g.L.Device.DeviceEnd.device g.L.Driver.DriverEnd.driver g.L.Layout.layout g.met.L.Layout.lawful ts gs old begun by words v w h
