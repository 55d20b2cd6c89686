use Rattle.vd_switch.proofs.Wound.{winds_up}
use Rattle.vd_switch.proofs.laws.wind_law.Goals as goal

pub returns : goal.returns
returns g c = λ z old r r2 begun by words shadow_words v w sv sw h holds winding. winds_up g.L.Device.DeviceEnd.device
    g.L.Driver.DriverEnd.driver g.L.Layout.layout z old r r2 begun by words shadow_words v w sv sw h holds winding
