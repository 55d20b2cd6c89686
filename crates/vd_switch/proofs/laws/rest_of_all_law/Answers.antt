use Rattle.vd_switch.proofs.AtRest.{at_rest}
use Rattle.vd_switch.proofs.laws.rest_of_all_law.Goals as goal

pub returns : goal.returns
returns g c = λ z words shadow_words v w sv sw ring shadow_ring sleeps none guest shadow device.
    at_rest g.L.Device.DeviceEnd.device g.L.Driver.DriverEnd.driver g.L.Layout.layout g.met.L.Layout.lawful z words shadow_words v w sv sw
    ring shadow_ring sleeps none guest shadow device
