use Rattle.vd_switch.proofs.ControllingParties.{device_controlled}
use Rattle.vd_switch.proofs.control_step_laws.control_device_law.Goals as goal

pub returns : goal.returns
returns g c = λ x r k s n words shadow_words v w sv sw y z b b2 said h off attached for_control from plain t.
    device_controlled g.Q.Port.port g.met.Q.Port.lawful g.L.Layout.layout g.L.Device.DeviceEnd.device g.L.Driver.DriverEnd.driver
    g.met.L.Layout.lawful g.V.Device.party g.met.V.Device.lawful x r k s n words shadow_words v w sv sw y z b b2 said h off attached
    for_control from plain t
