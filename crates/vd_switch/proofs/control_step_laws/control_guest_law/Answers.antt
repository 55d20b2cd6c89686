use Rattle.vd_switch.proofs.ControllingParties.{guest_controlled}
use Rattle.vd_switch.proofs.control_step_laws.control_guest_law.Goals as goal

pub returns : goal.returns
returns g c = λ x r k s n begun now words shadow_words v w sv sw y z a a2 said h plain t.
    guest_controlled g.P.Port.port g.met.P.Port.lawful g.L.Layout.layout g.L.Device.DeviceEnd.device g.L.Driver.DriverEnd.driver
    g.met.L.Layout.lawful g.G.Guest.party x r k s n begun now words shadow_words v w sv sw y z a a2 said h plain t
