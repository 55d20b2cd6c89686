use Rattle.vd_switch.proofs.CommandDriven.{lane_driven}
use Rattle.vd_switch.proofs.command_step_laws.command_guest_law.Goals as goal

pub returns : goal.returns
returns g c = λ y r table settings begun now words shadow_words v w sv sw x z a a2 said h plain s.
    lane_driven g.P.Port.port g.met.P.Port.lawful g.L.Device.DeviceEnd.device g.L.Driver.DriverEnd.driver g.L.Layout.layout g.met.L.Layout.lawful g.G.Guest.party y begun now words shadow_words v w sv sw x z a a2 said
    plain s r table settings h
