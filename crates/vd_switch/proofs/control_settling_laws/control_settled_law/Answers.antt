use Rattle.vd_switch.proofs.ControllingSettings.{control_settles, control_settled}
use Rattle.vd_switch.proofs.control_settling_laws.control_settled_law.Goals as goal

pub returns : goal.returns
returns g c = λ x r k s n begun now words shadow_words v w sv sw h rests acks. (
  control_settles g.L.Layout.layout g.L.Device.DeviceEnd.device g.L.Driver.DriverEnd.driver g.met.L.Layout.lawful x r k s n begun now
      words shadow_words v w sv sw h rests acks,
  control_settled g.L.Layout.layout g.L.Device.DeviceEnd.device g.L.Driver.DriverEnd.driver g.met.L.Layout.lawful x r k s n begun now
      words shadow_words v w sv sw h rests acks,
)
