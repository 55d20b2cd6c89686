use Rattle.vd_switch.proofs.ControllingSettings.{device_sets, device_replayed}
use Rattle.vd_switch.proofs.control_settling_laws.control_settings_law.Goals as goal

pub returns : goal.returns
returns g c = λ x r k s n begun now words shadow_words v w sv sw h. (
  device_sets g.L.Layout.layout g.L.Device.DeviceEnd.device g.L.Driver.DriverEnd.driver g.met.L.Layout.lawful x r k s n begun now words
      shadow_words v w sv sw h,
  device_replayed g.L.Layout.layout g.L.Device.DeviceEnd.device g.L.Driver.DriverEnd.driver g.met.L.Layout.lawful x r k s n begun now
      words shadow_words v w sv sw h,
)
