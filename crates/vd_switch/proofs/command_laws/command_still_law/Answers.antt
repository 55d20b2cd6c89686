use Rattle.vd_switch.proofs.CommandRests.{command_leaves, all_answered}
use Rattle.vd_switch.proofs.command_laws.command_still_law.Goals as goal

pub returns : goal.returns
returns g c = λ y r table settings begun now words shadow_words v w sv sw h is. (
  command_leaves g.L.Device.DeviceEnd.device g.L.Driver.DriverEnd.driver g.L.Layout.layout g.met.L.Layout.lawful y r table settings begun now words shadow_words v w sv sw h is,
  all_answered g.L.Device.DeviceEnd.device g.L.Driver.DriverEnd.driver g.L.Layout.layout g.met.L.Layout.lawful y r table settings begun now words shadow_words v w sv sw h is,
)
