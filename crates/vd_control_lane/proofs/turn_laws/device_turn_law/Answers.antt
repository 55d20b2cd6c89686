use Rattle.vd_control_lane.proofs.DeviceTurns.{device_keeps}
use Rattle.vd_control_lane.proofs.turn_laws.device_turn_law.Goals as goal

pub returns : goal.returns
returns g c = λ x r k s n words shadow_words shadow_words2 v w sv sw y z made h off attached for_control from t.
    device_keeps g.L.Layout.layout g.L.Device.DeviceEnd.device g.L.Driver.DriverEnd.driver g.V.Device.party g.met.V.Device.lawful x r k s
    n words shadow_words shadow_words2 v w sv sw y z made h off attached for_control from t
