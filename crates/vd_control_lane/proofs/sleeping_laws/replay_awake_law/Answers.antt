use Rattle.vd_control_lane.proofs.Sleeping.{replay_awake}
use Rattle.vd_control_lane.proofs.sleeping_laws.replay_awake_law.Goals as goal

pub returns : goal.returns
returns g c = replay_awake g.L.Device.DeviceEnd.device g.L.Driver.DriverEnd.driver g.L.Layout.layout g.met.L.Layout.lawful
