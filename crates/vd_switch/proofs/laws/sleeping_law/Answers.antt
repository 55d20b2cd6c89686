use Rattle.vd_relay.specs.Tie.{moves}
use Rattle.vd_switch.proofs.Asleep.{sleeps}
use Rattle.vd_switch.proofs.laws.sleeping_law.Goals as goal

pub returns : goal.returns
returns g c = λ z r w v h live hearing guest_idle shadow_idle.
    sleeps g.L.Device.DeviceEnd.device g.L.Driver.DriverEnd.driver g.met.L.Layout.lawful.device_end g.met.L.Layout.lawful.driver_end
    (moves z) r w v h live hearing guest_idle shadow_idle
