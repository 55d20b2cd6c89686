use Rattle.vd_control_lane.proofs.Sent.{script_sent}
use Rattle.vd_control_lane.proofs.laws.sent_law.Goals as goal

pub returns : goal.returns
returns g c = λ s x v holds script some can.
    script_sent g.L.Driver.DriverEnd.driver.words s v (g.met.G.Guest.lawful.sent x v s holds script some) can
