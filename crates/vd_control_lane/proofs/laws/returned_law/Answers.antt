use Rattle.vd_control_lane.proofs.Returned.{all_returned}
use Rattle.vd_control_lane.proofs.laws.returned_law.Goals as goal

pub returns : goal.returns
returns g c = λ s x words v w ring holds script some can right ones.
    let law = g.met.G.Guest.lawful in
    all_returned g.L.Driver.DriverEnd.driver.words s v (law.sent x v s holds script some) can (g.G.Guest.party.returned x)
    (law.acked x v s holds script some) w.done (g.met.L.Layout.lawful.lists words v w ring) right ones
