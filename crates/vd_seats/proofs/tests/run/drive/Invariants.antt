use Rattle.vd_ring.specs.declared.driver.DriverView.{DriverView}
use Rattle.vd_layout.specs.Runs.{DriverOn, DriverRan}
use Rattle.vd_seats.specs.Open.{IsOpen}
use Rattle.vd_seats.proofs.tests.run.drive.Given as goal

abbrev pub invariant-loop : goal.invariant-loop
invariant-loop g l =
    (goal.iterator-loop g).can_next l.iterator' × (goal.iterator-loop g).is_finite l.iterator'
    × ((v : DriverView) → DriverOn g.P.Port.port g.E.DriverEnd.driver l.fn.port v l.fn.end → IsOpen v.frame
    → DriverRan g.P.Port.port g.E.DriverEnd.driver l.fn.port v l.port l.end)
