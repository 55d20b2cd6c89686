use Rattle.vd_ring.specs.declared.device.DeviceView.{DeviceView}
use Rattle.vd_layout.specs.Runs.{DeviceOn, DeviceRan}
use Rattle.vd_seats.proofs.tests.run.serve.Given as goal

abbrev pub invariant-loop : goal.invariant-loop
invariant-loop g l =
    (goal.iterator-loop g).can_next l.iterator' × (goal.iterator-loop g).is_finite l.iterator'
    × ((w : DeviceView) → DeviceOn g.P.Port.port g.E.DeviceEnd.device l.fn.port w l.fn.end
    → DeviceRan g.P.Port.port g.E.DeviceEnd.device l.fn.port w l.port l.end)
