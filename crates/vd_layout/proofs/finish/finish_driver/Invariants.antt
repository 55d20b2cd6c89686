use Rattle.vd_ring.specs.declared.driver.DriverView.{DriverView}
use Rattle.vd_words.specs.Own.{IsOwn}
use Rattle.vd_layout.specs.DriverFinish.{DriverGoing}
use Rattle.vd_layout.proofs.finish.finish_driver.Given as goal

-- for each view that the end stood for, the operation is on its way
abbrev pub invariant-loop-end : goal.invariant-loop-end
invariant-loop-end g l = (v : DriverView) → g.E.DriverEnd.driver.stands l.initial.end v
    → IsOwn g.P.Port.port g.E.DriverEnd.driver.side l.initial.port v
    → DriverGoing g.P.Port.port g.E.DriverEnd.driver (g.E.DriverEnd.driver.begun l.initial.end) l.initial.port v l.port l.end l.answer

abbrev pub decreases-loop-end : goal.decreases-loop-end
decreases-loop-end g l = g.E.DriverEnd.driver.left l.end
