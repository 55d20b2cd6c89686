use Rattle.vd_ring.specs.declared.device.DeviceView.{DeviceView}
use Rattle.vd_words.specs.Own.{IsOwn}
use Rattle.vd_layout.specs.DeviceFinish.{DeviceGoing}
use Rattle.vd_layout.proofs.finish.finish_device.Given as goal

-- for each view that the end stood for, the operation is on its way
abbrev pub invariant-loop-end : goal.invariant-loop-end
invariant-loop-end g l = (v : DeviceView) → g.E.DeviceEnd.device.stands l.initial.end v
    → IsOwn g.P.Port.port g.E.DeviceEnd.device.side l.initial.port v
    → DeviceGoing g.P.Port.port g.E.DeviceEnd.device (g.E.DeviceEnd.device.begun l.initial.end) l.initial.port v l.port l.end l.answer

abbrev pub decreases-loop-end : goal.decreases-loop-end
decreases-loop-end g l = g.E.DeviceEnd.device.left l.end
