use Rattle.std.proofs.Common.{◌≤◌, false, [], length, arith, sym, ◌∙◌}
use Rattle.vd_bus.specs.Bus.{control_queue}
use Rattle.vd_machine.proofs.Facts.{few_queues}
use Rattle.vd_machine.specs.File.{view, Plan}
use Rattle.vd_play.specs.Places.{HasControl, control_place}
use Rattle.vd_play.proofs.Buses.{there}
use Rattle.vd_play.proofs.Places.{control_at}
use Rattle.vd_play.proofs.control_ring.bring_control.Goals as goal

pub bring_ring-requires-clause-there : goal.bring_ring-requires-clause-there
bring_ring-requires-clause-there c =
    let plan : Plan = view c.args.m.now in
    let few : length c.args.m.now.queues ≤ control_queue = omega (arith, few_queues c.args.m.now.queues c.args.m.now.counted) in
    let has : HasControl plan = sym c.is_some.ensures ∙ c.if-is_some.true in
    there plan 11 false c.args.bus.now.vrings [] c.args.bus.now c.requires.brought control_queue (control_place plan)
    (control_at plan few has)
