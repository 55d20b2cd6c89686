use Rattle.std.proofs.Common.{◌≡◌, ◌≤◌, None, length, arith, sym, ◌∙◌, subst}
use Rattle.vd_uapi.specs.declared.vring_addr.VringAddr.{VringAddr}
use Rattle.vd_bus.specs.Bus.{BusState, control_queue}
use Rattle.vd_bus.specs.BusRings.{still_fault}
use Rattle.vd_machine.proofs.Facts.{few_queues}
use Rattle.vd_machine.specs.File.{view, Plan}
use Rattle.vd_play.specs.Places.{HasControl, control_place}
use Rattle.vd_play.proofs.Buses.{no_still_fault}
use Rattle.vd_play.proofs.Places.{control_at}
use Rattle.vd_play.proofs.control_ring.set_control_addr.Goals as goal

pub set_addr-requires : goal.set_addr-requires
set_addr-requires c =
    let plan : Plan = view c.args.m.now in
    let b : BusState = c.args.bus.now in
    let few : length c.args.m.now.queues ≤ control_queue = omega (arith, few_queues c.args.m.now.queues c.args.m.now.counted) in
    let has : HasControl plan = sym c.is_some.ensures ∙ c.if-is_some.true in
    subst (λ (a : VringAddr). still_fault b a.index ≡ None) (sym c.ring_addr.ensures)
    (no_still_fault plan b.status b.suspended b.vrings b.map b c.requires.stands.is control_queue (control_place plan)
    (control_at plan few has) c.requires.stands.still)
