use Rattle.std.proofs.Common.{◌≡◌, ℕ, ◌≤◌, None, length, arith, sym, ◌∙◌, subst}
use Rattle.vd_bus.specs.Bus.{BusState, control_queue}
use Rattle.vd_bus.specs.BusRings.{base_fault}
use Rattle.vd_machine.proofs.Facts.{few_queues}
use Rattle.vd_machine.specs.File.{view, Plan}
use Rattle.vd_play.specs.Places.{HasControl, control_place}
use Rattle.vd_play.proofs.Places.{control_at}
use Rattle.vd_play.proofs.RingsSet.{no_fault_of_base}
use Rattle.vd_play.proofs.control_ring.set_control_base.Goals as goal

pub set_base-requires : goal.set_base-requires
set_base-requires g c =
    let plan : Plan = view c.args.m.now in
    let b : BusState = c.args.bus.now in
    let fresh : ℕ = g.L.Layout.layout.fresh_base in
    let few : length c.args.m.now.queues ≤ control_queue = omega (arith, few_queues c.args.m.now.queues c.args.m.now.counted) in
    let has : HasControl plan = sym c.is_some.ensures ∙ c.if-is_some.true in
    let at = control_at plan few has in
    subst (λ (n : ℕ). base_fault b (record { index = control_queue; num = n }) ≡ None) (sym c.fresh_base.ensures)
    (no_fault_of_base plan b c.requires.stands.is c.requires.sizes.many control_queue (control_place plan) at fresh
    c.requires.stands.still (c.requires.sizes.each (control_place plan) at.within)
    (sym (c.requires.layout.based fresh) ∙ g.met.L.Layout.lawful.fresh_based plan.size c.requires.layout.lawful))
