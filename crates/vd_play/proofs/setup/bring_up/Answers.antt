use Rattle.std.proofs.Common.{◌≡◌, ◌<◌, ℕ, false, length, inl, inr, arith, sym, ◌∙◌, ap, subst}
use Rattle.std.proofs.lemmas.Bool.{cases_eq}
use Rattle.vd_bus.specs.Bus.{BusState}
use Rattle.vd_machine.proofs.Facts.{few_queues}
use Rattle.vd_machine.specs.File.{view, Plan}
use Rattle.vd_play.specs.ControlRing.{with_ring}
use Rattle.vd_play.specs.Journal.{ring_in}
use Rattle.vd_play.specs.Setup.{IsRing, vring_at}
use Rattle.vd_play.proofs.Buses.{there}
use Rattle.vd_play.proofs.ControlRings.{ring_brought, ring_many, ring_here, ring_other, control_brought, rings_brought}
use Rattle.vd_play.proofs.Places.{data_at}
use Rattle.vd_play.proofs.setup.bring_up.Goals as goal

pub bring_ring-requires-clause-there : goal.bring_ring-requires-clause-there
bring_ring-requires-clause-there c =
    let plan : Plan = view c.args.m.now in
    let low : c.loop-q.q < length c.args.m.now.queues = omega (arith, c.loop-q-test.true, c.len-q-end.ensures) in
    there plan 11 false c.loop-q.bus.vrings _ c.loop-q.bus c.loop-q.invariant.brought c.loop-q.q c.loop-q.q (data_at plan c.loop-q.q low)

pub loop-q-preserved : goal.loop-q-preserved
loop-q-preserved c =
    let plan : Plan = view c.args.m.now in
    let v = c.loop-q.invariant in
    let b : BusState = c.loop-q.bus in
    let n : BusState = c.bring_ring.new.bus in
    let q : ℕ = c.loop-q.q in
    let ring : ℕ = ring_in c.args.mode c.args.epoch q in
    let low : q < length c.args.m.now.queues = omega (arith, c.loop-q-test.true, c.len-q-end.ensures) in
    let at = data_at plan q low in
    let made : n ≡ with_ring plan q ring b = c.bring_ring.ensures ∙ ap (λ (r : ℕ). with_ring plan q r b) c.ring_in-ring.ensures.value in
    record {
      brought = ring_brought plan b v.brought v.many q q at ring n made;
      many = ring_many plan b v.brought v.many q q at ring n made;
      each = λ k less. elim (cases_eq k q) [
        | inl e ↦ subst (λ (j : ℕ). IsRing plan (ring_in c.args.mode c.args.epoch j) j (vring_at plan n j)) (sym e)
            (ring_here plan b v.brought v.many q q at ring n made)
        | inr other ↦ ring_other plan b v.brought v.many q q at ring n made (ring_in c.args.mode c.args.epoch k) k k other
            (v.each k (omega (arith, less, other)))
      ];
    }

pub returns-clause-brought : goal.returns-clause-brought
returns-clause-brought c =
    let few = few_queues c.args.m.now.queues c.args.m.now.counted in
    control_brought (view c.args.m.now) (omega (arith, few)) c.args.mode c.args.epoch c.loop-q.bus c.bring_control.new.bus
    c.loop-q.invariant.brought c.loop-q.invariant.many c.bring_control.ensures

pub returns-clause-rings : goal.returns-clause-rings
returns-clause-rings c =
    let few = few_queues c.args.m.now.queues c.args.m.now.counted in
    rings_brought (view c.args.m.now) (omega (arith, few)) c.args.mode c.args.epoch c.loop-q.bus c.bring_control.new.bus
    c.loop-q.invariant.brought c.loop-q.invariant.many
    (λ k low. c.loop-q.invariant.each k (omega (arith, low, c.loop-q-test.false, c.len-q-end.ensures))) c.bring_control.ensures
