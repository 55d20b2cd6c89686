use Rattle.std.proofs.Common.{◌≡◌, ◌<◌, ℕ, None, length, inl, inr, arith, sym, ◌∙◌, ap, subst}
use Rattle.std.proofs.lemmas.Bool.{cases_eq}
use Rattle.vd_uapi.specs.declared.vring_addr.VringAddr.{VringAddr}
use Rattle.vd_bus.specs.Bus.{BusState}
use Rattle.vd_bus.specs.BusRings.{after_addr, still_fault}
use Rattle.vd_machine.proofs.Facts.{few_queues}
use Rattle.vd_machine.specs.File.{view, Plan}
use Rattle.vd_play.specs.Journal.{ring_in}
use Rattle.vd_play.specs.Setup.{ring_addr, Stands, IsRing, vring_at}
use Rattle.vd_play.proofs.Buses.{no_still_fault, stands_vrings, same_put}
use Rattle.vd_play.proofs.ControlRings.{control_addressed, control_addressed_is}
use Rattle.vd_play.proofs.Places.{data_at}
use Rattle.vd_play.proofs.RingsSet.{addressed_is, addressed_here, addressed_other, addressed_sizes}
use Rattle.vd_play.proofs.setup.set_addrs.Goals as goal

pub loop-q-preserved : goal.loop-q-preserved
loop-q-preserved c =
    let plan : Plan = view c.args.m.now in
    let v = c.loop-q.invariant in
    let b : BusState = c.loop-q.bus in
    let n : BusState = c.set_addr.new.bus in
    let q : ℕ = c.loop-q.q in
    let ring : ℕ = ring_in c.args.mode c.args.epoch q in
    let low : q < length c.args.m.now.queues = omega (arith, c.loop-q-test.true, c.len-q-end.ensures) in
    let s : Stands plan b = stands_vrings plan c.args.bus.now b b.vrings v.same c.requires.stands in
    let at = data_at plan q low in
    let made : n ≡ after_addr b (ring_addr plan.packed plan.size q ring) = c.set_addr.ensures
    ∙ ap (λ (a : VringAddr). after_addr b a) (c.ring_addr.ensures ∙ ap (ring_addr plan.packed plan.size q) c.ring_in-ring.ensures.value) in
    record {
      same = same_put c.args.bus.now b n _ v.same (addressed_is plan b s.is v.sizes.many q q at ring n made);
      sizes = addressed_sizes plan b s.is v.sizes.many q q at ring n made v.sizes;
      each = λ k less. elim (cases_eq k q) [
        | inl e ↦ subst (λ (j : ℕ). IsRing plan (ring_in c.args.mode c.args.epoch j) j (vring_at plan n j)) (sym e)
            (addressed_here plan b s.is v.sizes.many q q at ring n made (v.sizes.each q at.within))
        | inr other ↦ addressed_other plan b s.is v.sizes.many q q at ring n made (ring_in c.args.mode c.args.epoch k) k k other
            (v.each k (omega (arith, less, other)))
      ];
    }

pub set_addr-requires : goal.set_addr-requires
set_addr-requires c =
    let plan : Plan = view c.args.m.now in
    let b : BusState = c.loop-q.bus in
    let q : ℕ = c.loop-q.q in
    let low : q < length c.args.m.now.queues = omega (arith, c.loop-q-test.true, c.len-q-end.ensures) in
    let s : Stands plan b = stands_vrings plan c.args.bus.now b b.vrings c.loop-q.invariant.same c.requires.stands in
    subst (λ (a : VringAddr). still_fault b a.index ≡ None) (sym c.ring_addr.ensures)
    (no_still_fault plan b.status b.suspended b.vrings b.map b s.is q q (data_at plan q low) s.still)

pub set_control_addr-requires-clause-stands : goal.set_control_addr-requires-clause-stands
set_control_addr-requires-clause-stands c =
    stands_vrings (view c.args.m.now) c.args.bus.now c.loop-q.bus c.loop-q.bus.vrings c.loop-q.invariant.same c.requires.stands

pub returns-clause-same : goal.returns-clause-same
returns-clause-same c =
    let plan : Plan = view c.args.m.now in
    let b : BusState = c.loop-q.bus in
    let few = few_queues c.args.m.now.queues c.args.m.now.counted in
    let s : Stands plan b = stands_vrings plan c.args.bus.now b b.vrings c.loop-q.invariant.same c.requires.stands in
    same_put c.args.bus.now b c.set_control_addr.new.bus _ c.loop-q.invariant.same
    (control_addressed_is plan (omega (arith, few)) c.args.mode c.args.epoch b c.set_control_addr.new.bus s c.loop-q.invariant.sizes
    c.set_control_addr.ensures)

pub returns-clause-rings : goal.returns-clause-rings
returns-clause-rings c =
    let plan : Plan = view c.args.m.now in
    let b : BusState = c.loop-q.bus in
    let few = few_queues c.args.m.now.queues c.args.m.now.counted in
    let s : Stands plan b = stands_vrings plan c.args.bus.now b b.vrings c.loop-q.invariant.same c.requires.stands in
    control_addressed plan (omega (arith, few)) c.args.mode c.args.epoch b c.set_control_addr.new.bus s c.loop-q.invariant.sizes
    (λ k low. c.loop-q.invariant.each k (omega (arith, low, c.loop-q-test.false, c.len-q-end.ensures))) c.set_control_addr.ensures
