use Rattle.std.proofs.Common.{◌≡◌, ◌<◌, ℕ, slice_get, arith, inl, inr, sym, refl, ap, subst, ◌∙◌}
use Rattle.std.specs.Vec.{with_item}
use Rattle.std.proofs.lemmas.Bool.{cases_eq}
use Rattle.std.proofs.lemmas.Option.{slice_get_read, slice_get_within}
use Rattle.vd_bus.specs.Device.{IsReset}
use Rattle.vd_play.specs.declared.bench.Bench.{Bench}
use Rattle.vd_play.proofs.Benches.{keeps_none, keeps_device, lanes_kept, faults_set}
use Rattle.vd_play.proofs.Each.{get_set_same, get_set_other}
use Rattle.vd_play.proofs.Lists.{some_same}
use Rattle.vd_play.proofs.Sums.{sum_set}
use Rattle.vd_play.proofs.renewing.reset_all.Goals as goal

pub loop-i-init : goal.loop-i-init
loop-i-init g c = record {
  parties = c.requires.parties;
  keeps = keeps_none g.V.Device.party _ c.args.bench.now;
  guests = refl;
  faults = refl;
  counted = refl;
  reset = λ q x y below hx hy. absurd (omega (arith, below));
  same = λ q above. refl;
}

pub reset-requires-clause-free : goal.reset-requires-clause-free
reset-requires-clause-free g c =
    let i = c.loop-i.i in
    let v = c.loop-i.invariant in
    let low : i < c.args.queues = c.loop-i-test.true in
    let hx = slice_get_read c.loop-i.bench.devices.items _ i c.index_mut.result.now refl (omega (arith, low, v.parties.devices))
    c.index_mut.ensures.value in
    (c.requires.devices i c.index_mut.result.now low (sym (v.same i (omega arith)) ∙ hx)).0

pub reset-requires-clause-room : goal.reset-requires-clause-room
reset-requires-clause-room g c =
    let i = c.loop-i.i in
    let v = c.loop-i.invariant in
    let low : i < c.args.queues = c.loop-i-test.true in
    let hx = slice_get_read c.loop-i.bench.devices.items _ i c.index_mut.result.now refl (omega (arith, low, v.parties.devices))
    c.index_mut.ensures.value in
    (c.requires.devices i c.index_mut.result.now low (sym (v.same i (omega arith)) ∙ hx)).1

pub loop-i-preserved : goal.loop-i-preserved
loop-i-preserved g c =
    let i = c.loop-i.i in
    let v = c.loop-i.invariant in
    let m = g.V.Device.party in
    let n : ℕ = c.args.queues in
    let low : i < n = c.loop-i-test.true in
    let old = c.index_mut.result.now in
    let new = c.reset.new.self in
    let xs = c.loop-i.bench.devices.items in
    let hx = slice_get_read xs _ i old refl (omega (arith, low, v.parties.devices)) c.index_mut.ensures.value in
    let bench : Bench _ _ = record { guests = c.loop-i.bench.guests; devices = with_item c.loop-i.bench.devices i new } in
    let keeps = keeps_device m n c.args.bench.now c.loop-i.bench i old new low (omega (arith, low, v.parties.guests)) v.keeps hx
    c.reset.ensures.noted.carried in
    record {
      parties = lanes_kept m n c.args.bench.now bench n keeps c.requires.parties;
      keeps = keeps;
      guests = v.guests;
      faults = faults_set m c.args.bench.now c.loop-i.bench bench i old new v.faults refl hx c.reset.ensures.noted.faults;
      counted = omega (arith, v.counted, c.reset.ensures.noted.counts.0, sum_set m.accesses xs i old new hx);
      reset = λ q x y below h0 h1. elim (cases_eq q i) [
        | inl e ↦
            let was : old ≡ x = some_same old x (slice_get c.args.bench.now.devices.items i) (sym (v.same i (omega arith)) ∙ hx)
            (ap (λ j. slice_get c.args.bench.now.devices.items j) (sym e) ∙ h0) in
            let is : new ≡ y = some_same new y (slice_get bench.devices.items i)
            (get_set_same xs i new (slice_get_within xs i old hx))
            (ap (λ j. slice_get bench.devices.items j) (sym e) ∙ h1) in
            subst (λ z. IsReset m z y) was (subst (λ z. IsReset m old z) is c.reset.ensures)
        | inr other ↦ v.reset q x y (omega (arith, below, other)) h0 (sym (get_set_other xs i q new other) ∙ h1)
      ];
      same = λ q above. get_set_other xs i q new (λ e. omega (arith, above, e)) ∙ v.same q (omega (arith, above));
    }

pub returns-clause-reset : goal.returns-clause-reset
returns-clause-reset g c = λ q x y below h0 h1. c.loop-i.invariant.reset q x y (omega (arith, below, c.loop-i-test.false)) h0 h1
