use Rattle.std.proofs.Common.{◌≡◌, ◌<◌, ℕ, ◌+◌, ◌-◌, arith, subst, sym, refl, ap, ◌∙◌}
use denote.Enum.Bare.{sameb}
use Rattle.vd_model.specs.contracts.base.Mode.{the_type}
use Rattle.vd_machine.specs.File.{view, Plan}
use Rattle.vd_play.specs.Kits.{HasKits}
use Rattle.vd_play.proofs.KitsMade.{kits_none, kits_more, kits_same, is_shadow, not_shadow}
use Rattle.vd_play.proofs.preparing.make_kits.Goals as goal
use Rattle.vd_play.proofs.preparing.make_kits.Goals.{then-eq+in_ok-make_shadow_ring+in_ok-push, else-eq}

pub loop-i-init : goal.loop-i-init
loop-i-init g c = record {
  all = omega (arith, c.len-epochs.ensures);
  kits = kits_none g.L.Driver.DriverEnd.driver g.L.Device.DeviceEnd.device g.L.Layout.layout (view c.args.m.now) c.args.queue
      c.new-kits.result.items (c.len-epochs.result + 2 - 0) c.new-kits.ensures.items (omega (arith, c.len-epochs.ensures));
}

pub loop-i-preserved : goal.loop-i-preserved
loop-i-preserved g c =
    let plan : Plan = view c.args.m.now in
    let v = c.loop-i.invariant in
    let n : ℕ = c.len-epochs.result + 2 in
    let i : ℕ = c.loop-i.i in
    let less : i < n = omega (arith, c.loop-i-test.true) in
    let k : ℕ = n - 1 - i in
    let same : n - (i + 1) ≡ k = omega (arith, less) in
    let before : HasKits g.L.Driver.DriverEnd.driver g.L.Device.DeviceEnd.device g.L.Layout.layout plan c.args.queue (k + 1)
    c.loop-i.kits.items =
    subst (λ (j : ℕ). HasKits g.L.Driver.DriverEnd.driver g.L.Device.DeviceEnd.device g.L.Layout.layout plan c.args.queue j
    c.loop-i.kits.items) (omega (arith, less)) v.kits in
    record {
      all = v.all;
      kits = subst (λ (j : ℕ). HasKits g.L.Driver.DriverEnd.driver g.L.Device.DeviceEnd.device g.L.Layout.layout plan c.args.queue j
          c.if-eq.kits.items) (sym same) (elim c.if-eq.branch [
            | then-eq+in_ok-make_shadow_ring+in_ok-push w ↦
                kits_more g.L.Driver.DriverEnd.driver g.L.Device.DeviceEnd.device g.L.Layout.layout plan c.args.queue k c.loop-i.kits.items
                c.if-eq.kits.items _
                (sym c.mode_of.ensures ∙ is_shadow (sameb the_type) c.mode_of.result refl (sym c.eq.ensures ∙ w.if-eq.true))
                (ap (λ (z : _). z.items) w.kits-is ∙ w.in_ok-push.ensures.items) w.in_ok-make_shadow_ring.ensures before
            | else-eq w ↦
                subst (λ (z : _).
                HasKits g.L.Driver.DriverEnd.driver g.L.Device.DeviceEnd.device g.L.Layout.layout plan c.args.queue k z.items)
                (sym w.kits-is) (kits_same g.L.Driver.DriverEnd.driver g.L.Device.DeviceEnd.device g.L.Layout.layout plan c.args.queue k
                c.loop-i.kits.items (λ is. not_shadow (sameb the_type) c.mode_of.result refl (sym c.eq.ensures ∙ w.if-eq.false)
                (c.mode_of.ensures ∙ is)) before)
          ]);
    }

pub returns : goal.returns
returns g c =
    let last : c.len-epochs.result + 2 - c.loop-i.i ≡ 0 = omega (arith, c.loop-i-test.false) in
    subst (λ (k : ℕ). HasKits g.L.Driver.DriverEnd.driver g.L.Device.DeviceEnd.device g.L.Layout.layout (view c.args.m.now)
    c.args.queue k c.loop-i.kits.items) last c.loop-i.invariant.kits
