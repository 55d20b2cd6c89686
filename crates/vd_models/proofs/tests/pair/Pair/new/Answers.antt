use Rattle.std.proofs.Common.{None, ◌≤◌, ◌∙◌, ℕ, List, subst, ap, refl, sym, replicate, false, arith, inr, rules, length}
use Rattle.vd_model.specs.Chains.{IsChain, readable, writable}
use Rattle.vd_ring.specs.declared.frame.Frame.{Frame}
use Rattle.vd_layout.specs.Layout.{IsMadeWith}
use Rattle.vd_ring.specs.declared.device.DeviceView.{DeviceView}
use Rattle.vd_ring.specs.declared.driver.DriverView.{DriverView}
use Rattle.vd_ring.specs.Fresh.{fresh_driver, fresh_device}
use Rattle.vd_layout.specs.Both.{plain_frame}
use Rattle.vd_models.specs.laws.Pairs.{can_boot, may_stand}
use Rattle.vd_models.proofs.tests.pair.Pair.new.Goals as goal

pub invariant_of-result : goal.invariant_of-result
invariant_of-result g c =
    let l = g.L.Layout.layout in
    let f : Frame = plain_frame l 0 c.args.size c.args.f false None in
    let with : IsMadeWith l c.args.size c.args.f false f = record { packed = refl; size = refl; features = refl; control = refl } in
    let wide = c.words.ensures f with in
    let fresh = c.in_ok-driver.ensures in
    let words = c.in_ok-words.ensures.1 ∙ ap (λ n. replicate n 0) wide in
    let view : DriverView = fresh_driver f (l.width f) in
    let device_view : DeviceView = fresh_device f (l.width f) in
    let chain : IsChain c.args.chain.now = search rules in
    let short : length c.args.chain.now ≤ c.args.size = search rules in
    let read : readable c.args.chain.now ≤ 1000000 = search rules in
    let write : writable c.args.chain.now ≤ 1000000 = search rules in
    record {
      view = view;
      device_view = device_view;
      ring = subst (λ (us : List ℕ). l.ring us view device_view) (sym words)
          (g.met.L.Layout.lawful.opens c.args.size c.args.f false f c.requires.can with);
      control = refl;
      drives = c.boot.ensures.holds view c.in_ok-script.script (c.in_ok-load.ensures.ok.1) (fresh.drives f with) (can_boot l f
          (l.width f) c.in_ok-script.script c.args.count c.args.chain.now c.in_ok-script.ensures
          (may_stand f c.args.chain.now chain short read write refl) refl);
      at = record { stands = fresh.serves f with; still = inr fresh.unused; free = c.reserve.ensures.same.attached ∙ c.requires.device };
      events = omega (arith, c.in_ok-reserve.ensures.room);
      chains = omega (arith, c.in_ok-reserve.ensures.room);
    }
