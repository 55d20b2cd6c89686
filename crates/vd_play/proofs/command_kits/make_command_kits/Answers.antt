use Rattle.std.proofs.Common.{◌≡◌, ◌<◌, ℕ, ◌+◌, ◌-◌, arith, subst, sym}
use Rattle.vd_machine.specs.File.{view, Plan}
use Rattle.vd_play.specs.ControlRings.{HasControlKits}
use Rattle.vd_play.proofs.ControlKits.{control_kits_none, control_kits_more}
use Rattle.vd_play.proofs.command_kits.make_command_kits.Goals as goal

pub loop-i-init : goal.loop-i-init
loop-i-init g c = record {
  all = omega (arith, c.len-epochs.ensures);
  kits = control_kits_none g.L.Driver.DriverEnd.driver g.L.Device.DeviceEnd.device g.L.Layout.layout (view c.args.m.now)
      c.new-kits.result.items (c.len-epochs.result + 2 - 0) c.new-kits.ensures.items (omega (arith, c.len-epochs.ensures));
}

pub loop-i-preserved : goal.loop-i-preserved
loop-i-preserved g c =
    let plan : Plan = view c.args.m.now in
    let v = c.loop-i.invariant in
    let n : ℕ = c.len-epochs.result + 2 in
    let i : ℕ = c.loop-i.i in
    let less : i < n = omega (arith, c.loop-i-test.true) in
    let k : ℕ = n - 1 - i in
    let same : n - (i + 1) ≡ k = omega (arith, less) in
    let before : HasControlKits g.L.Driver.DriverEnd.driver g.L.Device.DeviceEnd.device g.L.Layout.layout plan (k + 1) c.loop-i.kits.items =
    subst (λ (j : ℕ). HasControlKits g.L.Driver.DriverEnd.driver g.L.Device.DeviceEnd.device g.L.Layout.layout plan j
    c.loop-i.kits.items) (omega (arith, less)) v.kits in
    record {
      all = v.all;
      kits = subst (λ (j : ℕ). HasControlKits g.L.Driver.DriverEnd.driver g.L.Device.DeviceEnd.device g.L.Layout.layout plan j
          c.push.new.self.items) (sym same)
          (control_kits_more g.L.Driver.DriverEnd.driver g.L.Device.DeviceEnd.device g.L.Layout.layout plan k c.loop-i.kits.items
          c.push.new.self.items _ c.in_ok-push.ensures.items c.in_ok-make_command_ring.ensures before);
    }

pub returns : goal.returns
returns g c =
    let last : c.len-epochs.result + 2 - c.loop-i.i ≡ 0 = omega (arith, c.loop-i-test.false) in
    subst (λ (k : ℕ). HasControlKits g.L.Driver.DriverEnd.driver g.L.Device.DeviceEnd.device g.L.Layout.layout (view c.args.m.now) k
    c.loop-i.kits.items) last c.loop-i.invariant.kits
