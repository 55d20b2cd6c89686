use Rattle.std.proofs.Common.{◌≡◌, ◌≤◌, List, ℕ, true, false, refl, subst, sym, ◌∙◌, arith}
use Rattle.std.specs.Prelude.{flat_map}
use Rattle.vd_control.specs.Settings.{has_vlan, passing}
use Rattle.vd_runner.specs.CommandReport.{vlan_line}
use Rattle.vd_runner.proofs.ControlLines.{vlans_begin, vlan_there, vlan_not, vlans_end}
use Rattle.vd_runner.proofs.Midway.{Midway, begin, go_on, done, broken_off}
use Rattle.vd_runner.proofs.control.put_vlans.Goals as goal
use Rattle.vd_runner.proofs.control.put_vlans.Goals.{then-has_vlan+in-Ok, else-has_vlan}

pub loop-vlan-init : goal.loop-vlan-init
loop-vlan-init g c =
    let held = g.K.Sink.held c.args.sink.now in
    let whole = flat_map vlan_line (passing (has_vlan c.args.vlans.now) 4096) in
    record {
      midway = subst (λ (rest : List ℕ). Midway held held whole rest) (vlans_begin (has_vlan c.args.vlans.now) 4096) (begin held whole);
      same = refl;
    }

pub returns-in-Err-clause-err : goal.returns-in-Err-clause-err
returns-in-Err-clause-err g c =
    let has = has_vlan c.args.vlans.now in
    let m = rw (vlan_there has c.loop-vlan.vlan 4096 c.loop-vlan-test.true (sym c.has_vlan.ensures ∙ c.if-has_vlan.true)) at
    c.loop-vlan.invariant.midway in
    broken_off _ _ _ _ _ _ m (rw c.vlan_line.ensures at c.in-Err.ensures.err)

pub loop-vlan-preserved : goal.loop-vlan-preserved
loop-vlan-preserved g c =
    let has = has_vlan c.args.vlans.now in
    elim c.if-has_vlan.branch [
      | then-has_vlan+in-Ok w ↦
          let m = rw (vlan_there has c.loop-vlan.vlan 4096 c.loop-vlan-test.true (sym c.has_vlan.ensures ∙ w.if-has_vlan.true)) at
          c.loop-vlan.invariant.midway in
          rw w.sink-is (record {
            midway = go_on _ _ _ _ _ _ m (rw w.vlan_line.ensures at w.in-Ok.ensures.ok);
            same = w.in-Ok.ensures.cause.ok ∙ c.loop-vlan.invariant.same;
          })
      | else-has_vlan w ↦
          let m = rw (vlan_not has c.loop-vlan.vlan 4096 c.loop-vlan-test.true (sym c.has_vlan.ensures ∙ w.if-has_vlan.false)) at
          c.loop-vlan.invariant.midway in
          rw w.sink-is (record { midway = m; same = c.loop-vlan.invariant.same })
    ]

pub returns-clause-ok : goal.returns-clause-ok
returns-clause-ok g c =
    let past : 4096 ≤ c.loop-vlan.vlan = c.loop-vlan-test.false in
    done _ _ _ (rw (vlans_end (has_vlan c.args.vlans.now) c.loop-vlan.vlan 4096 past) at c.loop-vlan.invariant.midway)
