use Rattle.std.proofs.Common.{◌+◌, ap, ◌∙◌, arith}
use Rattle.vd_play.specs.Rings.{shadows_from}
use Rattle.vd_play.proofs.Rings.{shadow_count_few, counts_more, counts_all}
use Rattle.vd_play.proofs.shadows.shadow_epochs.Goals as goal

pub loop-switch-init : goal.loop-switch-init
loop-switch-init c = (omega arith, record { sum = omega arith })

pub overflow_add-count : goal.overflow_add-count
overflow_add-count c =
    omega (arith, c.loop-switch.invariant.0, c.shadow_count-count.ensures, shadow_count_few c.loop-switch.mode)

pub loop-switch-preserved : goal.loop-switch-preserved
loop-switch-preserved c =
    let v = c.loop-switch.invariant in (
      omega (arith, v.0, c.shadow_count-count.ensures, shadow_count_few c.loop-switch.mode),
      counts_more (shadows_from c.args.switches.now c.args.start) c.loop-switch.count _ c.loop-switch.mode _ c.args.switches.now
          c.loop-switch.switch-index _ c.loop-switch-test.true (ap (λ k. c.loop-switch.count + k) c.shadow_count-count.ensures)
          c.mode_after-mode.ensures v.1,
    )

pub overflow_add-result : goal.overflow_add-result
overflow_add-result c =
    omega (arith, c.loop-switch.invariant.0, c.shadow_count.ensures, shadow_count_few c.loop-switch.mode)

pub returns : goal.returns
returns c = ap (λ k. c.loop-switch.count + k) c.shadow_count.ensures
    ∙ counts_all (shadows_from c.args.switches.now c.args.start) c.loop-switch.count c.loop-switch.mode c.args.switches.now
    c.loop-switch.switch-index c.loop-switch-test.false c.loop-switch.invariant.1
