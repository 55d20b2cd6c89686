use Rattle.std.proofs.Common.{◌∙◌}
use Rattle.vd_machine.proofs.CanonSwitches.{more_switch}
use Rattle.vd_machine.proofs.switch_lines.print_more_switches.Goals as goal

pub loop-switch-preserved : goal.loop-switch-preserved
loop-switch-preserved c =
    more_switch c.loop-switch.out.items c.push_text.new.out.items c.print_switch.new.out.items c.args.switches.now
    c.loop-switch.switch-index _ c.loop-switch-test.true c.in_ok-push_text.ensures c.in_ok-print_switch.ensures ∙ c.loop-switch.invariant
