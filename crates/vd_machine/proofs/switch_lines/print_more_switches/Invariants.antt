use Rattle.std.proofs.Common.{◌≡◌, ◌++◌, drop, map}
use Rattle.vd_machine.specs.Canon.{more_items, switch_text}
use Rattle.vd_machine.proofs.switch_lines.print_more_switches.Given as goal

abbrev pub invariant-loop-switch : goal.invariant-loop-switch
invariant-loop-switch l =
    l.out.items ++ more_items (map switch_text (drop l.switch-index l.switches)) ≡ l.fn.out.items ++ more_items (map switch_text l.switches)
