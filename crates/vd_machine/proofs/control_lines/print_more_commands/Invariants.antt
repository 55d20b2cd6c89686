use Rattle.std.proofs.Common.{◌≡◌, ◌++◌, drop, map}
use Rattle.vd_machine.specs.Canon.{more_items, command_item}
use Rattle.vd_machine.proofs.control_lines.print_more_commands.Given as goal

abbrev pub invariant-loop-command : goal.invariant-loop-command
invariant-loop-command l =
    l.out.items ++ more_items (map command_item (drop l.command-index l.commands)) ≡ l.fn.out.items
    ++ more_items (map command_item l.commands)
