use Rattle.std.proofs.Common.{◌≡◌, ◌++◌, drop}
use Rattle.vd_text.specs.Commands.{command_text}
use Rattle.vd_text.proofs.commands.print_command.Given as goal

abbrev pub invariant-loop-byte : goal.invariant-loop-byte
invariant-loop-byte l = l.out.items ++ command_text (drop l.byte-index l.command) ≡ l.fn.out.items ++ command_text l.command
