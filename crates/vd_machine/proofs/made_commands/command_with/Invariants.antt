use Rattle.std.proofs.Common.{◌≡◌, take}
use Rattle.vd_machine.proofs.made_commands.command_with.Given as goal

abbrev pub invariant-loop-byte : goal.invariant-loop-byte
invariant-loop-byte l = l.command.items ≡ take l.byte-index l.bytes
