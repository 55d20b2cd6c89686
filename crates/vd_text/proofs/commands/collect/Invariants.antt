use Rattle.std.proofs.Common.{◌≡◌, take}
use Rattle.vd_text.proofs.commands.collect.Given as goal

abbrev pub invariant-loop-byte : goal.invariant-loop-byte
invariant-loop-byte l = l.found.items ≡ take l.byte-index l.bytes
