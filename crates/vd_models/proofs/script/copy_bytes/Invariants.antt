use Rattle.std.proofs.Common.{◌≡◌, take}
use Rattle.vd_models.proofs.script.copy_bytes.Given as goal

abbrev pub invariant-loop-byte : goal.invariant-loop-byte
invariant-loop-byte l = l.copy.items ≡ take l.byte-index l.byte-items
