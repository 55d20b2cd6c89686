use Rattle.std.proofs.Common.{◌≡◌, ◌∷◌, take}
use Rattle.vd_control.proofs.command.bytes_of.Given as goal

abbrev pub invariant-loop-byte : goal.invariant-loop-byte
invariant-loop-byte l = l.bytes.items ≡ l.class ∷ l.code ∷ take l.byte-index l.payload
