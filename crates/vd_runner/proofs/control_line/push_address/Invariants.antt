use Rattle.std.proofs.Common.{◌≡◌, ◌+◌, ◌*◌, ◌++◌, drop}
use Rattle.arrayvec.specs.ArrayString.{array_string_len}
use Rattle.hex.specs.Hex.{encode_lower}
use Rattle.vd_runner.proofs.control_line.push_address.Given as goal

abbrev pub invariant-loop-byte : goal.invariant-loop-byte
invariant-loop-byte l = record {
  bytes : l.line.bytes ++ encode_lower (drop l.byte-index l.mac) ≡ l.fn.line.bytes ++ encode_lower l.mac;
  len : array_string_len l.line ≡ array_string_len l.fn.line + 2 * l.byte-index;
}
