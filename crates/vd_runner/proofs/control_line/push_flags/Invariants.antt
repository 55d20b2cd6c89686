use Rattle.std.proofs.Common.{◌≡◌, ◌+◌, ◌++◌, take}
use Rattle.std.specs.Prelude.{flat_map}
use Rattle.arrayvec.specs.ArrayString.{array_string_len}
use Rattle.vd_runner.specs.CommandReport.{flag_text}
use Rattle.vd_runner.proofs.control_line.push_flags.Given as goal

abbrev pub invariant-loop-on : goal.invariant-loop-on
invariant-loop-on l = record {
  bytes : l.line.bytes ≡ l.fn.line.bytes ++ flat_map flag_text (take l.on-index l.flags);
  len : array_string_len l.line ≡ array_string_len l.fn.line + l.on-index;
}
