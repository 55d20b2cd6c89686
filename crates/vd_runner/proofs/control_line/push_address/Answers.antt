use Rattle.std.proofs.Common.{◌≡◌, ◌<◌, ◌≤◌, length, sym, ◌∙◌, arith}
use Rattle.vd_runner.proofs.ControlLines.{byte_more, byte_last}
use Rattle.vd_runner.proofs.control_line.push_address.Goals as goal

pub loop-byte-preserved : goal.loop-byte-preserved
loop-byte-preserved c =
    let below : c.loop-byte.byte-index < length c.args.mac.now = omega arith in
    record {
      bytes = byte_more c.loop-byte.line.bytes c.push_digit.new.line.bytes c.push_digit-in-loop-byte.new.line.bytes c.args.mac.now
          c.loop-byte.byte-index below c.push_digit.ensures.bytes c.push_digit-in-loop-byte.ensures.bytes
          ∙ c.loop-byte.invariant.bytes;
      len = omega (arith, c.push_digit.ensures.len, c.push_digit-in-loop-byte.ensures.len, c.loop-byte.invariant.len);
    }

pub returns-clause-bytes : goal.returns-clause-bytes
returns-clause-bytes c =
    let past : length c.args.mac.now ≤ c.loop-byte.byte-index = omega arith in
    sym (byte_last c.loop-byte.line.bytes c.args.mac.now c.loop-byte.byte-index past) ∙ c.loop-byte.invariant.bytes
