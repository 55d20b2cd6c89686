use Rattle.std.proofs.Common.{sym, arith, ◌+◌}
use Rattle.vd_text.proofs.Digits.{more_digits, more_all, too_large}
use Rattle.vd_text.proofs.reading.number_in.Goals as goal

pub returns-then-next-most-clause-value : goal.returns-then-next-most-clause-value
returns-then-next-most-clause-value c =
    let m = more_digits c.args.digits.now c.loop-digit.digit-index _ c.loop-digit-test.true c.loop-digit.invariant.value
    c.if-not-is_ascii_digit.ensures.cases in
    let t = c.if-next-most.true in
    sym (too_large c.args.low c.args.most c.args.digits.now (c.loop-digit.digit-index + 1) (omega (arith, m, t)))

pub loop-digit-preserved : goal.loop-digit-preserved
loop-digit-preserved c = record {
  value = more_digits c.args.digits.now c.loop-digit.digit-index _ c.loop-digit-test.true c.loop-digit.invariant.value
      c.if-not-is_ascii_digit.ensures.cases;
  digits = more_all c.args.digits.now c.loop-digit.digit-index c.loop-digit-test.true c.loop-digit.invariant.digits
      (sym c.if-not-is_ascii_digit.ensures.value);
  small = c.if-next-most.false;
}
