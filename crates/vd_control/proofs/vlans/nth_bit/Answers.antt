use Rattle.std.proofs.Common.{◌≡◌, arith, ap, sym, ◌∙◌, slice_get}
use Rattle.std.specs.Int.{w64}
use Rattle.std.proofs.lemmas.Nat.Bits.{bit_at-trailing_zeros}
use Rattle.vd_control.specs.Settings.{has_bit, passing}
use Rattle.vd_control.proofs.Ones.{some_left, one_less_left, next_left}
use Rattle.vd_control.proofs.vlans.nth_bit.Goals as goal

pub overflow_shl-word : goal.overflow_shl-word
overflow_shl-word c =
    let some = some_left c.args.word c.loop.word c.loop.counter (omega arith) (omega arith) c.loop.invariant (omega arith) in
    (bit_at-trailing_zeros w64 c.loop.word some (omega arith)).0

pub loop-preserved : goal.loop-preserved
loop-preserved c =
    let some = some_left c.args.word c.loop.word c.loop.counter (omega arith) (omega arith) c.loop.invariant (omega arith) in
    one_less_left c.args.word c.loop.word c.loop.counter some (omega arith) c.loop.invariant

pub returns-clause-value : goal.returns-clause-value
returns-clause-value c =
    let last : c.loop.counter ≡ c.args.nth = omega arith in
    let some = some_left c.args.word c.loop.word c.loop.counter (omega arith) (omega arith) c.loop.invariant (omega arith) in
    ap (slice_get (passing (has_bit c.args.word) 64)) (sym last) ∙ next_left c.args.word c.loop.word c.loop.counter some
    (omega arith) c.loop.invariant

pub returns-clause-small : goal.returns-clause-small
returns-clause-small c =
    let some = some_left c.args.word c.loop.word c.loop.counter (omega arith) (omega arith) c.loop.invariant (omega arith) in
    (bit_at-trailing_zeros w64 c.loop.word some (omega arith)).0
