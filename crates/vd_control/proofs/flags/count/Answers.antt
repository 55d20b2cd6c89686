use Rattle.std.proofs.Common.{◌+◌, arith, ap, length, sym}
use Rattle.vd_control.specs.Settings.{has_flag}
use Rattle.vd_control.proofs.Passing.{passing-none, length-passing, length-passing-more}
use Rattle.vd_control.proofs.flags.count.Goals as goal

pub loop-on-init : goal.loop-on-init
loop-on-init c = sym (ap length (passing-none (has_flag c.args.flags.now)))

pub overflow_add-count : goal.overflow_add-count
overflow_add-count c =
    let on = has_flag c.args.flags.now in
    omega (arith, length-passing-more on c.loop-on.on-index, length-passing on (c.loop-on.on-index + 1))

pub loop-on-preserved : goal.loop-on-preserved
loop-on-preserved c = omega (arith, length-passing-more (has_flag c.args.flags.now) c.loop-on.on-index)

pub returns-clause-most : goal.returns-clause-most
returns-clause-most c = omega (arith, length-passing (has_flag c.args.flags.now) c.loop-on.on-index)
