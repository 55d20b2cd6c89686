use Rattle.std.proofs.Common.{◌+◌, ◌*◌, arith, ap, length, sym}
use Rattle.vd_control.specs.Settings.{has_vlan}
use Rattle.vd_control.proofs.Passing.{passing-none, length-passing}
use Rattle.vd_control.proofs.Ones.{length-words-more}
use Rattle.vd_control.proofs.vlans.count.Goals as goal

pub loop-word-init : goal.loop-word-init
loop-word-init c = sym (ap length (passing-none (has_vlan c.args.words.now)))

pub overflow_add-count : goal.overflow_add-count
overflow_add-count c =
    let has = has_vlan c.args.words.now in
    omega (
      arith,
      length-words-more c.args.words.now c.loop-word.word-index (omega arith),
      length-passing has (64 * (c.loop-word.word-index + 1)),
    )

pub loop-word-preserved : goal.loop-word-preserved
loop-word-preserved c =
    omega (arith, length-words-more c.args.words.now c.loop-word.word-index (omega arith))

pub returns-clause-most : goal.returns-clause-most
returns-clause-most c = omega (arith, length-passing (has_vlan c.args.words.now) (64 * c.loop-word.word-index))
