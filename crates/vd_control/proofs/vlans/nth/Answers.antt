use Rattle.std.proofs.Common.{◌≡◌, ◌+◌, ◌*◌, arith, ap, length, ◌∙◌, slice_get}
use Rattle.vd_control.specs.Settings.{has_vlan, passing}
use Rattle.vd_control.proofs.Passing.{passing-none}
use Rattle.vd_control.proofs.Ones.{length-words-more, vlan_in_word}
use Rattle.vd_control.proofs.vlans.nth.Goals as goal

pub loop-i-init : goal.loop-i-init
loop-i-init c = omega (arith, ap length (passing-none (has_vlan c.args.words.now)))

pub returns-then-left-ones-clause-value : goal.returns-then-left-ones-clause-value
returns-then-left-ones-clause-value c =
    let has = has_vlan c.args.words.now in
    let at : c.args.nth ≡ length (passing has (64 * c.loop-i.i)) + c.loop-i.left = omega arith in
    ap (slice_get (passing has 4096)) at
    ∙ vlan_in_word c.args.words.now c.loop-i.i c.loop-i.left c.nth_bit.result c.loop-i-test.true c.nth_bit.ensures.value

pub loop-i-preserved : goal.loop-i-preserved
loop-i-preserved c = omega (arith, length-words-more c.args.words.now c.loop-i.i (c.fits-words c.loop-i.i))
