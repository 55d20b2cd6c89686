use Rattle.std.proofs.Common.{◌≡◌, ◌≤◌, arith, ap, length, ◌∙◌, slice_get}
use Rattle.std.specs.Int.{from_bool}
use Rattle.std.proofs.lemmas.Bool.{both_ways}
use Rattle.vd_control.specs.Settings.{has_flag, passing}
use Rattle.vd_control.proofs.Passing.{passing-none, length-passing-more, passing_here, from_bool-on}
use Rattle.vd_control.proofs.flags.nth.Goals as goal
use Rattle.vd_control.proofs.flags.nth.Goals.{else-on-via-then-on+else-left-eq0, else-on-via-else-on}

pub loop-i-init : goal.loop-i-init
loop-i-init c = omega (arith, ap length (passing-none (has_flag c.args.flags.now)))

pub returns-then-left-eq0-clause-value : goal.returns-then-left-eq0-clause-value
returns-then-left-eq0-clause-value c =
    let on = has_flag c.args.flags.now in
    let at : c.args.nth ≡ length (passing on c.loop-i.i) = omega arith in
    ap (slice_get (passing on 6)) at ∙ passing_here on c.loop-i.i 6 c.loop-i-test.true c.if-on.true

pub loop-i-preserved : goal.loop-i-preserved
loop-i-preserved c =
    let on = has_flag c.args.flags.now in
    let more = length-passing-more on c.loop-i.i in
    let less : from_bool (on c.loop-i.i) ≤ c.loop-i.left =
    elim c.else-on.branch [
      | else-on-via-then-on+else-left-eq0 w ↦ from_bool-on (on c.loop-i.i) c.loop-i.left
          (λ _. omega (arith, w.if-left-eq0.false))
      | else-on-via-else-on w ↦ from_bool-on (on c.loop-i.i) c.loop-i.left
          (λ e. absurd (both_ways (on c.loop-i.i) w.if-on.false e))
    ] in
    omega arith
