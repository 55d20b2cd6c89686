use Rattle.std.proofs.Common.{◌+◌, ◌-◌, arith}
use Rattle.vd_machine.specs.Made.{made_run, made_runs}
use Rattle.vd_machine.proofs.Drawing.{left_less, left_none}
use Rattle.vd_machine.proofs.making.made_runs.Goals as goal

pub loop-preserved : goal.loop-preserved
loop-preserved c =
    rw c.in_ok-push.ensures.items
    (left_less made_run 1000 c.args.draws.now.last (1000 - c.loop.counter) c.loop.draws.last c.loop.found.items c.made_run.result
    c.made_run.new.draws.last (1000 - (c.loop.counter + 1)) (omega arith) c.made_run.ensures.value c.made_run.ensures.next
    c.loop.invariant)

pub returns : goal.returns
unfolding made_runs
returns c =
    let d = left_none made_run 1000 c.args.draws.now.last (1000 - c.loop.counter) c.loop.draws.last c.loop.found.items (omega arith)
    c.loop.invariant in
    d.items
