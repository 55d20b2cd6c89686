use Rattle.std.proofs.Common.{◌≡◌, ◌≤◌, length, ◌∙◌, arith}
use Rattle.vd_bus.specs.GuestCommands.{commands}
use Rattle.vd_runner.proofs.ControlLines.{command_at}
use Rattle.vd_runner.proofs.Midway.{go_on, broken_off}
use Rattle.vd_runner.proofs.control.put_commands.Goals as goal

pub returns-in-Err-clause-err : goal.returns-in-Err-clause-err
returns-in-Err-clause-err g c =
    let m = rw (command_at c.requires.answered.0 (commands c.args.script.now) c.args.list.now c.loop-command.command
    c.place_of-place.result (record { number = 0; len = 0; ack = 0 }) c.requires.answered.1 c.place_of-place.ensures.place
    c.place_of-place.ensures.number) at c.loop-command.invariant.midway in
    broken_off _ _ _ _ _ _ m (rw c.command_line.ensures at c.in-Err.ensures.err)

pub loop-command-preserved : goal.loop-command-preserved
loop-command-preserved g c =
    let m = rw (command_at c.requires.answered.0 (commands c.args.script.now) c.args.list.now c.loop-command.command
    c.place_of-place.result (record { number = 0; len = 0; ack = 0 }) c.requires.answered.1 c.place_of-place.ensures.place
    c.place_of-place.ensures.number) at c.loop-command.invariant.midway in
    record {
      midway = go_on _ _ _ _ _ _ m (rw c.command_line.ensures at c.in-Ok.ensures.ok);
      start = omega (arith, c.place_of-place.ensures.place);
      same = c.in-Ok.ensures.cause.ok ∙ c.loop-command.invariant.same;
    }
