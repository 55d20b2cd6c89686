use Rattle.std.proofs.Common.{◌≡◌, ◌≤◌, drop, length}
use Rattle.vd_bus.specs.GuestCommands.{commands}
use Rattle.vd_runner.specs.CommandReport.{command_lines}
use Rattle.vd_runner.proofs.Midway.{Midway}
use Rattle.vd_runner.proofs.control.put_commands.Given as goal

abbrev pub invariant-loop-command : goal.invariant-loop-command
invariant-loop-command g l = record {
  midway : Midway (g.K.Sink.held l.fn.sink) (g.K.Sink.held l.sink) (command_lines 0 (commands l.script))
      (command_lines l.command (drop l.command (commands l.script)));
  start : l.start ≤ length l.list;
  same : g.K.Sink.faults l.sink ≡ g.K.Sink.faults l.fn.sink;
}
