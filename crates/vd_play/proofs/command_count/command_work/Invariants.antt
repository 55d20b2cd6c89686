use Rattle.std.proofs.Common.{◌≡◌, ◌+◌, ◌*◌, ◌≤◌, length, take, flat_map}
use Rattle.vd_machine.specs.File.{view}
use Rattle.vd_play.specs.Commands.{control_commands, control_epochs, replayed_commands}
use Rattle.vd_play.proofs.command_count.command_work.Given as goal

abbrev pub invariant-loop-epoch : goal.invariant-loop-epoch
invariant-loop-epoch l = record {
  counted : l.count ≡ length (control_commands (view l.m))
      + length (flat_map (replayed_commands (view l.m)) (take l.epoch (control_epochs (view l.m))));
  few : l.count ≤ 4096 + 4105 * l.epoch;
}
