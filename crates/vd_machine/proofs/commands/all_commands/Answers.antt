use Rattle.std.proofs.Common.{refl}
use Rattle.toml.specs.View.{view}
use Rattle.vd_machine.specs.Commands.{command_of}
use Rattle.vd_machine.proofs.Collect.{read_start}
use Rattle.vd_machine.proofs.commands.all_commands.Goals as goal

pub loop-value-init : goal.loop-value-init
loop-value-init c = rw c.in_ok-found.ensures.items (record {
  value = read_start command_of view c.args.values.now;
  lawful = refl;
  count = refl;
})
