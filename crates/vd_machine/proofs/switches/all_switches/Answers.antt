use Rattle.std.proofs.Common.{refl}
use Rattle.toml.specs.View.{view}
use Rattle.vd_machine.specs.Switches.{switch_of}
use Rattle.vd_machine.proofs.Collect.{read_start}
use Rattle.vd_machine.proofs.switches.all_switches.Goals as goal

pub loop-value-init : goal.loop-value-init
loop-value-init c = rw c.new-found.ensures.items (record {
  value = read_start switch_of view c.args.values.now;
  lawful =
      refl;
})
