use Rattle.toml.specs.View.{view}
use Rattle.vd_machine.specs.Regions.{region_of}
use Rattle.vd_machine.proofs.Collect.{read_start}
use Rattle.vd_machine.proofs.regions.all_regions.Goals as goal

pub loop-value-init : goal.loop-value-init
loop-value-init c = rw c.new-found.ensures.items (read_start region_of view c.args.values.now)
