use Rattle.std.proofs.Common.{◌∙◌}
use Rattle.vd_machine.specs.Rings.{is_named}
use Rattle.vd_machine.proofs.Lists.{count_viewed}
use Rattle.vd_machine.proofs.rings.times_of.Goals as goal

pub returns : goal.returns
returns c = c.count_named.ensures ∙ count_viewed (is_named c.args.name.now) c.args.values.now
