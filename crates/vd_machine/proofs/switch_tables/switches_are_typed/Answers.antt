use Rattle.std.proofs.Common.{◌∙◌}
use Rattle.vd_machine.specs.Types.{switch_is_typed}
use Rattle.vd_machine.proofs.Lists.{all_viewed}
use Rattle.vd_machine.proofs.switch_tables.switches_are_typed.Goals as goal

pub returns : goal.returns
returns c = c.all_are_typed.ensures ∙ all_viewed switch_is_typed _ _ c.items_at.ensures
