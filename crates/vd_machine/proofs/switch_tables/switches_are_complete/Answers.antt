use Rattle.std.proofs.Common.{◌∙◌}
use Rattle.vd_machine.specs.Keys.{switch_is_complete, if_table}
use Rattle.vd_machine.proofs.Lists.{all_viewed}
use Rattle.vd_machine.proofs.switch_tables.switches_are_complete.Goals as goal

pub returns : goal.returns
returns c = c.all_are_complete.ensures ∙ all_viewed (if_table switch_is_complete) _ _ c.items_at.ensures
