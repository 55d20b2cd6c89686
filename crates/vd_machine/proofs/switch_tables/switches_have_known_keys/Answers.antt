use Rattle.std.proofs.Common.{◌∙◌}
use Rattle.vd_machine.specs.Keys.{switch_has_known_keys, if_table}
use Rattle.vd_machine.proofs.Lists.{all_viewed}
use Rattle.vd_machine.proofs.switch_tables.switches_have_known_keys.Goals as goal

pub returns : goal.returns
returns c = c.all_have_known_keys.ensures ∙ all_viewed (if_table switch_has_known_keys) _ _ c.items_at.ensures
