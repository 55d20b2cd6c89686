use Rattle.std.proofs.Common.{◌∙◌, sym}
use Rattle.vd_machine.specs.Keys.{is_switch_key}
use Rattle.vd_machine.proofs.Lists.{all_names}
use Rattle.vd_machine.proofs.switch_tables.table_has_known_keys.Goals as goal

pub returns : goal.returns
returns c = c.all_switch_keys.ensures ∙ sym (all_names is_switch_key c.args.table.now.entries)
