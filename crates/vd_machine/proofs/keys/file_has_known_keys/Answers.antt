use Rattle.std.proofs.Common.{◌∙◌, sym}
use Rattle.vd_machine.specs.Keys.{is_file_key}
use Rattle.vd_machine.proofs.Lists.{all_names}
use Rattle.vd_machine.proofs.keys.file_has_known_keys.Goals as goal

pub returns : goal.returns
returns c = c.all_file_keys.ensures ∙ sym (all_names is_file_key c.args.file.now.entries)
