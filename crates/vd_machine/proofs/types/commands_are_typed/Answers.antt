use Rattle.std.proofs.Common.{◌∙◌}
use Rattle.vd_machine.specs.Types.{is_text}
use Rattle.vd_machine.proofs.Lists.{all_viewed}
use Rattle.vd_machine.proofs.types.commands_are_typed.Goals as goal

pub returns : goal.returns
returns c = c.all_are_texts.ensures ∙ all_viewed is_text _ _ c.items_at.ensures
