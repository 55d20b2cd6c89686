use Rattle.std.proofs.Common.{◌∙◌, ap, false, refl}
use Rattle.std.specs.List.{list_all}
use Rattle.std.specs.Option.{option_map_or}
use Rattle.vd_machine.specs.Types.{is_text}
use Rattle.vd_machine.proofs.Lists.{all_viewed}
use Rattle.vd_machine.proofs.types.queue_is_typed.Goals as goal

pub returns-in-Some : goal.returns-in-Some
returns-in-Some c = c.all_are_texts.ensures ∙ all_viewed is_text c.in-Some.texts.now _ refl
    ∙ ap (λ o. option_map_or (list_all is_text) o false) c.in-Some.ensures
