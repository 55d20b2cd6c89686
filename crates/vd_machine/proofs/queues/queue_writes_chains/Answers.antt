use Rattle.std.proofs.Common.{◌∙◌, ap, false, refl}
use Rattle.std.specs.List.{list_all}
use Rattle.std.specs.Option.{option_map_or}
use Rattle.vd_machine.specs.Queues.{writes_chain}
use Rattle.vd_machine.proofs.Lists.{all_viewed}
use Rattle.vd_machine.proofs.queues.queue_writes_chains.Goals as goal

pub returns-in-Some : goal.returns-in-Some
returns-in-Some c = c.each_writes_chain.ensures ∙ all_viewed writes_chain c.in-Some.texts.now _ refl
    ∙ ap (λ o. option_map_or (list_all writes_chain) o false) c.in-Some.ensures
