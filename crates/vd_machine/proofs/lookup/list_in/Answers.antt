use Rattle.std.proofs.Common.{◌∙◌, sym, ap, option_map, Some}
use Rattle.vd_machine.specs.Lookup.{list_of}
use Rattle.vd_machine.proofs.Lists.{list_of-items}
use Rattle.vd_machine.proofs.lookup.list_in.Goals as goal

pub returns-in-Some : goal.returns-in-Some
returns-in-Some c = rw c.as_slice.ensures.value (ap Some (sym (list_of-items c.in-Some.items.now.items))
    ∙ ap (option_map list_of) c.in-Some.ensures)
