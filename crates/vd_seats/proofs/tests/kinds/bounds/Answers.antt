use Rattle.std.proofs.Common.{List, [], ◌∷◌, ◌++◌, ap, ◌∙◌}
use Rattle.vd_model.specs.declared.map.Mapping.{Mapping}
use Rattle.vd_seats.proofs.Two.{two_in}
use Rattle.vd_seats.proofs.tests.kinds.bounds.Goals as goal

pub returns : goal.returns
returns c = two_in _ (c.push.ensures ∙ ap (λ (xs : List Mapping). xs ++ record { iova = 0; size = 4116; guest = 4096 } ∷ [])
    c.new-map.ensures)
