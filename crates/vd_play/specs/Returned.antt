-- The numbers of the chains or commands that came back to a guest, in that order.
use Rattle.std.specs.Prelude.{ℕ, List, map}
use Rattle.vd_model.specs.declared.record.Return.{Return}

abbrev pub returned_numbers : List Return → List ℕ
returned_numbers rs = map (λ r. r.number) rs
