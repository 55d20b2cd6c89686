-- One element more of a pass over a list.
use Rattle.std.proofs.Common.{◌≡◌, ℕ, ◌+◌, ◌<◌, ◌&&◌, List, length, get_or, drop, ap}
use Rattle.std.specs.List.{list_all}
use Rattle.std.proofs.lemmas.List.{drop_more}
use Rattle.vd_machine.specs.declared.regions.Region.{Region}
use Rattle.vd_machine.specs.Regions.{are_apart, all_apart}

pub apart_at : (rs : List Region) (i : ℕ) (d : Region) → i < length rs
    → all_apart (drop i rs) ≡ (list_all (are_apart (get_or rs i d)) (drop (i + 1) rs) && all_apart (drop (i + 1) rs))
apart_at rs i d h = ap all_apart (drop_more rs i d h)
