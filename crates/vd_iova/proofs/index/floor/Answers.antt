use Rattle.std.proofs.Common.{rules}
use Rattle.std.specs.Ordering.{nat_cmp}
use Rattle.std.specs.BTreeMap.{get}
use Rattle.vd_iova.proofs.Floors.{floor_found}
use Rattle.vd_iova.proofs.index.floor.Goals as goal

pub returns-in-Some : goal.returns-in-Some
returns-in-Some c =
    let range = c.range.ensures.in_range (search rules) in
    let entry = range.3 _ _ c.in-Some.ensures.steps in
    floor_found (get nat_cmp c.args.index.now) c.args.at _ c.in-Some.mapping.now entry.0.1 entry.1
    (λ q le some. range.4 _ _ c.in-Some.ensures.steps q (tt, le) some)
