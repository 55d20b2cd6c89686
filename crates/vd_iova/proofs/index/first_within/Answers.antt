use Rattle.std.proofs.Common.{rules}
use Rattle.std.specs.Ordering.{nat_cmp}
use Rattle.std.specs.BTreeMap.{get}
use Rattle.vd_iova.proofs.Floors.{first_found}
use Rattle.vd_iova.proofs.index.first_within.Goals as goal

pub returns-in-Some : goal.returns-in-Some
returns-in-Some c =
    let range = c.range.ensures.in_range (search rules) in
    let entry = rw c.in-Some.ensures.steps at range.1 in
    first_found (get nat_cmp c.args.index.now) c.args.start c.args.end _ c.in-Some.mapping.now entry.0.0 entry.0.1 entry.1
    (λ q from below some. rw c.in-Some.ensures.steps at (range.2 q (from, below) some))
