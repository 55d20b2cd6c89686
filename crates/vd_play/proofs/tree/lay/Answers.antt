use Rattle.std.proofs.Common.{◌≡◌, ◌+◌, true, drop, Err, ap, sym, subst, ◌∙◌}
use Rattle.std.proofs.lemmas.Bool.{false≢true}
use Rattle.std.proofs.lemmas.List.{drop_all}
use Rattle.vd_iova.specs.declared.fault.MapFault.TheVariants.{NoHole}
use Rattle.vd_iova.specs.Trees.{Tree}
use Rattle.vd_machine.proofs.Laid.{IsMidway, ranges, midway_start, midway_first, first_is_unmet, first_has_no_hole, first_is_mapped}
use Rattle.vd_machine.specs.File.{view}
use Rattle.vd_play.proofs.Laying.{IsLaying, map_is, laying_start, laying_first, laying_more, laying_end}
use Rattle.vd_play.proofs.Trees.{tree_is}
use Rattle.vd_play.proofs.tree.lay.Goals as goal

pub loop-region-init : goal.loop-region-init
loop-region-init c =
    let m = c.args.m.now in
    let t = c.new-tree.result in
    let same = sym c.as_slice-region-items.ensures in
    record {
      midway = subst (IsMidway true t) same (subst (λ w. IsMidway w t m.regions) m.laid
          (midway_start m.first m.last t m.regions c.new-tree.ensures m.placed));
      laying = subst (IsLaying (view m) t) same (laying_start (view m) t c.new-tree.ensures m.laid m.ranged);
      first = ap (λ (u : Tree). u.first) c.new-tree.ensures;
      last = ap (λ (u : Tree). u.last) c.new-tree.ensures;
    }

pub unreachable-requires : goal.unreachable-requires
unreachable-requires c =
    let is : c.map.result ≡ Err (NoHole c.in-Err-NoHole.field-0-0) = c.in-Err-NoHole.is ∙ ap Err c.in-Err-NoHole.field-0-is in
    let size = ((c.map.ensures.no_hole c.in-Err-NoHole.field-0-0).0 is).0 in
    let i = c.loop-region.region-index in
    let rs = c.as_slice-region-items.result.now in
    false≢true (first_has_no_hole true c.loop-region.tree _ (drop (i + 1) rs)
    (midway_first true c.loop-region.tree rs i c.loop-region-test.true c.loop-region.invariant.midway)
    (c.map.ensures.not_laid (is ∙ ap (λ n. Err (NoHole n)) size) (ranges (drop (i + 1) rs))))

pub unreachable-requires-in-Err-Overlap : goal.unreachable-requires-in-Err-Overlap
unreachable-requires-in-Err-Overlap c =
    let i = c.loop-region.region-index in
    let rs = c.as_slice-region-items.result.now in
    first_is_unmet true c.loop-region.tree _ (drop (i + 1) rs)
    (midway_first true c.loop-region.tree rs i c.loop-region-test.true c.loop-region.invariant.midway) c.in-Err-Overlap.field-0-0
    ((c.map.ensures.overlap c.in-Err-Overlap.field-0-0).0 (c.in-Err-Overlap.is ∙ ap Err c.in-Err-Overlap.field-0-is)).1

pub loop-region-preserved : goal.loop-region-preserved
loop-region-preserved c =
    let v = c.loop-region.invariant in
    let i = c.loop-region.region-index in
    let rs = c.as_slice-region-items.result.now in
    let t = c.loop-region.tree in
    record {
      midway = first_is_mapped true t _ (drop (i + 1) rs) (midway_first true t rs i c.loop-region-test.true v.midway) c.in-Ok.field-0
          c.map.new.self c.in-Ok.ensures.tree (c.in-Ok.ensures.laid (ranges (drop (i + 1) rs)));
      laying = laying_more (view c.args.m.now) t _ (drop (i + 1) rs) c.in-Ok.field-0 c.map.new.self c.in-Ok.ensures.tree
          (c.in-Ok.ensures.laid (ranges (drop (i + 1) rs))) c.in-Ok.ensures.kept
          (laying_first (view c.args.m.now) t rs i c.loop-region-test.true v.laying);
      first = ap (λ (u : Tree). u.first) c.in-Ok.ensures.tree ∙ v.first;
      last = ap (λ (u : Tree). u.last) c.in-Ok.ensures.tree ∙ v.last;
    }

pub returns-clause-laid : goal.returns-clause-laid
returns-clause-laid c =
    let v = c.loop-region.invariant in
    let rs = c.as_slice-region-items.result.now in
    tree_is (view c.args.m.now) c.loop-region.tree (map_is (view c.args.m.now) c.args.m.now.laid) v.laying.kept
    (laying_end (view c.args.m.now) c.loop-region.tree (drop c.loop-region.region-index rs)
    (drop_all c.loop-region.region-index rs c.loop-region-test.false) v.laying)

pub returns-clause-kept : goal.returns-clause-kept
returns-clause-kept c = c.loop-region.invariant.laying.kept

pub returns-clause-first : goal.returns-clause-first
returns-clause-first c = c.loop-region.invariant.first

pub returns-clause-last : goal.returns-clause-last
returns-clause-last c = c.loop-region.invariant.last

pub returns-clause-mapped : goal.returns-clause-mapped
returns-clause-mapped c =
    let rs = c.as_slice-region-items.result.now in
    sym (ap (λ (u : Tree). u.mappings) (laying_end (view c.args.m.now) c.loop-region.tree (drop c.loop-region.region-index rs)
    (drop_all c.loop-region.region-index rs c.loop-region-test.false) c.loop-region.invariant.laying))
