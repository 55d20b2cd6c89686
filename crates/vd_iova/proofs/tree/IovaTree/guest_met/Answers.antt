use Rattle.std.proofs.Common.{rules, sym, subst, ◌∙◌, ap}
use Rattle.std.specs.Ordering.{nat_cmp}
use Rattle.std.specs.BTreeMap.{get}
use Rattle.vd_iova.specs.Trees.{Tree}
use Rattle.vd_iova.specs.Indexes.{IsIndex}
use Rattle.vd_iova.proofs.Overlaps.{guest_met, range_is, lowest_end, lowest_of}
use Rattle.vd_iova.proofs.tree.IovaTree.guest_met.Goals as goal

pub returns-clause-first : goal.returns-clause-first
returns-clause-first c =
    let t = c.args.self.now in
    let index = subst (λ (s : Tree). IsIndex (λ m. m.guest) (get nat_cmp c.self.inside.by_guest) s.mappings) c.self.view_is
    c.self.invariant.guest in
    let range = range_is c.args.guest _ c.self.inside.by_guest c.range-mapping-items.result
    (c.range-mapping-items.ensures.in_range (search rules)).0 (c.range-mapping-items.ensures.between (search rules)) in
    lowest_end c.loop-mapping.lowest c.loop-mapping.mapping-iterator c.in-None.ensures.steps.0 ∙ c.loop-mapping.invariant
    ∙ ap (lowest_of c.guest_at-lowest.result) c.into_iter-mapping-iterator.ensures.into_iter_gives
    ∙ sym (guest_met t c.args.guest c.args.size (get nat_cmp c.self.inside.by_guest) c.guest_at-lowest.result
    c.range-mapping-items.result c.guest_at-lowest.ensures.kept index c.requires.some (sym c.guest_at-lowest.ensures.found) range)
