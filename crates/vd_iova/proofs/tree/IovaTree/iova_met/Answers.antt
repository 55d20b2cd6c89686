use Rattle.std.proofs.Common.{sym, subst, ◌+◌}
use Rattle.vd_iova.specs.Trees.{Tree}
use Rattle.vd_iova.specs.Indexes.{IsFirst}
use Rattle.vd_iova.proofs.Keyed.{iova_index}
use Rattle.vd_iova.proofs.Overlaps.{iova_met_at, iova_met_after}
use Rattle.vd_iova.proofs.tree.IovaTree.iova_met.Goals as goal

pub returns-in-Some : goal.returns-in-Some
returns-in-Some c = sym (iova_met_at c.args.self.now c.args.iova c.args.size c.in-Some.mapping c.in-Some.ensures.kept c.requires.some
    (sym c.in-Some.ensures.found))

pub returns-in-None : goal.returns-in-None
returns-in-None c =
    let t = c.self.inside in
    let first = c.first_within.ensures (λ m. m.iova) _ (iova_index t.first t.last t.by_iova c.self.invariant.keyed c.self.invariant.kept) in
    sym (iova_met_after c.args.self.now c.args.iova c.args.size c.first_within.result c.in-None.ensures.kept c.requires.some
    (sym c.in-None.ensures.found)
    (subst (λ (s : Tree). IsFirst (λ m. m.iova) c.args.iova (c.args.iova + c.args.size) s.mappings c.first_within.result) c.self.view_is
    first))
