use Rattle.std.proofs.Common.{ap, refl, sym, subst, rules}
use Rattle.vd_iova.specs.Trees.{Tree}
use Rattle.vd_iova.specs.Indexes.{IsFresh}
use Rattle.vd_iova.proofs.Indexed.{indexed_same, indexed_added, indexed_undone, values_added}
use Rattle.vd_iova.proofs.tree.IovaTree.add.Goals as goal

pub invariant_of-self : goal.invariant_of-self
invariant_of-self c =
    let t = c.self.inside in
    indexed_same t.first t.last t.by_iova t.by_iova t.by_guest _ c.self.invariant refl (λ q. search rules)

pub invariant_of-self-in-Ok-insert : goal.invariant_of-self-in-Ok-insert
invariant_of-self-in-Ok-insert c =
    let t = c.self.inside in
    let fresh = subst (λ (s : Tree). IsFresh s c.args.mapping) (sym c.self.view_is) c.requires in
    indexed_added t.first t.last t.by_iova _ t.by_guest _ c.args.mapping c.self.invariant fresh c.in-Ok-insert.ensures.entries
    c.in-Ok.ensures.updates.0

pub invariant_of-self-in_default-insert : goal.invariant_of-self-in_default-insert
invariant_of-self-in_default-insert c =
    let t = c.self.inside in
    let fresh = subst (λ (s : Tree). IsFresh s c.args.mapping) (sym c.self.view_is) c.requires in
    indexed_undone t.first t.last t.by_iova c.insert-2.new.self t.by_guest c.insert.new.self c.remove.new.self c.args.mapping
    c.self.invariant fresh
    c.in_default-insert.ensures.err c.in-Ok.ensures.updates.0 c.remove.ensures.updates.0

pub returns-clause-tree : goal.returns-clause-tree
returns-clause-tree c =
    let t = c.self.inside in
    let fresh = subst (λ (s : Tree). IsFresh s c.args.mapping) (sym c.self.view_is) c.requires in
    rw (← c.self.view_is) (ap (λ ms. record { first = t.first; last = t.last; mappings = ms })
    (values_added t.first t.last t.by_iova c.insert-2.new.self t.by_guest c.args.mapping c.self.invariant fresh
    c.in-Ok-insert.ensures.entries).1)

pub returns-clause-kept : goal.returns-clause-kept
returns-clause-kept c = (invariant_of-self-in-Ok-insert c).kept
