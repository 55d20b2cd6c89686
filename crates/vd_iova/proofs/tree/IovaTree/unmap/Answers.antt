use Rattle.std.proofs.Common.{◌∙◌, ap, sym}
use Rattle.vd_iova.proofs.Indexed.{found_start, values_removed, indexed_removed}
use Rattle.vd_iova.proofs.tree.IovaTree.unmap.Goals as goal

pub returns-in_err-mapping-clause-found : goal.returns-in_err-mapping-clause-found
returns-in_err-mapping-clause-found c =
    let t = c.self.inside in
    rw (← c.self.view_is) (c.from_residual.ensures ∙ c.in_err-mapping.ensures.value
    ∙ found_start t.first t.last t.by_iova t.by_guest c.args.iova c.self.invariant)

pub returns-in_err-mapping-clause-rest : goal.returns-in_err-mapping-clause-rest
returns-in_err-mapping-clause-rest c =
    let t = c.self.inside in
    rw (← c.self.view_is) (ap (λ ms. record { first = t.first; last = t.last; mappings = ms })
    (values_removed t.first t.last t.by_iova c.remove.new.self t.by_guest c.args.iova c.self.invariant c.remove.ensures.entries).1)

pub invariant_of-self-2 : goal.invariant_of-self-2
invariant_of-self-2 c =
    let t = c.self.inside in
    indexed_removed t.first t.last t.by_iova c.remove.new.self t.by_guest c.remove-2.new.self c.args.iova c.in_ok-mapping.mapping
    c.self.invariant
    (sym c.in_ok-mapping.ensures.value) c.remove.ensures.entries c.remove-2.ensures.updates.0

pub returns-clause-found : goal.returns-clause-found
returns-clause-found c =
    let t = c.self.inside in
    rw (← c.self.view_is) (c.in_ok-mapping.ensures.value ∙ found_start t.first t.last t.by_iova t.by_guest c.args.iova c.self.invariant)

pub returns-clause-rest : goal.returns-clause-rest
returns-clause-rest c =
    let t = c.self.inside in
    rw (← c.self.view_is) (ap (λ ms. record { first = t.first; last = t.last; mappings = ms })
    (values_removed t.first t.last t.by_iova c.remove.new.self t.by_guest c.args.iova c.self.invariant c.remove.ensures.entries).1)
