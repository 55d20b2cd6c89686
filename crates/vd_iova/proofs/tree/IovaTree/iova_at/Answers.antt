use Rattle.std.proofs.Common.{sym}
use Rattle.vd_iova.proofs.Translations.{single_iova, above_fails}
use Rattle.vd_iova.proofs.Overlaps.{at_found, at_missed}
use Rattle.vd_iova.proofs.tree.IovaTree.iova_at.Goals as goal

pub returns-in-Some-clause-found : goal.returns-in-Some-clause-found
returns-in-Some-clause-found c =
    let t = c.args.self.now in
    let kept = c.in-Some.ensures.kept in
    sym (at_found (λ m. m.iova) t.mappings c.args.iova c.in-Some.mapping (single_iova t.first t.last t.mappings kept.apart kept.within)
    c.in-Some.ensures.floor c.if-iova-mapping.true)

pub returns-in_default-clause-found : goal.returns-in_default-clause-found
returns-in_default-clause-found c =
    let t = c.args.self.now in
    let kept = c.in-Some.ensures.kept in
    sym (at_missed (λ m. m.iova) t.mappings c.args.iova c.in-Some.mapping (single_iova t.first t.last t.mappings kept.apart kept.within)
    c.in-Some.ensures.floor c.if-iova-mapping.false)

pub returns-in_default-2-clause-found : goal.returns-in_default-2-clause-found
returns-in_default-2-clause-found c = sym (above_fails (λ m. m.iova) c.args.self.now.mappings c.args.iova 1 c.in_default.ensures.floor)
