use Rattle.std.proofs.Common.{sym}
use Rattle.vd_iova.proofs.Translations.{single_guest, above_fails}
use Rattle.vd_iova.proofs.Overlaps.{at_found, at_missed}
use Rattle.vd_iova.proofs.tree.IovaTree.guest_at.Goals as goal

pub returns-in-Some-clause-found : goal.returns-in-Some-clause-found
returns-in-Some-clause-found c =
    let t = c.args.self.now in
    let kept = c.in-Some.ensures.kept in
    sym (at_found (λ m. m.guest) t.mappings c.args.addr c.in-Some.mapping
    (single_guest t.first t.last t.mappings kept.apart kept.within) c.in-Some.ensures.floor c.if-addr-mapping.true)

pub returns-in_default-clause-found : goal.returns-in_default-clause-found
returns-in_default-clause-found c =
    let t = c.args.self.now in
    let kept = c.in-Some.ensures.kept in
    sym (at_missed (λ m. m.guest) t.mappings c.args.addr c.in-Some.mapping
    (single_guest t.first t.last t.mappings kept.apart kept.within) c.in-Some.ensures.floor c.if-addr-mapping.false)

pub returns-in_default-2-clause-found : goal.returns-in_default-2-clause-found
returns-in_default-2-clause-found c = sym (above_fails (λ m. m.guest) c.args.self.now.mappings c.args.addr 1 c.in_default.ensures.floor)
