use Rattle.std.proofs.Common.{sym, ◌∙◌, ap, Some}
use Rattle.vd_iova.specs.Ranges.{meets_guest, meets_iova}
use Rattle.vd_iova.proofs.Overlaps.{find_either, find_second}
use Rattle.vd_iova.proofs.tree.IovaTree.met.Goals as goal

pub returns-in-Some : goal.returns-in-Some
returns-in-Some c =
    let m = c.args.mapping in
    ap Some c.lower.ensures ∙ sym (find_either c.args.self.now (meets_guest m.guest m.size)
    (meets_iova m.iova m.size) c.in-Some.by_guest c.iova_met-by_iova.result
    c.in-Some.ensures.kept (sym c.in-Some.ensures.first) (sym c.iova_met-by_iova.ensures))

pub returns-in-None : goal.returns-in-None
returns-in-None c =
    let m = c.args.mapping in
    c.iova_met-by_iova.ensures ∙ sym (find_second (meets_guest m.guest m.size) (meets_iova m.iova m.size) c.args.self.now.mappings
    (sym c.in-None.ensures.first))
