use Rattle.std.proofs.Common.{◌≡◌, sym, ap, arith}
use Rattle.vd_iova.specs.Trees.{Tree}
use Rattle.vd_iova.proofs.Fresh.{fresh_at}
use Rattle.vd_iova.proofs.tree.IovaTree.map_at.Goals as goal

pub add-requires : goal.add-requires
add-requires c =
    let t = c.args.self.now in
    let first : c.self.inside.first ≡ t.first = ap (λ (s : Tree). s.first) c.self.view_is in
    let last : c.self.inside.last ≡ t.last = ap (λ (s : Tree). s.last) c.self.view_is in
    fresh_at t c.args.m (omega arith) (omega arith) (omega arith) c.requires.guest (sym c.in_default.ensures)
