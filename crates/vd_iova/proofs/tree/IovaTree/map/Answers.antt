use Rattle.std.proofs.Common.{sym, arith}
use Rattle.vd_iova.proofs.Fresh.{fresh_at_hole}
use Rattle.vd_iova.proofs.tree.IovaTree.map.Goals as goal

pub add-requires : goal.add-requires
add-requires c =
    fresh_at_hole c.args.self.now c.args.size c.args.guest c.in-Some-lowest_hole.iova c.in-Some-lowest_hole.ensures.lowest
    (omega arith) c.requires (sym c.in_default.ensures.first)
