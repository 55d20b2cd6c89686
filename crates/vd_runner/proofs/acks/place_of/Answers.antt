use Rattle.std.proofs.Common.{refl}
use Rattle.vd_runner.proofs.ControlLines.{is_found}
use Rattle.vd_runner.proofs.acks.place_of.Goals as goal

pub unreachable-requires : goal.unreachable-requires
unreachable-requires c = is_found c.args.list.now c.args.number c.args.start c.requires.there (c.in_default.ensures.none refl)
    (c.in-None.ensures.none refl)
