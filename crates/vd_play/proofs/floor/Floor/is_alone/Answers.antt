use Rattle.std.proofs.Common.{is_some, refl, sym, ◌∙◌, arith}
use Rattle.std.proofs.lemmas.Option.{slice_get_read}
use Rattle.vd_play.proofs.OneLane.{alone_of, not_alone, not_of}
use Rattle.vd_play.proofs.floor.Floor.is_alone.Goals as goal

pub returns-then-len-eq1 : goal.returns-then-len-eq1
returns-then-len-eq1 g c =
    let lanes : _ = c.args.self.now.lanes.items in
    let hl = slice_get_read lanes _ 0 c.index.result.now refl (omega arith) c.index.ensures in
    not_of c.is_none.result (is_some c.index.result.now.relaying) (sym c.is_none.ensures) ∙ alone_of lanes c.index.result.now
    (omega arith) hl

pub returns-else-len-eq1 : goal.returns-else-len-eq1
returns-else-len-eq1 g c = not_alone c.args.self.now.lanes.items (λ one. c.if-len-eq1.false (omega (arith, one)))
