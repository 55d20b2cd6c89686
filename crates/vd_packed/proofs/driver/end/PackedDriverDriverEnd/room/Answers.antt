use Rattle.std.proofs.Common.{List, length, ◌∙◌, arith, ap}
use Rattle.std.proofs.lemmas.Bool.{leb-true, le-leb}
use Rattle.vd_model.specs.declared.chain.Piece.{Piece}
use Rattle.vd_packed.specs.laws.DriverLaws.{room_from, room_to}
use Rattle.vd_packed.specs.Tabled.{needed}
use Rattle.vd_packed.proofs.driver.end.PackedDriverDriverEnd.room.Goals as goal

pub returns : goal.returns
returns c = λ v st.
    let e = c.args.self.now in
    let many = c.needed.ensures ∙ ap (λ (ps : List Piece). needed e.features.indirect (length ps)) c.pieces.ensures.value in (
      λ t. room_from e v c.args.c.now st (omega (arith, leb-true c.needed.result e.space t, many)),
      λ h. le-leb c.needed.result e.space (omega (arith, room_to e v c.args.c.now st h, many)),
    )
