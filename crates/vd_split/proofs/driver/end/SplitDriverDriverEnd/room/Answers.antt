use Rattle.std.proofs.Common.{List, length, ◌∙◌, arith, ap}
use Rattle.std.proofs.lemmas.Bool.{leb-true, le-leb}
use Rattle.vd_model.specs.declared.chain.Piece.{Piece}
use Rattle.vd_split.specs.laws.DriverLaws.{room_from, room_to}
use Rattle.vd_split.specs.Parts.{needed}
use Rattle.vd_split.proofs.driver.end.SplitDriverDriverEnd.room.Goals as goal

pub returns : goal.returns
returns c = λ v st.
    let many = c.needed.ensures ∙ ap (λ (ps : List Piece). needed c.args.self.now.features.indirect (length ps)) c.pieces.ensures.value in (
      λ t. room_from c.args.self.now v c.args.c.now st (omega (arith, leb-true c.needed.result c.len.result t, many, c.len.ensures.len)),
      λ h. le-leb c.needed.result c.len.result (omega (arith, room_to c.args.self.now v c.args.c.now st h, many, c.len.ensures.len)),
    )
