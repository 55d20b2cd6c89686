use Rattle.std.proofs.Common.{List, length, ◌∙◌, sym, ap, subst}
use Rattle.vd_model.specs.declared.chain.Piece.{Piece}
use Rattle.vd_packed.specs.declared.driver.PackedDriver.{PackedDriver}
use Rattle.vd_packed.specs.DriverEnd.{DriverStands}
use Rattle.vd_packed.specs.laws.DriverLaws.{begins_offer}
use Rattle.vd_packed.specs.Tabled.{first_at, first_store}
use Rattle.vd_packed.proofs.driver.end.PackedDriverDriverEnd.begin_offer.Goals as goal

pub returns-clause-stands : goal.returns-clause-stands
returns-clause-stands c = λ v st may.
    let e : PackedDriver = c.args.self.now in let e2 : PackedDriver = record e { pieces = c.copy_pieces.new.to } in
    let cs : List Piece = c.args.c.now in
    let ring_position = c.first_at-ring_position.ensures
    ∙ ap (λ (ps : List Piece). first_at e.features.indirect (length ps) e.next e.size) c.pieces-2.ensures.value in
    let doing = c.first_store-self.ensures
    ∙ ap (λ (ps : List Piece). first_store e.features.indirect (length ps)) c.pieces-3.ensures.value in
    subst (λ s. DriverStands (record e2 { at = s; doing = c.first_store-self.result }) v) (sym ring_position)
    (subst (λ t. DriverStands (record e2 { at = first_at e.features.indirect (length cs) e.next e.size; doing = t }) v) (sym doing)
    (begins_offer e e2 v cs c.requires.idle c.requires.unarmed st may (c.copy_pieces.ensures ∙ c.pieces.ensures.value)))
