use Rattle.std.proofs.Common.{◌≤◌, ◌&&◌, nat_lt, List, length, ap, sym, ◌∙◌, subst, arith}
use Rattle.vd_model.specs.declared.chain.Piece.{Piece}
use Rattle.vd_layout.specs.Begun.{DriverOp}
use Rattle.vd_split.specs.declared.driver.SplitDriver.{SplitDriver}
use Rattle.vd_split.specs.DriverEnd.{DriverStands, driver_begun, driver_left}
use Rattle.vd_split.specs.laws.DriverLaws.{begins_offer, first_begun, first_left}
use Rattle.vd_split.specs.Parts.{first_store}
use Rattle.vd_split.proofs.driver.end.SplitDriverDriverEnd.begin_offer.Goals as goal

pub returns-clause-begun : goal.returns-clause-begun
returns-clause-begun c =
    let cs : List Piece = c.args.c.now in
    ap (λ t. driver_begun t c.fill.new.self.items) c.first_store-self.ensures
    ∙ first_begun (c.args.self.now.features.indirect && nat_lt 1 (length c.pieces-2.result.now)) c.fill.new.self.items
    ∙ ap DriverOp.offer (c.fill.ensures ∙ c.pieces.ensures.value)

pub returns-clause-left : goal.returns-clause-left
returns-clause-left c =
    subst (λ t. driver_left t c.fill.new.self.items ≤ 38) (sym c.first_store-self.ensures)
    (first_left (c.args.self.now.features.indirect && nat_lt 1 (length c.pieces-2.result.now)) c.fill.new.self.items
    (omega (arith, c.pieces.ensures.lawful.1, ap (λ (ps : List Piece). length ps) (c.fill.ensures ∙ c.pieces.ensures.value))))

pub returns-clause-stands : goal.returns-clause-stands
returns-clause-stands c = λ v st may.
    let e : SplitDriver = c.args.self.now in
    subst (λ t. DriverStands (record e { pieces = c.fill.new.self; doing = t }) v)
    (sym (c.first_store-self.ensures ∙ ap (λ (ps : List Piece). first_store e.features.indirect (length ps)) c.pieces-2.ensures.value))
    (begins_offer e (record e { pieces = c.fill.new.self }) v c.args.c.now c.requires.idle c.requires.unarmed st may
    (c.fill.ensures ∙ c.pieces.ensures.value))
