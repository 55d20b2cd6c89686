use Rattle.std.proofs.Common.{◌∙◌, sym, arith, refl}
use Rattle.vd_iova.proofs.Laws.{in_turn-to}
use Rattle.vd_iova.proofs.Translations.{to_some, to_none, to_above, back_undoes_to}
use Rattle.vd_iova.proofs.tree.IovaTree.translate.Goals as goal

pub returns-in_err-mapping-clause-value : goal.returns-in_err-mapping-clause-value
returns-in_err-mapping-clause-value c =
    c.from_residual.ensures ∙ sym (to_above c.args.self.now c.args.addr c.args.len c.in_err-mapping.ensures.floor)

pub returns-then-offset-from-clause-value : goal.returns-then-offset-from-clause-value
returns-then-offset-from-clause-value c =
    sym (to_some c.args.self.now c.args.addr c.args.len _ c.in_ok-mapping.mapping c.in_ok-mapping.ensures.kept c.requires.some
    c.in_ok-mapping.ensures.floor refl (omega arith))

pub returns-then-offset-from-clause-undone : goal.returns-then-offset-from-clause-undone
returns-then-offset-from-clause-undone c =
    back_undoes_to c.args.self.now c.args.addr c.args.len _ c.in_ok-mapping.ensures.kept c.requires.some
    (to_some c.args.self.now c.args.addr c.args.len _ c.in_ok-mapping.mapping c.in_ok-mapping.ensures.kept c.requires.some
    c.in_ok-mapping.ensures.floor refl (omega arith))

pub returns-else-offset-from-clause-value : goal.returns-else-offset-from-clause-value
returns-else-offset-from-clause-value c =
    sym (to_none c.args.self.now c.args.addr c.args.len _ c.in_ok-mapping.mapping c.in_ok-mapping.ensures.kept c.requires.some
    c.in_ok-mapping.ensures.floor refl (omega arith))

pub returns-in_err-mapping-clause-in_turn : goal.returns-in_err-mapping-clause-in_turn
returns-in_err-mapping-clause-in_turn c =
    in_turn-to c.args.self.now c.args.addr c.args.len _ c.in_err-mapping.ensures.kept c.requires.some
    (returns-in_err-mapping-clause-value c)

pub returns-then-offset-from-clause-in_turn : goal.returns-then-offset-from-clause-in_turn
returns-then-offset-from-clause-in_turn c =
    in_turn-to c.args.self.now c.args.addr c.args.len _ c.in_ok-mapping.ensures.kept c.requires.some
    (returns-then-offset-from-clause-value c)

pub returns-else-offset-from-clause-in_turn : goal.returns-else-offset-from-clause-in_turn
returns-else-offset-from-clause-in_turn c =
    in_turn-to c.args.self.now c.args.addr c.args.len _ c.in_ok-mapping.ensures.kept c.requires.some
    (returns-else-offset-from-clause-value c)
