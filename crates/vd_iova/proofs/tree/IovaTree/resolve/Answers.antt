use Rattle.std.proofs.Common.{◌∙◌, sym, arith, refl}
use Rattle.vd_iova.proofs.Laws.{in_turn-back}
use Rattle.vd_iova.proofs.Translations.{back_some, back_none, back_above, to_undoes_back}
use Rattle.vd_iova.proofs.tree.IovaTree.resolve.Goals as goal

pub returns-in_err-mapping-clause-value : goal.returns-in_err-mapping-clause-value
returns-in_err-mapping-clause-value c =
    c.from_residual.ensures ∙ sym (back_above c.args.self.now c.args.iova c.args.len c.in_err-mapping.ensures.floor)

pub returns-then-offset-from-clause-value : goal.returns-then-offset-from-clause-value
returns-then-offset-from-clause-value c =
    sym (back_some c.args.self.now c.args.iova c.args.len _ c.in_ok-mapping.mapping c.in_ok-mapping.ensures.kept c.requires.some
    c.in_ok-mapping.ensures.floor refl (omega arith))

pub returns-then-offset-from-clause-undone : goal.returns-then-offset-from-clause-undone
returns-then-offset-from-clause-undone c =
    to_undoes_back c.args.self.now c.args.iova c.args.len _ c.in_ok-mapping.ensures.kept c.requires.some
    (back_some c.args.self.now c.args.iova c.args.len _ c.in_ok-mapping.mapping c.in_ok-mapping.ensures.kept c.requires.some
    c.in_ok-mapping.ensures.floor refl (omega arith))

pub returns-else-offset-from-clause-value : goal.returns-else-offset-from-clause-value
returns-else-offset-from-clause-value c =
    sym (back_none c.args.self.now c.args.iova c.args.len _ c.in_ok-mapping.mapping c.in_ok-mapping.ensures.kept c.requires.some
    c.in_ok-mapping.ensures.floor refl (omega arith))

pub returns-in_err-mapping-clause-in_turn : goal.returns-in_err-mapping-clause-in_turn
returns-in_err-mapping-clause-in_turn c =
    in_turn-back c.args.self.now c.args.iova c.args.len _ c.in_err-mapping.ensures.kept c.requires.some
    (returns-in_err-mapping-clause-value c)

pub returns-then-offset-from-clause-in_turn : goal.returns-then-offset-from-clause-in_turn
returns-then-offset-from-clause-in_turn c =
    in_turn-back c.args.self.now c.args.iova c.args.len _ c.in_ok-mapping.ensures.kept c.requires.some
    (returns-then-offset-from-clause-value c)

pub returns-else-offset-from-clause-in_turn : goal.returns-else-offset-from-clause-in_turn
returns-else-offset-from-clause-in_turn c =
    in_turn-back c.args.self.now c.args.iova c.args.len _ c.in_ok-mapping.ensures.kept c.requires.some
    (returns-else-offset-from-clause-value c)
