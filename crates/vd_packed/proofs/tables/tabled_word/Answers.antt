use Rattle.std.proofs.Common.{◌+◌, ◌*◌, sym, ap, ◌∙◌}
use Rattle.vd_ring.specs.declared.frame.Put.{Put}
use Rattle.vd_packed.specs.laws.Tabling.{tabled_at, tabled_last}
use Rattle.vd_packed.specs.Tabled.{table_place}
use Rattle.vd_packed.proofs.tables.tabled_word.Goals as goal

pub returns-then-at-pieces-clause-place : goal.returns-then-at-pieces-clause-place
returns-then-at-pieces-clause-place c =
    ap (λ t. t + c.args.at) c.table_place-table.ensures
    ∙ sym (tabled_at (table_place c.args.size c.args.id) c.args.place c.args.pieces.now c.args.at c.if-at-pieces.true).0

pub returns-then-at-pieces-clause-word : goal.returns-then-at-pieces-clause-word
returns-then-at-pieces-clause-word c =
    c.table_word.ensures ∙ sym (tabled_at (table_place c.args.size c.args.id) c.args.place c.args.pieces.now c.args.at
    c.if-at-pieces.true).1

pub returns-clause-place : goal.returns-clause-place
returns-clause-place c =
    sym (ap (λ (s : Put). s.place)
    (tabled_last (table_place c.args.size c.args.id) c.args.place c.args.pieces.now c.args.at c.if-at-pieces.false c.requires.within))

pub returns-clause-word : goal.returns-clause-word
returns-clause-word c =
    ap (λ t. 8 * t) c.table_place-table.ensures
    ∙ sym (ap (λ (s : Put). s.word)
    (tabled_last (table_place c.args.size c.args.id) c.args.place c.args.pieces.now c.args.at c.if-at-pieces.false c.requires.within))
