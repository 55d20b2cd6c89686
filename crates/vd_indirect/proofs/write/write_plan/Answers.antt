use Rattle.std.proofs.Common.{◌*◌, ℕ, List, length, ap, ◌∙◌}
use Rattle.vd_indirect.specs.Tables.{read, table_words}
use Rattle.vd_indirect.proofs.Written.{all_written, reads_back}
use Rattle.vd_indirect.proofs.write.write_plan.Goals as goal

pub returns-clause-back : goal.returns-clause-back
returns-clause-back c =
    let written = all_written c.args.kind c.loop-place.words.items c.pieces-pieces.result.now c.loop-place.place
    (table_words c.args.kind c.pieces-pieces.result.now) c.loop-place-test.false c.loop-place.invariant.1 in
    ap (λ (ws : List ℕ). read c.args.kind ws (16 * length c.args.c.now))
    (written ∙ ap (table_words c.args.kind) c.pieces-pieces.ensures.value)
    ∙ reads_back c.args.kind c.args.c.now c.pieces-pieces.ensures.lawful
