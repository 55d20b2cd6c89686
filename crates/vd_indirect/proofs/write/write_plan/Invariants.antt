use Rattle.std.proofs.Common.{◌≡◌, ◌*◌, ◌++◌, length, drop}
use Rattle.vd_indirect.specs.Tables.{table_words, words_from}
use Rattle.vd_indirect.proofs.write.write_plan.Given as goal

abbrev pub invariant-loop-place : goal.invariant-loop-place
invariant-loop-place l =
    (length l.words.items ≡ 2 * l.place)
    × (l.words.items ++ words_from l.kind l.place (drop l.place l.pieces) ≡ table_words l.kind l.pieces)
