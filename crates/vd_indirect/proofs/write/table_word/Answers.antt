use Rattle.std.proofs.Common.{sym, ◌∙◌}
use Rattle.vd_indirect.proofs.Written.{even_word, odd_word}
use Rattle.vd_indirect.proofs.write.table_word.Goals as goal

pub returns-then-at-eq0 : goal.returns-then-at-eq0
returns-then-at-eq0 c = sym (even_word c.args.kind c.args.pieces.now c.args.at c.if-at-eq0.true c.requires.within)

pub returns : goal.returns
returns c = c.second_word_of.ensures ∙ sym (odd_word c.args.kind c.args.pieces.now c.args.at c.if-at-eq0.false c.requires.within)
