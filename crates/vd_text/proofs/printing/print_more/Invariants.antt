use Rattle.std.proofs.Common.{◌≡◌, ◌++◌, drop}
use Rattle.vd_text.specs.Canonical.{more_text}
use Rattle.vd_text.proofs.printing.print_more.Given as goal

abbrev pub invariant-loop-piece : goal.invariant-loop-piece
invariant-loop-piece l = l.out.items ++ more_text (drop l.piece-index l.pieces) ≡ l.fn.out.items ++ more_text l.pieces
