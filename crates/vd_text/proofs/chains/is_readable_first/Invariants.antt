use Rattle.std.proofs.Common.{◌≡◌, false, drop}
use Rattle.vd_text.proofs.Order.{goes_on}
use Rattle.vd_text.proofs.chains.is_readable_first.Given as goal

abbrev pub invariant-loop-piece : goal.invariant-loop-piece
invariant-loop-piece l = goes_on l.written (drop l.piece-index l.pieces) ≡ goes_on false l.pieces
