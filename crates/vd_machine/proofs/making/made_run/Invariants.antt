use Rattle.std.proofs.Common.{◌≡◌, ◌-◌, length}
use Rattle.std.specs.List.{All}
use Rattle.vd_model.specs.Chains.{IsPiece}
use Rattle.vd_machine.specs.Draws.{next_number}
use Rattle.vd_machine.specs.Made.{readable_piece}
use Rattle.vd_machine.proofs.Drawing.{IsLeft}
use Rattle.vd_machine.proofs.making.made_run.Given as goal

abbrev pub invariant-loop : goal.invariant-loop
invariant-loop l = record {
  left : IsLeft readable_piece l.reads (next_number l.fn.draws.last) (l.reads - l.counter) l.draws.last l.pieces.items;
  count : length l.pieces.items ≡ l.counter;
  fits : All IsPiece l.pieces.items;
}
