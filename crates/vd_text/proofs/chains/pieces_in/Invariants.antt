use Rattle.std.proofs.Common.{◌≡◌, length, true}
use Rattle.std.specs.List.{All, list_all}
use Rattle.vd_model.specs.Chains.{IsPiece}
use Rattle.vd_text.specs.Grammar.{pieces, has_bytes}
use Rattle.vd_text.proofs.Cutting.{after}
use Rattle.vd_text.proofs.chains.pieces_in.Given as goal

abbrev pub decreases-loop-word : goal.decreases-loop-word
decreases-loop-word l = length l.rest

abbrev pub invariant-loop-word : goal.invariant-loop-word
invariant-loop-word l = record {
  value : after l.found.items (pieces l.rest) ≡ pieces l.text;
  bytes : list_all has_bytes l.found.items ≡ true;
  fits : All IsPiece l.found.items;
}
