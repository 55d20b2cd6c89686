use Rattle.std.proofs.Common.{◌≡◌, ◌∙◌, sym, ap, arith, ◌++◌, ◌∷◌, [], ◌<◌, length, option_and_then, refl}
use Rattle.std.proofs.lemmas.Bool.{eqb-true, eqb-false, le-leb}
use Rattle.std.proofs.lemmas.List.Elements.{All-push}
use Rattle.vd_model.specs.Chains.{IsPiece}
use Rattle.std.proofs.lemmas.List.Folds.{list_all-append}
use Rattle.vd_text.specs.declared.chains.TheConstants.{MOST_PIECES}
use Rattle.vd_text.specs.Grammar.{has_bytes}
use Rattle.vd_text.specs.Bounds.{if_at_most}
use Rattle.vd_text.proofs.Cutting.{pieces_stop, pieces_past, pieces_none, cut_shorter, full, full_last, not_full_last}
use Rattle.vd_text.proofs.chains.pieces_in.Goals as goal

pub returns-in-None-clause-value : goal.returns-in-None-clause-value
returns-in-None-clause-value c =
    sym (ap (option_and_then (if_at_most MOST_PIECES))
    (sym c.loop-word.invariant.value ∙ pieces_stop c.loop-word.found.items c.loop-word.rest.now c.in-Some.word.now c.in-Some.after.now
    (sym c.in-Some.ensures) (sym c.in-None.ensures.value)))

pub returns-then-is_full-clause-value : goal.returns-then-is_full-clause-value
returns-then-is_full-clause-value c =
    let h : length c.loop-word.found.items ≡ MOST_PIECES =
    eqb-true (length c.loop-word.found.items) MOST_PIECES (sym c.if-is_full.ensures.value) in
    sym (full c.loop-word.found.items h c.loop-word.rest.now c.in-Some.word.now c.in-Some.after.now c.in-Some-read_piece.piece
    (sym c.in-Some.ensures) (sym c.in-Some-read_piece.ensures.value) _ c.loop-word.invariant.value)

pub loop-word-smaller : goal.loop-word-smaller
loop-word-smaller c = rw (← c.in-Some.ensures) at (cut_shorter 32 c.loop-word.rest.now)

pub loop-word-preserved : goal.loop-word-preserved
loop-word-preserved c =
    let e : c.push.new.self.items ≡ c.loop-word.found.items ++ c.in-Some-read_piece.piece ∷ [] = c.push.ensures.items in
    rw e (record {
      value = sym (pieces_past c.loop-word.found.items c.loop-word.rest.now c.in-Some.word.now c.in-Some.after.now _
          (sym c.in-Some.ensures) (sym c.in-Some-read_piece.ensures.value)) ∙ c.loop-word.invariant.value;
      bytes = list_all-append has_bytes c.loop-word.found.items (c.in-Some-read_piece.piece ∷ [])
          ∙ rw (c.loop-word.invariant.bytes, le-leb 1 c.in-Some-read_piece.piece.len c.in-Some-read_piece.ensures.some) refl;
      fits = All-push IsPiece c.loop-word.found.items c.in-Some-read_piece.piece c.loop-word.invariant.fits (omega arith, omega arith);
    })

pub returns-in-None-read_piece-clause-value : goal.returns-in-None-read_piece-clause-value
returns-in-None-read_piece-clause-value c =
    sym (ap (option_and_then (if_at_most MOST_PIECES))
    (sym c.loop-word.invariant.value ∙ pieces_none c.loop-word.found.items c.loop-word.rest.now (sym c.in_default.ensures)
    (sym c.in-None-read_piece.ensures.value)))

pub returns-then-is_full-2-clause-value : goal.returns-then-is_full-2-clause-value
returns-then-is_full-2-clause-value c =
    let h : length c.loop-word.found.items ≡ MOST_PIECES =
    eqb-true (length c.loop-word.found.items) MOST_PIECES (sym c.if-is_full-2.ensures.value) in
    sym (full_last c.loop-word.found.items h c.loop-word.rest.now c.in-Some-read_piece-2.piece (sym c.in_default.ensures)
    (sym c.in-Some-read_piece-2.ensures.value) _ c.loop-word.invariant.value)

pub returns-else-is_full-2-clause-value : goal.returns-else-is_full-2-clause-value
returns-else-is_full-2-clause-value c =
    let ne = eqb-false (length c.loop-word.found.items) MOST_PIECES (sym c.if-is_full-2.ensures.value) in
    let room : length c.loop-word.found.items < MOST_PIECES = omega (arith, ne, c.if-is_full-2.ensures.fits) in
    let e : c.push-in-Some-read_piece-2.new.self.items ≡ c.loop-word.found.items ++ c.in-Some-read_piece-2.piece ∷ [] =
    c.push-in-Some-read_piece-2.ensures.items in
    rw e (sym (not_full_last c.loop-word.found.items room c.loop-word.rest.now c.in-Some-read_piece-2.piece (sym c.in_default.ensures)
    (sym c.in-Some-read_piece-2.ensures.value) _ c.loop-word.invariant.value))
