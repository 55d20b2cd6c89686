use Rattle.std.proofs.Common.{◌≡◌, ◌∙◌, sym, true, false, Bool, not, ◌||◌, ◌&&◌, ap, refl}
use Rattle.std.proofs.lemmas.Bool.{false≢true}
use Rattle.vd_text.specs.Grammar.{pieces}
use Rattle.vd_text.proofs.Cutting.{cut_shorter}
use Rattle.vd_text.proofs.Order.{text_goes_on, text_more, text_stops, text_last, text_last_none}
use Rattle.vd_text.proofs.chains.writes_chain.Goals as goal
use Rattle.vd_text.proofs.chains.writes_chain.Goals.{else-written-via-then-written+else-not-piece, else-written-via-else-written}

breaks_off : (v w b : Bool) → w ≡ true → not v ≡ true → ((v || not w) && b) ≡ false
breaks_off false true b on off = refl
breaks_off true w b on off = absurd (false≢true off)
breaks_off v false b on off = absurd (false≢true on)

or_left : (v b : Bool) → not v ≡ false → (v || b) ≡ true
or_left true b h = refl
or_left false b h = absurd (false≢true (sym h))

or_right : (v w : Bool) → w ≡ false → (v || not w) ≡ true
or_right true w h = refl
or_right false w h = rw h refl

or_true : (v b : Bool) → v ≡ true → v ≡ (v || b)
or_true true b h = refl
or_true false b h = absurd (false≢true h)

or_false : (v b : Bool) → v ≡ false → b ≡ (v || b)
or_false false b h = refl
or_false true b h = absurd (false≢true (sym h))

pub returns-in-None : goal.returns-in-None
returns-in-None c = sym (text_stops c.loop-word.written c.loop-word.rest.now c.in-Some.word.now c.in-Some.after.now
    (sym c.in-Some.ensures) (sym c.in-None.ensures.value)) ∙ c.loop-word.invariant

pub returns-then-not-piece : goal.returns-then-not-piece
returns-then-not-piece c =
    let m = text_more c.loop-word.written c.loop-word.rest.now c.in-Some.word.now c.in-Some.after.now c.in-Some-read_piece.piece
    (sym c.in-Some.ensures) (sym c.in-Some-read_piece.ensures.value) in
    sym (sym c.loop-word.invariant ∙ m ∙ breaks_off c.in-Some-read_piece.piece.write c.loop-word.written _ c.if-written.true
    c.if-not-piece.true)

pub loop-word-smaller : goal.loop-word-smaller
loop-word-smaller c = rw (← c.in-Some.ensures) at (cut_shorter 32 c.loop-word.rest.now)

pub loop-word-preserved : goal.loop-word-preserved
loop-word-preserved c =
    let m = text_more c.loop-word.written c.loop-word.rest.now c.in-Some.word.now c.in-Some.after.now c.in-Some-read_piece.piece
    (sym c.in-Some.ensures) (sym c.in-Some-read_piece.ensures.value) in
    let on : (c.in-Some-read_piece.piece.write || not c.loop-word.written) ≡ true = elim c.else-written.branch [
      | else-written-via-then-written+else-not-piece w ↦ or_left c.in-Some-read_piece.piece.write
          (not c.loop-word.written) w.if-not-piece.false
      | else-written-via-else-written w ↦ or_right c.in-Some-read_piece.piece.write c.loop-word.written w.if-written.false
    ] in
    sym (m ∙ ap (λ b. b && text_goes_on c.in-Some-read_piece.piece.write (pieces c.in-Some.after.now)) on) ∙ c.loop-word.invariant

pub returns-in-None-read_piece : goal.returns-in-None-read_piece
returns-in-None-read_piece c =
    sym (text_last_none c.loop-word.written c.loop-word.rest.now (sym c.in_default.ensures) (sym c.in-None-read_piece.ensures.value))
    ∙ c.loop-word.invariant

pub returns-then-piece : goal.returns-then-piece
returns-then-piece c =
    let m = text_last c.loop-word.written c.loop-word.rest.now c.in-Some-read_piece-2.piece (sym c.in_default.ensures)
    (sym c.in-Some-read_piece-2.ensures.value) in
    or_true c.in-Some-read_piece-2.piece.write (not c.loop-word.written) c.if-piece.true ∙ sym m ∙ c.loop-word.invariant

pub returns-else-piece : goal.returns-else-piece
returns-else-piece c =
    let m = text_last c.loop-word.written c.loop-word.rest.now c.in-Some-read_piece-2.piece (sym c.in_default.ensures)
    (sym c.in-Some-read_piece-2.ensures.value) in
    or_false c.in-Some-read_piece-2.piece.write (not c.loop-word.written) c.if-piece.false ∙ sym m ∙ c.loop-word.invariant
