use Rattle.std.proofs.Common.{◌≡◌, ℕ, ◌+◌, ◌*◌, ◌<◌, List, [], ◌∷◌, length, slice_index, slice_index_or, ap, sym, ◌∙◌, arith}
use Rattle.std.proofs.lemmas.List.{get_or_append_left, get_or-append-add}
use Rattle.vd_model.specs.declared.chain.Piece.{Piece}
use Rattle.vd_indirect.specs.declared.descriptor.TableKind.TheVariants.{Split}
use Rattle.vd_indirect.specs.Tables.{table_words}
use Rattle.vd_indirect.proofs.Written.{length-words_from}
use Rattle.vd_ring.specs.declared.frame.Put.{Put}
use Rattle.vd_split_ring.specs.SplitWords.{put, row}
use Rattle.vd_split_ring.proofs.Rows.{length_row, row_at}
use Rattle.vd_split.specs.Parts.{table_place, tabled}
use Rattle.vd_split.proofs.tables.tabled_word.Goals as goal

-- the two stores after the table's
abbrev pointers : ℕ → ℕ → List Piece → List Put
pointers t h c = put (2 * h) (8 * t) ∷ put (2 * h + 1) (16 * length c + 17179869184) ∷ []

long : (t : ℕ) (c : List Piece) → length (row t (table_words Split c)) ≡ 2 * length c
long t c = length_row t (table_words Split c) ∙ length-words_from Split 0 c

-- a word of the table
inside : (t h : ℕ) (c : List Piece) (at : ℕ) → at < 2 * length c → ((slice_index_or (tabled t h c) at (put 0 0)).place ≡ t + at)
    × ((slice_index_or (tabled t h c) at (put 0 0)).word ≡ slice_index (table_words Split c) at)
inside t h c at low =
    let here = get_or_append_left (row t (table_words Split c)) (pointers t h c) (put 0 0) at (omega (arith, long t c)) in
    let is = row_at t (table_words Split c) at (omega (arith, length-words_from Split 0 c)) in
    (ap (λ (s : Put). s.place) here ∙ is.0, ap (λ (s : Put). s.word) here ∙ is.1)

-- a word of the descriptor that names it
after : (t h : ℕ) (c : List Piece) (at j : ℕ) → at ≡ 2 * length c + j
    → slice_index_or (tabled t h c) at (put 0 0) ≡ slice_index_or (pointers t h c) j (put 0 0)
after t h c at j is =
    ap (λ n. slice_index_or (tabled t h c) n (put 0 0)) (let e : at ≡ length (row t (table_words Split c)) + j =
    omega (arith, is, long t c) in e)
    ∙ get_or-append-add (row t (table_words Split c)) (pointers t h c) j (put 0 0)

pub returns-then-at-words-clause-place : goal.returns-then-at-words-clause-place
returns-then-at-words-clause-place c =
    let t : ℕ = table_place c.args.size c.args.head in
    ap (λ n. n + c.args.at) c.table_place-table.ensures ∙ sym (inside t c.args.head c.args.pieces.now c.args.at c.if-at-words.true).0

pub returns-then-at-words-clause-word : goal.returns-then-at-words-clause-word
returns-then-at-words-clause-word c =
    c.table_word.ensures ∙ sym (inside (table_place c.args.size c.args.head) c.args.head c.args.pieces.now c.args.at c.if-at-words.true).1

pub returns-then-at-words-2-clause-place : goal.returns-then-at-words-2-clause-place
returns-then-at-words-2-clause-place c =
    sym (ap (λ (s : Put). s.place) (after (table_place c.args.size c.args.head) c.args.head c.args.pieces.now c.args.at 0
    (omega (arith, c.if-at-words-2.true))))

pub returns-then-at-words-2-clause-word : goal.returns-then-at-words-2-clause-word
returns-then-at-words-2-clause-word c =
    ap (λ n. 8 * n) c.table_place-table.ensures
    ∙ sym (ap (λ (s : Put). s.word) (after (table_place c.args.size c.args.head) c.args.head c.args.pieces.now c.args.at 0
    (omega (arith, c.if-at-words-2.true))))

pub returns-clause-place : goal.returns-clause-place
returns-clause-place c = sym (ap (λ (s : Put). s.place)
    (after (table_place c.args.size c.args.head) c.args.head c.args.pieces.now c.args.at 1
    (omega (arith, c.requires.within, c.if-at-words.false, c.if-at-words-2.false))))

pub returns-clause-word : goal.returns-clause-word
returns-clause-word c = sym (ap (λ (s : Put). s.word)
    (after (table_place c.args.size c.args.head) c.args.head c.args.pieces.now c.args.at 1
    (omega (arith, c.requires.within, c.if-at-words.false, c.if-at-words-2.false))))
