-- Words that stand one after the other, and what a table's words spell.
use Rattle.std.proofs.Common.{◌≡◌, ℕ, zero, suc, ◌+◌, ◌*◌, ◌<◌, ◌≤◌, Bool, true, false, List, [], ◌∷◌, length, take, drop, drop-cons, if◌then◌else◌, slice_index, slice_index_or, sym, ap, refl, ◌∙◌, arith}
use Rattle.std.specs.List.{All}
use Rattle.std.proofs.lemmas.List.{length-take-le, get_or_default, get_or-take}
use Rattle.std.proofs.lemmas.List.Elements.{All-head, All-tail}
use Rattle.vd_model.specs.declared.chain.Piece.{Piece}
use Rattle.vd_model.specs.Chains.{IsPiece}
use Rattle.vd_indirect.specs.declared.descriptor.TableKind.TheVariants.{Split}
use Rattle.vd_indirect.specs.Tables.{flag, is_more, second_word, table_words, words_from}
use Rattle.vd_indirect.proofs.Written.{length-words_from}
use Rattle.vd_ring.specs.declared.frame.Frame.{Frame}
use Rattle.vd_ring.specs.declared.frame.Put.{Put}
use Rattle.vd_split_ring.specs.SplitWords.{put, row, table, table_of, words_of, Stand, piece_of, pieces_of}
use Rattle.vd_split_ring.proofs.Descriptors.{IsApart, reads}

pub length_row : (at : ℕ) (ws : List ℕ) → length (row at ws) ≡ length ws
length_row at [] = refl
length_row at (w ∷ ws) = omega (arith, length_row (at + 1) ws)

-- each word by its number
pub row_at : (at : ℕ) (ws : List ℕ) (k : ℕ) → k < length ws → ((slice_index_or (row at ws) k (put 0 0)).place ≡ at + k)
    × ((slice_index_or (row at ws) k (put 0 0)).word ≡ slice_index ws k)
row_at at [] k h = absurd (omega arith)
row_at at (w ∷ ws) zero h = (omega arith, refl)
row_at at (w ∷ ws) (suc k) h = let r = row_at (at + 1) ws k (omega arith) in
    (r.0 ∙ (let e : (at + 1) + k ≡ at + suc k = omega arith in e), r.1)

-- the same where past the last word stands another
pub row_place : (at : ℕ) (ws : List ℕ) (k : ℕ) (d : Put) → k < length ws → (slice_index_or (row at ws) k d).place ≡ at + k
row_place at ws k d h = ap (λ (s : Put). s.place) (sym (get_or_default (row at ws) k (put 0 0) d (omega (arith, length_row at ws))))
    ∙ (row_at at ws k h).0

pub words_row : (at : ℕ) (ws : List ℕ) → words_of (row at ws) ≡ ws
words_row at [] = refl
words_row at (w ∷ ws) = ap (λ (us : List ℕ). w ∷ us) (words_row (at + 1) ws)

-- they stand at different places
pub row_differs : (at : ℕ) (ws : List ℕ) (k : ℕ) → k < length (row at ws)
    → All (IsApart (slice_index_or (row at ws) k (put 0 0)).place) (take k (row at ws))
row_differs at ws k below = λ j d h e.
    let long = length_row at ws in
    let low : j < k = omega (arith, h, length-take-le k (row at ws) (omega arith)) in
    let here : (slice_index_or (take k (row at ws)) j d).place ≡ at + j = ap (λ (s : Put). s.place) (get_or-take k (row at ws) j d low)
    ∙ row_place at ws j d (omega arith) in
    omega (arith, here, e, (row_at at ws k (omega arith)).0)

-- where they stand among the words, those words are they
pub row_stands : (all : List ℕ) (at : ℕ) (ws : List ℕ) → at + length ws ≤ length all → Stand all (row at ws)
    → take (length ws) (drop at all) ≡ ws
row_stands all at [] inside stand = refl
row_stands all at (w ∷ ws) inside stand =
    let rest : take (length ws) (drop (at + 1) all) ≡ ws =
    row_stands all (at + 1) ws (omega arith) (λ k d h. stand (suc k) d (omega arith)) in
    let next : suc at ≡ at + 1 = omega arith in
    ap (λ (us : List ℕ). take (suc (length ws)) us) (drop-cons all at 0 (omega arith))
    ∙ ap (λ (us : List ℕ). slice_index all at ∷ take (length ws) us) (ap (λ n. drop n all) next)
    ∙ ap (λ (us : List ℕ). slice_index all at ∷ us) rest
    ∙ ap (λ (x : ℕ). x ∷ ws) (stand 0 (put 0 0) (omega arith))

-- ---- a table's words

flag_is : (w : Bool) → flag 2 w ≡ (if w then 2 else 0)
flag_is true = refl
flag_is false = refl

reads_second : (x : Piece) (more : Bool) (place : ℕ) → IsPiece x → piece_of x.addr (second_word Split x more place) ≡ x
reads_second x true place is = ap (λ n. piece_of x.addr (x.len + (1 + n) * 4294967296 + (place + 1) * 281474976710656))
    (flag_is x.write) ∙ reads x.addr x.len 1 (place + 1) x.write (omega arith) is.1
reads_second x false place is = ap (λ n. piece_of x.addr (x.len + (0 + n) * 4294967296 + 0 * 281474976710656)) (flag_is x.write)
    ∙ reads x.addr x.len 0 0 x.write (omega arith) is.1

-- spell its chain
pub table_back : (place : ℕ) (c : List Piece) → All IsPiece c → pieces_of (words_from Split place c) ≡ c
table_back place [] is = refl
table_back place (x ∷ c) is =
    ap (λ (y : Piece). y ∷ pieces_of (words_from Split (place + 1) c)) (reads_second x (is_more c) place (All-head IsPiece x c is))
    ∙ ap (λ (l : List Piece). x ∷ l) (table_back (place + 1) c (All-tail IsPiece x c is))

pub length_table : (f : Frame) (h : ℕ) (c : List Piece) → length (table f h c) ≡ 2 * length c
length_table f h c = length_row (table_of f h) (table_words Split c) ∙ length-words_from Split 0 c

pub table_place : (f : Frame) (h : ℕ) (c : List Piece) (j : ℕ) → j < 2 * length c
    → (slice_index_or (table f h c) j (put 0 0)).place ≡ table_of f h + j
table_place f h c j below = (row_at (table_of f h) (table_words Split c) j (omega (arith, length-words_from Split 0 c))).0

pub table_spells : (f : Frame) (h : ℕ) (c : List Piece) → All IsPiece c → pieces_of (words_of (table f h c)) ≡ c
table_spells f h c is = ap pieces_of (words_row (table_of f h) (table_words Split c)) ∙ table_back 0 c is
