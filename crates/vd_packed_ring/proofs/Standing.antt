-- Words that stand one after the other, and what a table's words spell.
use Rattle.std.proofs.Common.{◌≡◌, ℕ, zero, suc, ◌+◌, ◌*◌, ◌/◌, ◌%◌, ◌<◌, ◌≤◌, ◌==◌, Bool, true, false, List, [], ◌∷◌, length, take, drop, drop-cons, slice_index, slice_index_or, sym, ap, ap₂, refl, ◌∙◌, arith}
use Rattle.std.specs.List.{All}
use Rattle.std.proofs.lemmas.List.{length-take-le, get_or_default, get_or-take}
use Rattle.std.proofs.lemmas.List.Elements.{All-head, All-tail}
use Rattle.vd_model.specs.declared.chain.Piece.{Piece}
use Rattle.vd_model.specs.Chains.{IsPiece}
use Rattle.vd_indirect.specs.declared.descriptor.TableKind.TheVariants.{Packed}
use Rattle.vd_indirect.specs.Tables.{flag, is_more, second_word, table_words, words_from}
use Rattle.vd_indirect.proofs.Written.{length-words_from}
use Rattle.vd_ring.specs.declared.frame.Put.{Put}
use Rattle.vd_packed_ring.specs.PackedWords.{put, words_of, Stand, packed_word, len_of, flags_of, is_write}
use Rattle.vd_packed_ring.specs.PackedChains.{standing, piece_of, pieces_of}
use Rattle.vd_packed_ring.specs.PackedRing.{IsClear}
use Rattle.vd_packed_ring.proofs.WordFacts.{len_back, flags_back}

pub length_standing : (at : ℕ) (ws : List ℕ) → length (standing at ws) ≡ length ws
length_standing at [] = refl
length_standing at (w ∷ ws) = omega (arith, length_standing (at + 1) ws)

-- each word by its number
pub standing_at : (at : ℕ) (ws : List ℕ) (k : ℕ) → k < length ws → (slice_index_or (standing at ws) k (put 0 0)).place ≡ at + k
standing_at at [] k h = absurd (omega arith)
standing_at at (w ∷ ws) zero h = omega arith
standing_at at (w ∷ ws) (suc k) h = standing_at (at + 1) ws k (omega arith) ∙ (let e : (at + 1) + k ≡ at + suc k = omega arith in e)

pub standing_word : (at : ℕ) (ws : List ℕ) (k : ℕ) → k < length ws → (slice_index_or (standing at ws) k (put 0 0)).word ≡ slice_index ws k
standing_word at [] k h = absurd (omega arith)
standing_word at (w ∷ ws) zero h = refl
standing_word at (w ∷ ws) (suc k) h = standing_word (at + 1) ws k (omega arith)

-- the same where past the last word stands another
pub standing_place : (at : ℕ) (ws : List ℕ) (k : ℕ) (d : Put) → k < length ws → (slice_index_or (standing at ws) k d).place ≡ at + k
standing_place at ws k d h = ap (λ (s : Put). s.place)
    (sym (get_or_default (standing at ws) k (put 0 0) d (omega (arith, length_standing at ws)))) ∙ standing_at at ws k h

pub words_standing : (at : ℕ) (ws : List ℕ) → words_of (standing at ws) ≡ ws
words_standing at [] = refl
words_standing at (w ∷ ws) = ap (λ (us : List ℕ). w ∷ us) (words_standing (at + 1) ws)

-- they stand at different places
pub standing_differs : (at : ℕ) (ws : List ℕ) (k : ℕ) → k < length (standing at ws)
    → IsClear (take k (standing at ws)) (slice_index_or (standing at ws) k (put 0 0)).place
standing_differs at ws k below = λ j d h e.
    let long = length_standing at ws in
    let low : j < k = omega (arith, h, length-take-le k (standing at ws) (omega arith)) in
    let here : (slice_index_or (take k (standing at ws)) j d).place ≡ at + j =
    ap (λ (s : Put). s.place) (get_or-take k (standing at ws) j d low) ∙ standing_place at ws j d (omega arith) in
    omega (arith, here, e, standing_at at ws k (omega arith))

-- where they stand among the words, those words are they
pub standing_stands : (all : List ℕ) (at : ℕ) (ws : List ℕ) → at + length ws ≤ length all → Stand all (standing at ws)
    → take (length ws) (drop at all) ≡ ws
standing_stands all at [] inside stand = refl
standing_stands all at (w ∷ ws) inside stand =
    let rest : take (length ws) (drop (at + 1) all) ≡ ws =
    standing_stands all (at + 1) ws (omega arith) (λ k d h. stand (suc k) d (omega arith)) in
    let next : suc at ≡ at + 1 = omega arith in
    ap (λ (us : List ℕ). take (suc (length ws)) us) (drop-cons all at 0 (omega arith))
    ∙ ap (λ (us : List ℕ). slice_index all at ∷ take (length ws) us) (ap (λ n. drop n all) next)
    ∙ ap (λ (us : List ℕ). slice_index all at ∷ us) rest
    ∙ ap (λ (x : ℕ). x ∷ ws) (stand 0 (put 0 0) (omega arith))

-- ---- a table's words

pub length_tabled : (t : ℕ) (c : List Piece) → length (standing t (table_words Packed c)) ≡ 2 * length c
length_tabled t c = length_standing t (table_words Packed c) ∙ length-words_from Packed 0 c

pub tabled_place : (t : ℕ) (c : List Piece) (k : ℕ) → k < length (standing t (table_words Packed c))
    → (slice_index_or (standing t (table_words Packed c)) k (put 0 0)).place ≡ t + k
tabled_place t c k h = standing_at t (table_words Packed c) k (omega (arith, length_standing t (table_words Packed c)))

abbrev piece : ℕ → ℕ → Bool → Piece
piece a l w = record { addr = a; len = l; write = w }

flag_low : (b : Bool) → flag 2 b ≤ 2
flag_low true = omega arith
flag_low false = omega arith

write_back : (b : Bool) → ((flag 2 b / 2) % 2 == 1) ≡ b
write_back true = refl
write_back false = refl

-- the second word of a piece in a table: its length, no id, and WRITE alone
table_second : (x : Piece) (more : Bool) (place : ℕ) → second_word Packed x more place ≡ packed_word x.len 0 (flag 2 x.write)
table_second x more place = omega arith

table_piece : (x : Piece) (more : Bool) (place : ℕ) → IsPiece x → piece_of x.addr (second_word Packed x more place) ≡ x
table_piece x more place is =
    let g : ℕ = flag 2 x.write in
    let l : len_of (packed_word x.len 0 g) ≡ x.len = len_back x.len 0 g is.1 in
    let fl : flags_of (packed_word x.len 0 g) ≡ g = flags_back x.len 0 g is.1 (omega arith) in
    let w : is_write (packed_word x.len 0 g) ≡ x.write = ap (λ (y : ℕ). ((y / 2) % 2) == 1) fl ∙ write_back x.write in
    ap (piece_of x.addr) (table_second x more place) ∙ ap₂ (λ (m : ℕ) (b : Bool). piece x.addr m b) l w

back_from : (place : ℕ) (c : List Piece) → All IsPiece c → pieces_of (words_from Packed place c) ≡ c
back_from place [] ok = refl
back_from place (x ∷ c) ok =
    ap₂ (λ (y : Piece) (l : List Piece). y ∷ l) (table_piece x (is_more c) place (All-head IsPiece x c ok))
    (back_from (place + 1) c (All-tail IsPiece x c ok))

-- they spell the chain
pub tabled_back : (t : ℕ) (c : List Piece) → All IsPiece c → pieces_of (words_of (standing t (table_words Packed c))) ≡ c
tabled_back t c ok = ap pieces_of (words_standing t (table_words Packed c)) ∙ back_from 0 c ok
