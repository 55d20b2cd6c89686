-- What the words of a chain spell that stands in descriptors of the ring, one a piece.
use Rattle.std.proofs.Common.{◌≡◌, ℕ, zero, suc, ◌+◌, ◌*◌, ◌<◌, ◌≤◌, Bool, true, false, not, List, [], ◌∷◌, ◌++◌, length, take, if◌then◌else◌, slice_index, slice_index_or, refl, sym, ap, ◌∙◌, subst, arith}
use Rattle.std.specs.List.{All}
use Rattle.std.proofs.lemmas.List.{map-append, take_more}
use Rattle.std.proofs.lemmas.List.Elements.{All-nil, All-cons, All-head, All-tail}
use Rattle.vd_model.specs.declared.chain.Piece.{Piece}
use Rattle.vd_model.specs.Chains.{IsPiece, needs}
use Rattle.vd_ring.specs.declared.frame.Frame.{Frame}
use Rattle.vd_ring.specs.declared.frame.Put.{Put}
use Rattle.vd_ring.specs.Frames.{borrowed}
use Rattle.vd_packed_ring.specs.PackedWords.{IsLawful, addr_word, second_word, put, words_of, goes_on, is_write, Stand}
use Rattle.vd_packed_ring.specs.PackedChains.{Descriptor, blank, avail_word, more, flags, direct, staged, described, publishing, loaded, piece_of, pieces_of, pieces_in, ends, following, last_id, staged_pieces}
use Rattle.vd_packed_ring.proofs.WordFacts.{Fits, bit, write_bit, avail_len, avail_flags, avail_id}
use Rattle.vd_packed_ring.proofs.Plans.{Stands}

-- a chain borrows one id
pub borrowed_one : (f : Frame) (c : List Piece) → IsLawful f → borrowed f c ≡ 1
borrowed_one f c l = ap (λ (b : Bool). if b then 1 else needs f.features c) l.packed

-- ---- a chain's descriptors

pub length_direct : (id : ℕ) (c : List Piece) → length (direct id c) ≡ length c
length_direct id [] = refl
length_direct id (x ∷ c) = ap suc (length_direct id c)

more_low : (c : List Piece) → more c ≤ 1
more_low [] = omega arith
more_low (x ∷ c) = omega arith

write_low : (b : Bool) → write_bit b ≤ 2
write_low true = omega arith
write_low false = omega arith

abbrev pub some : List Piece → Bool
some [] = false
some (x ∷ c) = true

more_bit : (c : List Piece) → more c ≡ bit (some c)
more_bit [] = refl
more_bit (x ∷ c) = refl

abbrev one : ℕ → Piece → List Piece → Descriptor
one id x c = record { addr = x.addr; len = x.len; id = id; flags = flags x c }

one_fits : (id : ℕ) (x : Piece) (c : List Piece) → id < 65536 → IsPiece x → Fits (one id x c)
one_fits id x c low is = record { len = omega (arith, is.1); id = low; flags = omega (arith, more_low c, write_low x.write) }

pub direct_fits : (id : ℕ) (c : List Piece) → id < 65536 → All IsPiece c → All Fits (direct id c)
direct_fits id [] low is = All-nil Fits
direct_fits id (x ∷ c) low is = All-cons Fits (one id x c) (direct id c) (one_fits id x c low (All-head IsPiece x c is))
    (direct_fits id c low (All-tail IsPiece x c is))

pub direct_id : (id : ℕ) (c : List Piece) → 0 < length c → (slice_index_or (direct id c) 0 blank).id ≡ id
direct_id id [] h = absurd (omega arith)
direct_id id (x ∷ c) h = refl

-- ---- reading back

abbrev piece : ℕ → ℕ → Bool → Piece
piece a l w = record { addr = a; len = l; write = w }

same_piece : (a l m : ℕ) (v w : Bool) → m ≡ l → v ≡ w → piece a m v ≡ piece a l w
same_piece a l m v w h k = ap (λ (n : ℕ). piece a n v) h ∙ ap (λ (b : Bool). piece a l b) k

reads : (n q id : ℕ) (x : Piece) (c : List Piece) → id < 65536 → IsPiece x → (goes_on (avail_word n q (one id x c)) ≡ some c)
    × (is_write (avail_word n q (one id x c)) ≡ x.write)
reads n q id x c low is = avail_flags n q (one id x c) (some c) x.write (one_fits id x c low is)
    (ap (λ (m : ℕ). m + write_bit x.write) (more_bit c))

pub reads_piece : (n q id : ℕ) (x : Piece) (c : List Piece) → id < 65536 → IsPiece x → piece_of x.addr (avail_word n q (one id x c)) ≡ x
reads_piece n q id x c low is = same_piece x.addr x.len _ _ x.write (avail_len n q (one id x c) (one_fits id x c low is))
    (reads n q id x c low is).1

described_back : (n q id : ℕ) (c : List Piece) → id < 65536 → All IsPiece c → pieces_of (words_of (described n q (direct id c))) ≡ c
described_back n q id [] low is = refl
described_back n q id (x ∷ c) low is =
    ap (λ (y : Piece). y ∷ pieces_of (words_of (described n (q + 1) (direct id c))))
    (reads_piece n q id x c low (All-head IsPiece x c is))
    ∙ ap (λ (l : List Piece). x ∷ l) (described_back n (q + 1) id c low (All-tail IsPiece x c is))

-- the stores of an offer spell its chain
pub staged_back : (n q id : ℕ) (c : List Piece) → 0 < length c → id < 65536 → All IsPiece c
    → staged_pieces (words_of (staged n q (direct id c))) (publishing n q (direct id c)).word ≡ c
staged_back n q id [] h low is = absurd (omega arith)
staged_back n q id (x ∷ c) h low is =
    ap (λ (y : Piece). y ∷ pieces_of (words_of (described n (q + 1) (direct id c))))
    (reads_piece n q id x c low (All-head IsPiece x c is))
    ∙ ap (λ (l : List Piece). x ∷ l) (described_back n (q + 1) id c low (All-tail IsPiece x c is))

-- and so do the loads of a take
pub loaded_back : (n q id : ℕ) (c : List Piece) → id < 65536 → All IsPiece c → pieces_in (words_of (loaded n q (direct id c))) ≡ c
loaded_back n q id [] low is = refl
loaded_back n q id (x ∷ c) low is =
    ap (λ (y : Piece). y ∷ pieces_in (words_of (loaded n (q + 1) (direct id c)))) (reads_piece n q id x c low (All-head IsPiece x c is))
    ∙ ap (λ (l : List Piece). x ∷ l) (loaded_back n (q + 1) id c low (All-tail IsPiece x c is))

pub length_loaded : (n q : ℕ) (ds : List Descriptor) → length (loaded n q ds) ≡ 2 * length ds
length_loaded n q [] = refl
length_loaded n q (d ∷ ds) = omega (arith, length_loaded n (q + 1) ds)

-- fewer of its words are no whole chain, and all are one
pub not_whole : (n q id : ℕ) (c : List Piece) (k : ℕ) → id < 65536 → All IsPiece c → k < 2 * length c
    → ends (words_of (take k (loaded n q (direct id c)))) ≡ false
not_whole n q id [] k low is h = absurd (omega arith)
not_whole n q id (x ∷ c) zero low is h = refl
not_whole n q id (x ∷ c) (suc zero) low is h = refl
not_whole n q id (x ∷ []) (suc (suc k)) low is h = absurd (omega arith)
not_whole n q id (x ∷ y ∷ c) (suc (suc zero)) low is h = ap not (reads n q id x (y ∷ c) low (All-head IsPiece x (y ∷ c) is)).0
not_whole n q id (x ∷ y ∷ c) (suc (suc (suc k))) low is h = not_whole n (q + 1) id (y ∷ c) (suc k) low (All-tail IsPiece x (y ∷ c) is)
    (omega arith)

pub whole : (n q id : ℕ) (c : List Piece) → id < 65536 → All IsPiece c → 0 < length c → ends (words_of (loaded n q (direct id c))) ≡ true
whole n q id [] low is h = absurd (omega arith)
whole n q id (x ∷ []) low is h = ap not (reads n q id x [] low (All-head IsPiece x [] is)).0
whole n q id (x ∷ y ∷ c) low is h = whole n (q + 1) id (y ∷ c) low (All-tail IsPiece x (y ∷ c) is) (omega arith)

-- the last second word has the chain's id
pub last_back : (n q id : ℕ) (c : List Piece) → id < 65536 → All IsPiece c → 0 < length c
    → last_id (words_of (loaded n q (direct id c))) ≡ id
last_back n q id [] low is h = absurd (omega arith)
last_back n q id (x ∷ []) low is h = avail_id n q (one id x []) (one_fits id x [] low (All-head IsPiece x [] is))
last_back n q id (x ∷ y ∷ c) low is h = last_back n (q + 1) id (y ∷ c) low (All-tail IsPiece x (y ∷ c) is) (omega arith)

-- the words loaded so far tell where the next stands
pub following_at : (n q : ℕ) (ds : List Descriptor) (k : ℕ) → k < length (loaded n q ds)
    → following n q (words_of (take k (loaded n q ds))) ≡ (slice_index_or (loaded n q ds) k (put 0 0)).place
following_at n q [] k h = absurd (omega arith)
following_at n q (d ∷ ds) zero h = refl
following_at n q (d ∷ ds) (suc zero) h = refl
following_at n q (d ∷ ds) (suc (suc k)) h = following_at n (q + 1) ds k (omega arith)

pub words_more : (ss : List Put) (ws : List ℕ) → length ws < length ss → ws ≡ words_of (take (length ws) ss)
    → ws ++ (slice_index_or ss (length ws) (put 0 0)).word ∷ [] ≡ words_of (take (length ws + 1) ss)
words_more ss ws below is =
    let s : Put = slice_index_or ss (length ws) (put 0 0) in
    ap (λ (l : List ℕ). l ++ s.word ∷ []) is
    ∙ (sym (map-append (λ (p : Put). p.word) (take (length ws) ss) (s ∷ []))
    ∙ ap words_of (sym (take_more ss (length ws) (put 0 0) below)))

-- words that stand as descriptors stand in the order of a take
pub loaded_stand : (ws : List ℕ) (n q : ℕ) (ds : List Descriptor)
    → ((j : ℕ) → j < length ds → (slice_index ws (addr_word n (q + j)) ≡ (slice_index_or ds j blank).addr)
    × (slice_index ws (second_word n (q + j)) ≡ avail_word n (q + j) (slice_index_or ds j blank)))
    → Stand ws (loaded n q ds)
loaded_stand ws n q [] each = All-nil (Stands ws)
loaded_stand ws n q (d ∷ ds) each =
    let first = subst (λ (r : ℕ). (slice_index ws (addr_word n r) ≡ d.addr) × (slice_index ws (second_word n r) ≡ avail_word n r d))
    (let e : q + 0 ≡ q = omega arith in e) (each 0 (omega arith)) in
    All-cons (Stands ws) (put (second_word n q) (avail_word n q d)) (put (addr_word n q) d.addr ∷ loaded n (q + 1) ds) first.1
    (All-cons (Stands ws) (put (addr_word n q) d.addr) (loaded n (q + 1) ds) first.0
    (loaded_stand ws n (q + 1) ds (λ j h. subst (λ (r : ℕ). (slice_index ws (addr_word n r) ≡ (slice_index_or ds j blank).addr)
    × (slice_index ws (second_word n r) ≡ avail_word n r (slice_index_or ds j blank))) (let e : q + suc j ≡ q + 1 + j =
    omega arith in e) (each (suc j) (omega arith)))))
