-- The descriptors of a chain: where they stand, and what reads back.
use Rattle.std.proofs.Common.{◌≡◌, ◌≢◌, ℕ, zero, suc, ◌+◌, ◌-◌, ◌*◌, ◌/◌, ◌%◌, ◌^◌, ◌<◌, ◌≤◌, Bool, true, false, not, List, [], ◌∷◌, ◌++◌, length, take, drop, if◌then◌else◌, slice_index, slice_index_or, slice_set, refl, sym, ap, ◌∙◌, subst, arith}
use Rattle.std.specs.List.{All}
use Rattle.std.proofs.lemmas.Bool.{eq-eqb, ne_eqb}
use Rattle.std.proofs.lemmas.List.{get_or-set_other, get_or-set_same, take_more, map-append, get_or_default}
use Rattle.std.proofs.lemmas.List.Elements.{All-nil, All-cons, All-head, All-tail, All-append}
use Rattle.vd_model.specs.declared.chain.Piece.{Piece}
use Rattle.vd_model.specs.Chains.{blank, IsPiece}
use Rattle.vd_ring.specs.declared.frame.Put.{Put}
use Rattle.vd_ring.specs.History.{occurs, first}
use Rattle.vd_split_ring.specs.SplitWords.{put, more, second, described, words_of, Stand, goes_on, next_of, piece_of, pieces_of, ends, linked}
use Rattle.vd_ring.proofs.Counts.{one_same}

abbrev pub IsApart : ℕ → Put → Type 0
IsApart q s = s.place ≢ q

abbrev pub Stands : List ℕ → Put → Type 0
Stands ws s = slice_index ws s.place ≡ s.word

pub length-described : (base : ℕ) (ps : List ℕ) (c : List Piece) → length ps ≡ length c → length (described base ps c) ≡ 2 * length c
length-described base [] [] h = refl
length-described base [] (x ∷ c) h = absurd (omega arith)
length-described base (p ∷ ps) [] h = absurd (omega arith)
length-described base (p ∷ ps) (x ∷ c) h = omega (arith, length-described base ps c (omega arith))

-- the word q is one of the two of a descriptor of the list
pub record IsAt (base : ℕ) (ps : List ℕ) (q : ℕ) : Type 0 where
  pub place : ℕ
  pub here : 1 ≤ occurs place ps
  pub low : base + 2 * place ≤ q
  pub high : q ≤ base + 2 * place + 1

at_further : (base p : ℕ) (ps : List ℕ) (q : ℕ) → IsAt base ps q → IsAt base (p ∷ ps) q
at_further base p ps q a = record { place = a.place; here = omega (arith, a.here); low = a.low; high = a.high }

pub described_at : (base : ℕ) (ps : List ℕ) (c : List Piece) (k : ℕ) → k < length (described base ps c)
    → IsAt base ps (slice_index_or (described base ps c) k (put 0 0)).place
described_at base [] c k h = absurd (omega arith)
described_at base (p ∷ ps) [] k h = absurd (omega arith)
described_at base (p ∷ ps) (x ∷ c) zero h = record {
  place = p;
  here = omega (arith, one_same p p refl);
  low = omega arith;
  high =
      omega arith;
}
described_at base (p ∷ ps) (x ∷ c) (suc zero) h = record {
  place = p;
  here = omega (arith, one_same p p refl);
  low = omega arith;
  high =
      omega arith;
}
described_at base (p ∷ ps) (x ∷ c) (suc (suc k)) h = at_further base p ps (slice_index_or (described base ps c) k (put 0 0)).place
    (described_at base ps c k (omega arith))

pub described_within : (base : ℕ) (ps : List ℕ) (c : List Piece) → All (λ s. IsAt base ps s.place) (described base ps c)
described_within base ps c = λ k d h. subst (λ (s : Put). IsAt base ps s.place) (get_or_default (described base ps c) k (put 0 0) d h)
    (described_at base ps c k h)

-- a word of no descriptor of the list is none of them
pub described_apart : (base : ℕ) (ps : List ℕ) (c : List Piece) (q : ℕ) → (IsAt base ps q → ⊥) → All (IsApart q) (described base ps c)
described_apart base ps c q outside = λ k d h e. outside (subst (λ (r : ℕ). IsAt base ps r) e (described_within base ps c k d h))

-- those before one of them stand elsewhere
pub described_before : (base : ℕ) (ps : List ℕ) (c : List Piece) (k : ℕ) → ((p : ℕ) → occurs p ps ≤ 1) → k < length (described base ps c)
    → All (IsApart (slice_index_or (described base ps c) k (put 0 0)).place) (take k (described base ps c))
described_before base [] c k h below = absurd (omega arith)
described_before base (p ∷ ps) [] k h below = absurd (omega arith)
described_before base (p ∷ ps) (x ∷ c) zero h below = All-nil (IsApart (base + 2 * p))
described_before base (p ∷ ps) (x ∷ c) (suc zero) h below =
    All-cons (IsApart (base + 2 * p + 1)) (put (base + 2 * p) x.addr) [] (λ e. omega arith) (All-nil (IsApart (base + 2 * p + 1)))
described_before base (p ∷ ps) (x ∷ c) (suc (suc k)) h below =
    let q : ℕ = (slice_index_or (described base ps c) k (put 0 0)).place in
    let a : IsAt base ps q = described_at base ps c k (omega arith) in
    let ne : a.place ≢ p = λ e. omega (arith, a.here, h a.place, one_same p a.place (sym e)) in
    let apart : (r : ℕ) → base + 2 * p ≤ r → r ≤ base + 2 * p + 1 → r ≢ q =
    λ r low high e. ne (let b : a.place ≡ p = omega (arith, a.low, a.high) in b) in
    All-cons (IsApart q) (put (base + 2 * p) x.addr) (put (base + 2 * p + 1) (second x c (first ps)) ∷ take k (described base ps c))
    (apart (base + 2 * p) (omega arith) (omega arith))
    (All-cons (IsApart q) (put (base + 2 * p + 1) (second x c (first ps))) (take k (described base ps c))
    (apart (base + 2 * p + 1) (omega arith) (omega arith))
    (described_before base ps c k (λ r. omega (arith, h r)) (omega arith)))

-- a store elsewhere
pub stand_other : (ws : List ℕ) (ss : List Put) (q x : ℕ) → Stand ws ss → All (IsApart q) ss → Stand (slice_set ws q x) ss
stand_other ws ss q x stand apart = λ k d h. get_or-set_other ws q (slice_index_or ss k d).place x 0 (apart k d h) ∙ stand k d h

-- the next store
pub stand_more : (ws : List ℕ) (ss : List Put) (k : ℕ) → k < length ss → (slice_index_or ss k (put 0 0)).place < length ws
    → All (IsApart (slice_index_or ss k (put 0 0)).place) (take k ss) → Stand ws (take k ss)
    → Stand (slice_set ws (slice_index_or ss k (put 0 0)).place (slice_index_or ss k (put 0 0)).word) (take (k + 1) ss)
stand_more ws ss k below inside apart stand =
    let s : Put = slice_index_or ss k (put 0 0) in
    let us : List ℕ = slice_set ws s.place s.word in
    rw (take_more ss k (put 0 0) below) (All-append (Stands us) (take k ss) (s ∷ []) (stand_other ws (take k ss) s.place s.word stand apart)
    (All-cons (Stands us) s [] (get_or-set_same ws s.place s.word 0 inside) (All-nil (Stands us))))

pub words_more : (ss : List Put) (ws : List ℕ) → length ws < length ss → ws ≡ words_of (take (length ws) ss)
    → ws ++ (slice_index_or ss (length ws) (put 0 0)).word ∷ [] ≡ words_of (take (length ws + 1) ss)
words_more ss ws below is =
    let s : Put = slice_index_or ss (length ws) (put 0 0) in
    ap (λ (l : List ℕ). l ++ s.word ∷ []) is
    ∙ (sym (map-append (λ (p : Put). p.word) (take (length ws) ss) (s ∷ []))
    ∙ ap words_of (sym (take_more ss (length ws) (put 0 0) below)))

-- a word past the descriptors is none of them
pub described_below : (base : ℕ) (ps : List ℕ) (c : List Piece) (n q : ℕ) → ((p : ℕ) → 1 ≤ occurs p ps → p < n) → base + 2 * n ≤ q
    → All (IsApart q) (described base ps c)
described_below base ps c n q inside past = described_apart base ps c q (λ a. omega (arith, inside a.place a.here, a.high))

-- ---- reading

more_small : (c : List Piece) → more c ≤ 1
more_small [] = omega arith
more_small (y ∷ c) = omega arith

two_small : (w : Bool) → (if w then 2 else 0) ≤ 2
two_small true = omega arith
two_small false = omega arith

abbrev piece : ℕ → ℕ → Bool → Piece
piece a l w = record { addr = a; len = l; write = w }

same_piece : (a l m : ℕ) (v w : Bool) → m ≡ l → v ≡ w → piece a m v ≡ piece a l w
same_piece a l m v w h k = ap (λ (n : ℕ). piece a n v) h ∙ ap (λ (b : Bool). piece a l b) k

pub reads : (a l m next : ℕ) (w : Bool) → m ≤ 1 → l < 2 ^ 32
    → piece_of a (l + (m + (if w then 2 else 0)) * 4294967296 + next * 281474976710656) ≡ piece a l w
reads a l m next true h k = same_piece a l _ _ true (omega arith) (eq-eqb _ 1 (omega arith))
reads a l m next false h k = same_piece a l _ _ false (omega arith) (ne_eqb _ 1 (λ e. omega arith))

pub reads_piece : (x : Piece) (c : List Piece) (next : ℕ) → IsPiece x → piece_of x.addr (second x c next) ≡ x
reads_piece x c next is = reads x.addr x.len (more c) next x.write (more_small c) is.1

pub reads_next : (x : Piece) (c : List Piece) (next : ℕ) → IsPiece x → next_of (second x c next) ≡ next
reads_next x c next is = omega (arith, more_small c, two_small x.write)

pub reads_on : (x y : Piece) (c : List Piece) (next : ℕ) → IsPiece x → goes_on (second x (y ∷ c) next) ≡ true
reads_on x y c next is = eq-eqb _ 1 (even x.write x.len next is.1)
  where
    even : (w : Bool) (l q : ℕ) → l < 2 ^ 32 → ((l + (1 + (if w then 2 else 0)) * 4294967296 + q * 281474976710656) / 4294967296) % 2 ≡ 1
    even true l q h = omega arith
    even false l q h = omega arith

pub reads_last : (x : Piece) (next : ℕ) → IsPiece x → goes_on (second x [] next) ≡ false
reads_last x next is = ne_eqb _ 1 (odd x.write x.len next is.1)
  where
    odd : (w : Bool) (l q : ℕ) → l < 2 ^ 32 → ((l + (0 + (if w then 2 else 0)) * 4294967296 + q * 281474976710656) / 4294967296) % 2 ≢ 1
    odd true l q h = λ e. omega arith
    odd false l q h = λ e. omega arith

-- the words of a whole chain spell it
pub pieces_back : (base : ℕ) (ps : List ℕ) (c : List Piece) → length ps ≡ length c → All IsPiece c
    → pieces_of (words_of (described base ps c)) ≡ c
pieces_back base [] [] h is = refl
pieces_back base [] (x ∷ c) h is = absurd (omega arith)
pieces_back base (p ∷ ps) [] h is = absurd (omega arith)
pieces_back base (p ∷ ps) (x ∷ c) h is =
    ap (λ (y : Piece). y ∷ pieces_of (words_of (described base ps c))) (reads_piece x c (first ps) (All-head IsPiece x c is))
    ∙ ap (λ (l : List Piece). x ∷ l) (pieces_back base ps c (omega arith) (All-tail IsPiece x c is))

-- fewer of its words are no whole chain
pub not_whole : (base : ℕ) (ps : List ℕ) (c : List Piece) (k : ℕ) → length ps ≡ length c → All IsPiece c → k < 2 * length c
    → ends (words_of (take k (described base ps c))) ≡ false
not_whole base [] [] k h is below = absurd (omega arith)
not_whole base [] (x ∷ c) k h is below = absurd (omega arith)
not_whole base (p ∷ ps) [] k h is below = absurd (omega arith)
not_whole base (p ∷ ps) (x ∷ c) zero h is below = refl
not_whole base (p ∷ ps) (x ∷ c) (suc zero) h is below = refl
not_whole base (p ∷ []) (x ∷ []) (suc (suc k)) h is below = absurd (omega arith)
not_whole base (p ∷ []) (x ∷ y ∷ c) (suc (suc k)) h is below = absurd (omega arith)
not_whole base (p ∷ q ∷ ps) (x ∷ []) (suc (suc k)) h is below = absurd (omega arith)
not_whole base (p ∷ q ∷ ps) (x ∷ y ∷ c) (suc (suc zero)) h is below = ap not (reads_on x y c q (All-head IsPiece x (y ∷ c) is))
not_whole base (p ∷ q ∷ ps) (x ∷ y ∷ c) (suc (suc (suc k))) h is below =
    not_whole base (q ∷ ps) (y ∷ c) (suc k) (omega arith) (All-tail IsPiece x (y ∷ c) is) (omega arith)

pub whole : (base : ℕ) (ps : List ℕ) (c : List Piece) → length ps ≡ length c → All IsPiece c → 0 < length c
    → ends (words_of (described base ps c)) ≡ true
whole base [] [] h is some = absurd (omega arith)
whole base [] (x ∷ c) h is some = absurd (omega arith)
whole base (p ∷ ps) [] h is some = absurd (omega arith)
whole base (p ∷ []) (x ∷ []) h is some = ap not (reads_last x 0 (All-head IsPiece x [] is))
whole base (p ∷ []) (x ∷ y ∷ c) h is some = absurd (omega arith)
whole base (p ∷ q ∷ ps) (x ∷ []) h is some = absurd (omega arith)
whole base (p ∷ q ∷ ps) (x ∷ y ∷ c) h is some = whole base (q ∷ ps) (y ∷ c) (omega arith) (All-tail IsPiece x (y ∷ c) is) (omega arith)

-- the words loaded so far tell where the next stands
pub linked_at : (ps : List ℕ) (c : List Piece) (k : ℕ) → length ps ≡ length c → All IsPiece c → k < 2 * length c
    → linked (first ps) (words_of (take k (described 0 ps c))) ≡ (slice_index_or (described 0 ps c) k (put 0 0)).place
linked_at [] [] k h is below = absurd (omega arith)
linked_at [] (x ∷ c) k h is below = absurd (omega arith)
linked_at (p ∷ ps) [] k h is below = absurd (omega arith)
linked_at (p ∷ ps) (x ∷ c) zero h is below = omega arith
linked_at (p ∷ ps) (x ∷ c) (suc zero) h is below = omega arith
linked_at (p ∷ ps) (x ∷ c) (suc (suc k)) h is below =
    ap (λ (n : ℕ). linked n (words_of (take k (described 0 ps c)))) (reads_next x c (first ps) (All-head IsPiece x c is))
    ∙ linked_at ps c k (omega arith) (All-tail IsPiece x c is) (omega arith)

-- ---- each word by its number

pub described_first : (base : ℕ) (ps : List ℕ) (c : List Piece) (at i : ℕ) → length ps ≡ length c → i < length c → at ≡ 2 * i
    → ((slice_index_or (described base ps c) at (put 0 0)).place ≡ base + 2 * slice_index ps i)
    × ((slice_index_or (described base ps c) at (put 0 0)).word ≡ (slice_index_or c i blank).addr)
described_first base ps [] at i h below e = absurd (omega arith)
described_first base [] (x ∷ c) at i h below e = absurd (omega arith)
described_first base (p ∷ ps) (x ∷ c) zero zero h below e = (refl, refl)
described_first base (p ∷ ps) (x ∷ c) (suc at) zero h below e = absurd (omega arith)
described_first base (p ∷ ps) (x ∷ c) zero (suc i) h below e = absurd (omega arith)
described_first base (p ∷ ps) (x ∷ c) (suc zero) (suc i) h below e = absurd (omega arith)
described_first base (p ∷ ps) (x ∷ c) (suc (suc at)) (suc i) h below e =
    described_first base ps c at i (omega arith) (omega arith) (omega arith)

pub described_second : (base : ℕ) (ps : List ℕ) (c : List Piece) (at i j : ℕ) → length ps ≡ length c → i < length c → at ≡ 2 * i + 1
    → j ≡ i + 1
    → ((slice_index_or (described base ps c) at (put 0 0)).place ≡ base + 2 * slice_index ps i + 1)
    × ((slice_index_or (described base ps c) at (put 0 0)).word ≡ second (slice_index_or c i blank) (drop j c) (slice_index ps j))
described_second base ps [] at i j h below e n = absurd (omega arith)
described_second base [] (x ∷ c) at i j h below e n = absurd (omega arith)
described_second base (p ∷ ps) (x ∷ c) zero i j h below e n = absurd (omega arith)
described_second base (p ∷ ps) (x ∷ c) (suc at) i zero h below e n = absurd (omega arith)
described_second base (p ∷ ps) (x ∷ c) (suc zero) zero (suc zero) h below e n = (refl, refl)
described_second base (p ∷ ps) (x ∷ c) (suc zero) zero (suc (suc j)) h below e n = absurd (omega arith)
described_second base (p ∷ ps) (x ∷ c) (suc (suc at)) zero (suc j) h below e n = absurd (omega arith)
described_second base (p ∷ ps) (x ∷ c) (suc zero) (suc i) (suc j) h below e n = absurd (omega arith)
described_second base (p ∷ ps) (x ∷ c) (suc (suc at)) (suc i) (suc j) h below e n =
    described_second base ps c at i j (omega arith) (omega arith) (omega arith) (omega arith)

pub more_some : (c : List Piece) (i : ℕ) → i < length c → more (drop i c) ≡ 1
more_some [] i h = absurd (omega arith)
more_some (x ∷ c) zero h = refl
more_some (x ∷ c) (suc i) h = more_some c i (omega arith)

pub more_none : (c : List Piece) (i : ℕ) → length c ≤ i → more (drop i c) ≡ 0
more_none [] zero h = refl
more_none [] (suc i) h = refl
more_none (x ∷ c) zero h = absurd (omega arith)
more_none (x ∷ c) (suc i) h = more_none c i (omega arith)

-- ---- one word more, and two

pub not_whole_odd : (ws : List ℕ) (a m : ℕ) → length ws ≡ 2 * m → ends (ws ++ a ∷ []) ≡ false
not_whole_odd [] a m h = refl
not_whole_odd (x ∷ []) a m h = absurd (omega arith)
not_whole_odd (x ∷ y ∷ []) a m h = refl
not_whole_odd (x ∷ y ∷ z ∷ ws) a m h = not_whole_odd (z ∷ ws) a (m - 1) (omega arith)

pub whole_last : (ws : List ℕ) (a x m : ℕ) → length ws ≡ 2 * m → ends ((ws ++ a ∷ []) ++ x ∷ []) ≡ not (goes_on x)
whole_last [] a x m h = refl
whole_last (b ∷ []) a x m h = absurd (omega arith)
whole_last (b ∷ s ∷ []) a x m h = refl
whole_last (b ∷ s ∷ z ∷ ws) a x m h = whole_last (z ∷ ws) a x (m - 1) (omega arith)

pub pieces_last : (ws : List ℕ) (a x m : ℕ) → length ws ≡ 2 * m → pieces_of ((ws ++ a ∷ []) ++ x ∷ []) ≡ pieces_of ws ++ piece_of a x ∷ []
pieces_last [] a x m h = refl
pieces_last (b ∷ []) a x m h = absurd (omega arith)
pieces_last (b ∷ s ∷ ws) a x m h = ap (λ (l : List Piece). piece_of b s ∷ l) (pieces_last ws a x (m - 1) (omega arith))

pub linked_odd : (h : ℕ) (ws : List ℕ) (a p m : ℕ) → length ws ≡ 2 * m → linked h ws ≡ 2 * p → linked h (ws ++ a ∷ []) ≡ 2 * p + 1
linked_odd h [] a p m e at = omega arith
linked_odd h (b ∷ []) a p m e at = absurd (omega arith)
linked_odd h (b ∷ s ∷ ws) a p m e at = linked_odd (next_of s) ws a p (m - 1) (omega arith) at

pub linked_last : (h : ℕ) (ws : List ℕ) (a x m : ℕ) → length ws ≡ 2 * m → linked h ((ws ++ a ∷ []) ++ x ∷ []) ≡ 2 * next_of x
linked_last h [] a x m e = refl
linked_last h (b ∷ []) a x m e = absurd (omega arith)
linked_last h (b ∷ s ∷ ws) a x m e = linked_last (next_of s) ws a x (m - 1) (omega arith)
