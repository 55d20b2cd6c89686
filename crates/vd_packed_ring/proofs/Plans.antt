-- Where the words of a chain stand, in the order of an offer.
use Rattle.std.proofs.Common.{◌≡◌, ◌≢◌, ℕ, zero, suc, ◌+◌, ◌*◌, ◌%◌, ◌<◌, ◌≤◌, ◌⊎◌, List, [], ◌∷◌, ◌++◌, length, take, slice_index, slice_index_or, slice_set, refl, sym, ap, ◌∙◌, subst, arith, inl, inr}
use Rattle.std.specs.List.{All}
use Rattle.std.proofs.lemmas.Bool.{cases_lt}
use Rattle.std.proofs.lemmas.List.{length_push, take_all, take-append-le, take-take, get_or_push, get_or-take, get_or_append_left, get_or-append-add, get_or-set_other, length-append}
use Rattle.std.proofs.lemmas.List.Elements.{All-nil, All-cons, All-head, All-tail}
use Rattle.vd_ring.specs.declared.frame.Put.{Put}
use Rattle.vd_packed_ring.specs.PackedWords.{addr_word, second_word, put, Stand}
use Rattle.vd_packed_ring.specs.PackedChains.{Descriptor, blank, avail_word, described, staged, publishing}
use Rattle.vd_packed_ring.specs.PackedRing.{IsClear}
use Rattle.vd_packed_ring.proofs.Areas.{window_differ}

-- ---- parts of lists

pub all_left : {X : Type 0} (P : X → Type 0) (xs ys : List X) → All P (xs ++ ys) → All P xs
all_left P xs ys a = λ k d h. subst P (get_or_append_left xs ys d k h) (a k d (omega (arith, length-append xs ys)))

pub all_right : {X : Type 0} (P : X → Type 0) (xs ys : List X) → All P (xs ++ ys) → All P ys
all_right P xs ys a = λ k d h. subst P (get_or-append-add xs ys k d) (a (length xs + k) d (omega (arith, length-append xs ys)))

pub all_take : {X : Type 0} (P : X → Type 0) (n : ℕ) (xs : List X) → All P xs → All P (take n xs)
all_take P zero xs a = All-nil P
all_take P (suc n) [] a = All-nil P
all_take P (suc n) (x ∷ xs) a = All-cons P x (take n xs) (All-head P x xs a) (all_take P n xs (All-tail P x xs a))

pub all_are : {X : Type 0} (P Q : X → Type 0) (xs : List X) → ((x : X) → P x → Q x) → All P xs → All Q xs
all_are P Q xs f a = λ k d h. f (slice_index_or xs k d) (a k d h)

pub record IsNext (ps : List Put) (s : Put) (pl : List Put) : Type 0 where
  pub left : length ps < length pl
  pub before : ps ≡ take (length ps) pl
  pub is : s ≡ slice_index_or pl (length ps) (put 0 0)

abbrev at : List Put → ℕ → Put
at ps k = slice_index_or ps k (put 0 0)

pub is_next : (ps : List Put) (s : Put) (pl : List Put) → ps ++ s ∷ [] ≡ take (length (ps ++ s ∷ [])) pl → IsNext ps s pl
is_next ps s pl e =
    let k : ℕ = length ps in
    let longer : length (ps ++ s ∷ []) ≡ k + 1 = length_push ps s in
    let both : ps ++ s ∷ [] ≡ take (k + 1) pl = e ∙ ap (λ (n : ℕ). take n pl) longer in
    record {
      left = elim (cases_lt k (length pl)) [
        | inl h ↦ h
        | inr h ↦ absurd (omega (
          arith,
          ap (λ (l : List Put). length l) both,
          ap (λ (l : List Put). length l) (take_all (k + 1) pl (omega arith)),
        ))
      ];
      before = sym (take-append-le k ps (s ∷ []) (omega arith) ∙ take_all k ps (omega arith)) ∙ ap (take k) both
          ∙ take-take k (k + 1) pl (omega arith);
      is = sym (get_or_push ps s (put 0 0) k refl) ∙ ap (λ (l : List Put). at l k) both ∙ get_or-take (k + 1) pl k (put 0 0) (omega arith);
    }

-- ---- places

-- one of the words at the positions from q on, so many; `inner` of them are after the first second word
pub record IsStored (n q d p : ℕ) : Type 0 where
  pub position : ℕ
  pub least : q ≤ position
  pub most : position < q + d
  pub place : (p ≡ addr_word n position) ⊎ ((p ≡ second_word n position) × (q < position))

-- one of the words of a position among those from q on
pub record IsWithin (n q d p : ℕ) : Type 0 where
  pub position : ℕ
  pub least : q ≤ position
  pub most : position < q + d
  pub place : (p ≡ addr_word n position) ⊎ (p ≡ second_word n position)

within_next : (n q d p : ℕ) → IsWithin n (q + 1) d p → IsWithin n q (suc d) p
within_next n q d p w = record { position = w.position; least = omega (arith, w.least); most = omega (arith, w.most); place = w.place }

pub described_within : (n q : ℕ) (ds : List Descriptor) → All (λ s. IsWithin n q (length ds) s.place) (described n q ds)
described_within n q [] = All-nil (λ s. IsWithin n q 0 s.place)
described_within n q (d ∷ ds) =
    let P : Put → Type 0 = λ s. IsWithin n q (suc (length ds)) s.place in
    All-cons P (put (addr_word n q) d.addr) (put (second_word n q) (avail_word n q d) ∷ described n (q + 1) ds) record {
      position = q;
      least = omega arith;
      most = omega arith;
      place = inl refl;
    }
    (All-cons P (put (second_word n q) (avail_word n q d)) (described n (q + 1) ds) record {
      position = q;
      least = omega arith;
      most =
          omega arith;
      place = inr refl;
    }
    (all_are (λ s. IsWithin n (q + 1) (length ds) s.place) P (described n (q + 1) ds) (λ s w. within_next n q (length ds) s.place w)
    (described_within n (q + 1) ds)))

stored_from : (n q d p : ℕ) → IsWithin n (q + 1) d p → IsStored n q (suc d) p
stored_from n q d p w = record {
  position = w.position;
  least = omega (arith, w.least);
  most = omega (arith, w.most);
  place = elim w.place [ inl a ↦ inl a | inr a ↦ inr (a, omega (arith, w.least)) ];
}

pub staged_stored : (n q : ℕ) (ds : List Descriptor) → All (λ s. IsStored n q (length ds) s.place) (staged n q ds)
staged_stored n q [] = All-nil (λ s. IsStored n q 0 s.place)
staged_stored n q (d ∷ ds) =
    let P : Put → Type 0 = λ s. IsStored n q (suc (length ds)) s.place in
    All-cons P (put (addr_word n q) d.addr) (described n (q + 1) ds) record {
      position = q;
      least = omega arith;
      most = omega arith;
      place = inl refl;
    }
    (all_are (λ s. IsWithin n (q + 1) (length ds) s.place) P (described n (q + 1) ds) (λ s w. stored_from n q (length ds) s.place w)
    (described_within n (q + 1) ds))

pub within_from : (n q d p : ℕ) → IsStored n q d p → IsWithin n q d p
within_from n q d p s = record {
  position = s.position;
  least = s.least;
  most = s.most;
  place =
      elim s.place [ inl a ↦ inl a | inr a ↦ inr a.0 ];
}

-- such a word is apart from those of another position of a window
pub within_apart : (n low q d p r half : ℕ) → 0 < n → half < 2 → low ≤ q → q + d ≤ low + n → low ≤ r → r < low + n
    → ((r < q) ⊎ (q + d ≤ r)) → IsWithin n q d p → p ≢ 2 * (r % n) + half
within_apart n low q d p r half pos two a b c e out w = λ is.
    let ne : w.position ≢ r = elim out [
      | inl h ↦ (λ (x : w.position ≡ r). omega (arith, w.least))
      | inr h ↦
          (λ (x : w.position ≡ r). omega (arith, w.most))
    ] in
    window_differ n low w.position r pos (omega (arith, w.least)) (omega (arith, w.most)) c e ne
    (elim w.place [ inl h ↦ omega (arith, h) | inr h ↦ omega (arith, h) ])

-- ---- each word of a chain has a place of its own

abbrev IsApart : ℕ → Put → Type 0
IsApart q s = s.place ≢ q

pub described_before : (n q : ℕ) (ds : List Descriptor) (k : ℕ) → 0 < n → length ds ≤ n → k < length (described n q ds)
    → All (λ s. s.place ≢ (at (described n q ds) k).place) (take k (described n q ds))
described_before n q [] k pos few h = absurd (omega arith)
described_before n q (d ∷ ds) zero pos few h = All-nil (IsApart (addr_word n q))
described_before n q (d ∷ ds) (suc zero) pos few h =
    All-cons (IsApart (second_word n q)) (put (addr_word n q) d.addr) [] (λ e. let a : 2 * (q % n) ≡ 2 * (q % n) + 1 = e in omega arith)
    (All-nil (IsApart (second_word n q)))
described_before n q (d ∷ ds) (suc (suc k)) pos few h =
    let p : ℕ = (at (described n (q + 1) ds) k).place in
    let w : IsWithin n (q + 1) (length ds) p = described_within n (q + 1) ds k (put 0 0) (omega arith) in
    let first = λ (half : ℕ) (two : half < 2). within_apart n q (q + 1) (length ds) p q half pos two (omega arith) (omega arith)
    (omega arith) (omega arith) (inl (omega arith)) w in
    All-cons (IsApart p) (put (addr_word n q) d.addr) (put (second_word n q) (avail_word n q d) ∷ take k (described n (q + 1) ds))
    (λ e. first 0 (omega arith) (sym e ∙ omega arith))
    (All-cons (IsApart p) (put (second_word n q) (avail_word n q d)) (take k (described n (q + 1) ds)) (λ e. first 1 (omega arith) (sym e))
    (described_before n (q + 1) ds k pos (omega arith) (omega arith)))

pub staged_before : (n q : ℕ) (ds : List Descriptor) (k : ℕ) → 0 < n → length ds ≤ n → k < length (staged n q ds)
    → All (λ s. s.place ≢ (at (staged n q ds) k).place) (take k (staged n q ds))
staged_before n q [] k pos few h = absurd (omega arith)
staged_before n q (d ∷ ds) zero pos few h = All-nil (IsApart (addr_word n q))
staged_before n q (d ∷ ds) (suc k) pos few h =
    let p : ℕ = (at (described n (q + 1) ds) k).place in
    let w : IsWithin n (q + 1) (length ds) p = described_within n (q + 1) ds k (put 0 0) (omega arith) in
    All-cons (IsApart p) (put (addr_word n q) d.addr) (take k (described n (q + 1) ds))
    (λ e. within_apart n q (q + 1) (length ds) p q 0 pos (omega arith) (omega arith) (omega arith) (omega arith) (omega arith)
    (inl (omega arith)) w (sym e ∙ omega arith))
    (described_before n (q + 1) ds k pos (omega arith) (omega arith))

-- ---- words that stand

abbrev pub Stands : List ℕ → Put → Type 0
Stands ws s = slice_index ws s.place ≡ s.word

pub stand_other : (ws : List ℕ) (ss : List Put) (q x : ℕ) → Stand ws ss → IsClear ss q → Stand (slice_set ws q x) ss
stand_other ws ss q x stand apart = λ k d h. get_or-set_other ws q (slice_index_or ss k d).place x 0 (apart k d h) ∙ stand k d h

pub described_stand : (ws : List ℕ) (n q : ℕ) (ds : List Descriptor) (j : ℕ) → j < length ds → Stand ws (described n q ds)
    → (slice_index ws (addr_word n (q + j)) ≡ (slice_index_or ds j blank).addr)
    × (slice_index ws (second_word n (q + j)) ≡ avail_word n (q + j) (slice_index_or ds j blank))
described_stand ws n q [] j h stand = absurd (omega arith)
described_stand ws n q (d ∷ ds) zero h stand =
    let rest = All-tail (Stands ws) (put (addr_word n q) d.addr) (put (second_word n q) (avail_word n q d) ∷ described n (q + 1) ds)
    stand in
    let e : q ≡ q + 0 = omega arith in
    subst (λ (r : ℕ). (slice_index ws (addr_word n r) ≡ d.addr) × (slice_index ws (second_word n r) ≡ avail_word n r d)) e (
      All-head (Stands ws) (put (addr_word n q) d.addr) (put (second_word n q) (avail_word n q d) ∷ described n (q + 1) ds) stand,
      All-head (Stands ws) (put (second_word n q) (avail_word n q d)) (described n (q + 1) ds) rest,
    )
described_stand ws n q (d ∷ ds) (suc j) h stand =
    let rest = All-tail (Stands ws) (put (addr_word n q) d.addr) (put (second_word n q) (avail_word n q d) ∷ described n (q + 1) ds)
    stand in
    let rest2 = All-tail (Stands ws) (put (second_word n q) (avail_word n q d)) (described n (q + 1) ds) rest in
    let e : q + 1 + j ≡ q + suc j = omega arith in
    subst (λ (r : ℕ). (slice_index ws (addr_word n r) ≡ (slice_index_or ds j blank).addr)
    × (slice_index ws (second_word n r) ≡ avail_word n r (slice_index_or ds j blank))) e
    (described_stand ws n (q + 1) ds j (omega arith) rest2)

pub described_from : (ws : List ℕ) (n q : ℕ) (ds : List Descriptor)
    → ((j : ℕ) → j < length ds → (slice_index ws (addr_word n (q + j)) ≡ (slice_index_or ds j blank).addr)
    × (slice_index ws (second_word n (q + j)) ≡ avail_word n (q + j) (slice_index_or ds j blank)))
    → Stand ws (described n q ds)
described_from ws n q [] at_each = All-nil (Stands ws)
described_from ws n q (d ∷ ds) at_each =
    let first = subst (λ (r : ℕ). (slice_index ws (addr_word n r) ≡ d.addr) × (slice_index ws (second_word n r) ≡ avail_word n r d))
    (let e : q + 0 ≡ q = omega arith in e) (at_each 0 (omega arith)) in
    All-cons (Stands ws) (put (addr_word n q) d.addr) (put (second_word n q) (avail_word n q d) ∷ described n (q + 1) ds) first.0
    (All-cons (Stands ws) (put (second_word n q) (avail_word n q d)) (described n (q + 1) ds) first.1
    (described_from ws n (q + 1) ds
    (λ j h. subst (λ (r : ℕ). (slice_index ws (addr_word n r) ≡ (slice_index_or ds j blank).addr)
    × (slice_index ws (second_word n r) ≡ avail_word n r (slice_index_or ds j blank))) (let e : q + suc j ≡ q + 1 + j =
    omega arith in e) (at_each (suc j) (omega arith)))))

-- all stores of an offer, the last included, are the chain's descriptors
pub staged_all : (ws : List ℕ) (n q : ℕ) (ds : List Descriptor) → Stand ws (staged n q ds ++ publishing n q ds ∷ [])
    → Stand ws (described n q ds)
staged_all ws n q [] stand = All-nil (Stands ws)
staged_all ws n q (d ∷ ds) stand =
    let rest = All-tail (Stands ws) (put (addr_word n q) d.addr) (described n (q + 1) ds ++ publishing n q (d ∷ ds) ∷ []) stand in
    All-cons (Stands ws) (put (addr_word n q) d.addr) (put (second_word n q) (avail_word n q d) ∷ described n (q + 1) ds)
    (All-head (Stands ws) (put (addr_word n q) d.addr) (described n (q + 1) ds ++ publishing n q (d ∷ ds) ∷ []) stand)
    (All-cons (Stands ws) (put (second_word n q) (avail_word n q d)) (described n (q + 1) ds)
    (All-head (Stands ws) (publishing n q (d ∷ ds)) [] (all_right (Stands ws) (described n (q + 1) ds) (publishing n q (d ∷ ds) ∷ []) rest))
    (all_left (Stands ws) (described n (q + 1) ds) (publishing n q (d ∷ ds) ∷ []) rest))

-- the last is at the position where the chain begins
pub publishing_within : (n q : ℕ) (ds : List Descriptor) → 0 < length ds → IsWithin n q (length ds) (publishing n q ds).place
publishing_within n q ds some = record { position = q; least = omega arith; most = omega arith; place = inr refl }

-- and at no place of the others
pub publishing_apart : (n q : ℕ) (ds : List Descriptor) → 0 < n → length ds ≤ n → IsClear (staged n q ds) (second_word n q)
publishing_apart n q ds pos few = all_are (λ s. IsStored n q (length ds) s.place) (IsApart (second_word n q)) (staged n q ds)
    (λ s w. differs s.place w) (staged_stored n q ds)
  where
    differs : (p : ℕ) → IsStored n q (length ds) p → p ≢ second_word n q
    differs p w = elim w.place [
      | inl a ↦ (λ (e : p ≡ second_word n q). let b : p ≡ 2 * (w.position % n) = a in let c : p ≡ 2 * (q % n) + 1 = e in omega arith)
      | inr a ↦ (λ (e : p ≡ second_word n q). window_differ n q w.position q pos w.least (omega (arith, w.most)) (omega arith)
          (omega arith) (λ (x : w.position ≡ q). omega (arith, a.1)) (let b : p ≡ 2 * (w.position % n) + 1 = a.0 in
          let c : p ≡ 2 * (q % n) + 1 = e in omega arith))
    ]
