-- The words of a chain, direct or by a table, in the order of an offer: where they stand, that they differ, and what they spell.
use Rattle.std.proofs.Common.{◌≡◌, ℕ, zero, suc, ◌+◌, ◌-◌, ◌*◌, ◌<◌, ◌≤◌, ◌⊎◌, ◌&&◌, nat_lt, Bool, true, false, List, [], ◌∷◌, ◌++◌, length, take, if◌then◌else◌, slice_index_or, refl, sym, ap, ◌∙◌, subst, arith, inl, inr}
use Rattle.std.specs.List.{All}
use Rattle.std.proofs.lemmas.Bool.{cases_lt, lt-ltb, le-ltb}
use Rattle.std.proofs.lemmas.List.{length-append, length-map, map-append, take-append-le, get_or_append_left}
use Rattle.std.proofs.Math.Seq.{take-append_seam, take-append-add}
use Rattle.std.proofs.lemmas.List.Elements.{All-nil, All-cons, All-append}
use Rattle.vd_model.specs.declared.chain.Piece.{Piece}
use Rattle.vd_model.specs.Chains.{IsChain, needs}
use Rattle.vd_ring.specs.declared.frame.Frame.{Frame}
use Rattle.vd_ring.specs.declared.frame.Put.{Put}
use Rattle.vd_ring.specs.History.{occurs, first}
use Rattle.vd_ring.proofs.Counts.{first_occurs}
use Rattle.vd_indirect.specs.declared.descriptor.TableKind.TheVariants.{Split}
use Rattle.vd_indirect.specs.Tables.{table_words}
use Rattle.vd_indirect.proofs.Written.{length-words_from}
use Rattle.vd_split_ring.specs.SplitWords.{table_of, put, words_of, described, table, pointer, is_tabled, spelling, reading, pieces_of, staged_chain}
use Rattle.vd_split_ring.proofs.Descriptors.{IsAt, IsApart, length-described, described_within, described_before, pieces_back}
use Rattle.vd_split_ring.proofs.Rows.{row_place, row_differs, length_table, table_spells}

-- ---- which chains stand in a table

pub both_true : (b t : Bool) → b && t ≡ true → (b ≡ true) × (t ≡ true)
both_true true true h = (refl, refl)
both_true true false h = absurd (let e : false ≡ true = h in cc)
both_true false t h = absurd (let e : false ≡ true = h in cc)

pub is_either : (b : Bool) → (b ≡ true) ⊎ (b ≡ false)
is_either true = inl refl
is_either false = inr refl

pub tabled_is : (f : Frame) (c : List Piece) → is_tabled f c ≡ true → (f.features.indirect ≡ true) × (1 < length c)
tabled_is f c on =
    let b = both_true f.features.indirect (nat_lt 1 (length c)) on in
    (b.0, elim (cases_lt 1 (length c)) [ inl h ↦ h | inr h ↦ absurd (let e : false ≡ true = sym (le-ltb 1 (length c) h) ∙ b.1 in cc) ])

-- without a table: the feature is off, or there is one piece
pub direct_is : (f : Frame) (c : List Piece) → is_tabled f c ≡ false → (f.features.indirect ≡ false) ⊎ (length c ≤ 1)
direct_is f c off = at f.features.indirect off
  where
    at : (b : Bool) → b && nat_lt 1 (length c) ≡ false → (b ≡ false) ⊎ (length c ≤ 1)
    at false h = inl refl
    at true h = elim (cases_lt 1 (length c)) [
      | inl a ↦ absurd (let e : true ≡ false = sym (lt-ltb 1 (length c) a) ∙ h in
          cc)
      | inr a ↦ inr a
    ]

pub tabled_needs : (f : Frame) (c : List Piece) → is_tabled f c ≡ true → needs f.features c ≡ 1
tabled_needs f c on = ap (λ (b : Bool). if b then 1 else length c) (tabled_is f c on).0

pub direct_needs : (f : Frame) (c : List Piece) → 0 < length c → is_tabled f c ≡ false → needs f.features c ≡ length c
direct_needs f c some off = elim (direct_is f c off) [
  | inl h ↦ ap (λ (b : Bool). if b then 1 else length c) h
  | inr h ↦ at f.features.indirect h
]
  where
    at : (b : Bool) → length c ≤ 1 → (if b then 1 else length c) ≡ length c
    at true h = omega arith
    at false h = refl

pub spelling_tabled : (f : Frame) (ps : List ℕ) (c : List Piece) → is_tabled f c ≡ true → spelling f ps c ≡ table f (first ps) c
    ++ pointer f (first ps) c
spelling_tabled f ps c on = ap (λ (b : Bool). if b then table f (first ps) c ++ pointer f (first ps) c else described 0 ps c) on

pub spelling_direct : (f : Frame) (ps : List ℕ) (c : List Piece) → is_tabled f c ≡ false → spelling f ps c ≡ described 0 ps c
spelling_direct f ps c off = ap (λ (b : Bool). if b then table f (first ps) c ++ pointer f (first ps) c else described 0 ps c) off

pub reading_tabled : (f : Frame) (ps : List ℕ) (c : List Piece) → is_tabled f c ≡ true → reading f ps c ≡ pointer f (first ps) c
    ++ table f (first ps) c
reading_tabled f ps c on = ap (λ (b : Bool). if b then pointer f (first ps) c ++ table f (first ps) c else described 0 ps c) on

pub reading_direct : (f : Frame) (ps : List ℕ) (c : List Piece) → is_tabled f c ≡ false → reading f ps c ≡ described 0 ps c
reading_direct f ps c off = ap (λ (b : Bool). if b then pointer f (first ps) c ++ table f (first ps) c else described 0 ps c) off

-- ---- where they stand

-- a word of the table of head h
pub record IsInTable (f : Frame) (h q : ℕ) : Type 0 where
  pub on : f.features.indirect ≡ true
  pub low : table_of f h ≤ q
  pub high : q < table_of f h + 32

-- a word of a descriptor at one of these places, or of the table of the first
abbrev pub IsWord : Frame → List ℕ → ℕ → Type 0
IsWord f ps q = IsAt 0 ps q ⊎ IsInTable f (first ps) q

pub table_within : (f : Frame) (h : ℕ) (c : List Piece) → f.features.indirect ≡ true → length c ≤ 16
    → All (λ s. IsInTable f h s.place) (table f h c)
table_within f h c on few = λ k d inside.
    let long = length_table f h c in
    let a : (slice_index_or (table f h c) k d).place ≡ table_of f h + k =
    row_place (table_of f h) (table_words Split c) k d (omega (arith, length-words_from Split 0 c)) in
    record { on = on; low = omega arith; high = omega arith }

pub pointer_within : (f : Frame) (ps : List ℕ) (c : List Piece) → 1 ≤ length ps → All (λ s. IsAt 0 ps s.place) (pointer f (first ps) c)
pointer_within f ps c some =
    let h : ℕ = first ps in
    let here : 1 ≤ occurs h ps = first_occurs ps some in
    let a : IsAt 0 ps (2 * h) = record { place = h; here = here; low = omega arith; high = omega arith } in
    let b : IsAt 0 ps (2 * h + 1) = record { place = h; here = here; low = omega arith; high = omega arith } in
    let P : Put → Type 0 = λ s. IsAt 0 ps s.place in
    All-cons P (put (2 * h) (8 * table_of f h)) (put (2 * h + 1) (16 * length c + 17179869184) ∷ []) a
    (All-cons P (put (2 * h + 1) (16 * length c + 17179869184)) [] b (All-nil P))

pub spelling_within : (f : Frame) (ps : List ℕ) (c : List Piece) → length ps ≡ needs f.features c → IsChain c
    → All (λ s. IsWord f ps s.place) (spelling f ps c)
spelling_within f ps c len is = elim (is_either (is_tabled f c)) [
  | inl on ↦ (
      let t = tabled_is f c on in
      let P : Put → Type 0 = λ s. IsWord f ps s.place in
      subst (λ (l : List Put). All (λ s. IsWord f ps s.place) l) (sym (spelling_tabled f ps c on))
      (All-append P (table f (first ps) c) (pointer f (first ps) c) (λ k d h. inr (table_within f (first ps) c t.0 is.1 k d h))
      (λ k d h. inl (pointer_within f ps c (omega (arith, len, tabled_needs f c on)) k d h)))
      )
  | inr off ↦ subst (λ (l : List Put). All (λ s. IsWord f ps s.place) l) (sym (spelling_direct f ps c off))
      (λ k d h. inl (described_within 0 ps c k d h))
]

-- ---- they differ

-- each of them stands elsewhere than those before it
abbrev pub Differ : List Put → Type 0
Differ pl = (k : ℕ) → k < length pl → All (IsApart (slice_index_or pl k (put 0 0)).place) (take k pl)

differ_append : (xs ys : List Put) → Differ xs → Differ ys → All (λ s. All (IsApart s.place) xs) ys → Differ (xs ++ ys)
differ_append xs ys dx dy cross k h = elim (cases_lt k (length xs)) [
  | inl a ↦ subst (λ (l : List Put). All (IsApart (slice_index_or (xs ++ ys) k (put 0 0)).place) l)
      (sym (take-append-le k xs ys (omega arith)))
      (subst (λ (s : Put). All (IsApart s.place) (take k xs)) (sym (get_or_append_left xs ys (put 0 0) k a)) (dx k a))
  | inr a ↦ (
      let j : ℕ = k - length xs in
      let e : length xs + j ≡ k = omega arith in
      let below : j < length ys = omega (arith, length-append xs ys) in
      subst (λ (n : ℕ). All (IsApart (slice_index_or (xs ++ ys) n (put 0 0)).place) (take n (xs ++ ys))) e
      (subst (λ (l : List Put). All (IsApart (slice_index_or (xs ++ ys) (length xs + j) (put 0 0)).place) l) (sym (take-append-add xs ys j))
      (subst (λ (s : Put). All (IsApart s.place) (xs ++ take j ys)) (sym (right xs ys j))
      (All-append (IsApart (slice_index_or ys j (put 0 0)).place) xs (take j ys) (cross j (put 0 0) below) (dy j below))))
      )
]
  where
    right : (xs ys : List Put) (j : ℕ) → slice_index_or (xs ++ ys) (length xs + j) (put 0 0) ≡ slice_index_or ys j (put 0 0)
    right [] ys j = ap (λ n. slice_index_or ys n (put 0 0)) (let z : 0 + j ≡ j = omega arith in z)
    right (x ∷ xs) ys j = ap (λ n. slice_index_or (x ∷ xs ++ ys) n (put 0 0)) (let z : suc (length xs) + j ≡ suc (length xs + j) =
        omega arith in z) ∙ right xs ys j

pointer_differ : (f : Frame) (h : ℕ) (c : List Piece) → Differ (pointer f h c)
pointer_differ f h c zero k = All-nil (IsApart (2 * h))
pointer_differ f h c (suc zero) k = All-cons (IsApart (2 * h + 1)) (put (2 * h) (8 * table_of f h)) [] (λ e. omega arith)
    (All-nil (IsApart (2 * h + 1)))
pointer_differ f h c (suc (suc j)) k = absurd (omega arith)

pub spelling_differ : (f : Frame) (ps : List ℕ) (c : List Piece) → length ps ≡ needs f.features c → IsChain c
    → ((p : ℕ) → occurs p ps ≤ 1) → ((p : ℕ) → 1 ≤ occurs p ps → p < f.size) → Differ (spelling f ps c)
spelling_differ f ps c len is once inside = elim (is_either (is_tabled f c)) [
  | inl on ↦ (
      let t = tabled_is f c on in
      let h : ℕ = first ps in
      subst (λ (l : List Put). Differ l) (sym (spelling_tabled f ps c on))
      (differ_append (table f h c) (pointer f h c) (λ k a. row_differs (table_of f h) (table_words Split c) k a) (pointer_differ f h c)
      (λ k d a.
      let w = pointer_within f ps c (omega (arith, len, tabled_needs f c on)) k d a in
      λ i d2 b e. omega (arith, (table_within f h c t.0 is.1 i d2 b).low, w.high, inside w.place w.here)))
      )
  | inr off ↦ subst (λ (l : List Put). Differ l) (sym (spelling_direct f ps c off)) (λ k a. described_before 0 ps c k once a)
]

-- ---- what they spell

staged_off : (f : Frame) (ws : List ℕ) → (f.features.indirect ≡ false) ⊎ (length ws ≤ 2) → staged_chain f ws ≡ pieces_of ws
staged_off f ws (inl h) = ap (λ (i : Bool). if i && nat_lt 2 (length ws) then pieces_of (take (length ws - 2) ws) else pieces_of ws) h
staged_off f ws (inr h) = at f.features.indirect
  where
    at : (b : Bool) → (if b && nat_lt 2 (length ws) then pieces_of (take (length ws - 2) ws) else pieces_of ws) ≡ pieces_of ws
    at false = refl
    at true = ap (λ (t : Bool). if t then pieces_of (take (length ws - 2) ws) else pieces_of ws) (le-ltb 2 (length ws) h)

staged_on : (f : Frame) (ws : List ℕ) (a s : ℕ) → f.features.indirect ≡ true → 0 < length ws
    → staged_chain f (ws ++ a ∷ s ∷ []) ≡ pieces_of ws
staged_on f ws a s on some =
    let all : List ℕ = ws ++ a ∷ s ∷ [] in
    let len : length all ≡ length ws + 2 = length-append ws (a ∷ s ∷ []) in
    let less : length all - 2 ≡ length ws = omega arith in
    ap (λ (i : Bool). if i && nat_lt 2 (length all) then pieces_of (take (length all - 2) all) else pieces_of all) on
    ∙ ap (λ (t : Bool). if t then pieces_of (take (length all - 2) all) else pieces_of all) (lt-ltb 2 (length all) (omega arith))
    ∙ ap (λ (n : ℕ). pieces_of (take n all)) less
    ∙ ap pieces_of (take-append_seam ws (a ∷ s ∷ []))

pub staged_spelling : (f : Frame) (ps : List ℕ) (c : List Piece) → length ps ≡ needs f.features c → IsChain c
    → staged_chain f (words_of (spelling f ps c)) ≡ c
staged_spelling f ps c len is = elim (is_either (is_tabled f c)) [
  | inl on ↦ (
      let t = tabled_is f c on in
      let h : ℕ = first ps in
      let tl : length (words_of (table f h c)) ≡ 2 * length c = length-map (table f h c) (λ (p : Put). p.word) ∙ length_table f h c in
      ap (λ (l : List Put). staged_chain f (words_of l)) (spelling_tabled f ps c on)
      ∙ ap (staged_chain f) (map-append (λ (p : Put). p.word) (table f h c) (pointer f h c))
      ∙ staged_on f (words_of (table f h c)) (8 * table_of f h) (16 * length c + 17179869184) t.0 (omega (arith, tl, t.1))
      ∙ table_spells f h c is.3
      )
  | inr off ↦ (
      let as_many : length ps ≡ length c = len ∙ direct_needs f c is.0 off in
      let wl : length (words_of (described 0 ps c)) ≡ 2 * length c = length-map (described 0 ps c) (λ (p : Put). p.word)
      ∙ length-described 0 ps c as_many in
      ap (λ (l : List Put). staged_chain f (words_of l)) (spelling_direct f ps c off)
      ∙ staged_off f (words_of (described 0 ps c)) (elim (direct_is f c off) [ inl a ↦ inl a | inr a ↦ inr (omega (arith, wl)) ])
      ∙ pieces_back 0 ps c as_many is.3
      )
]
