-- The words of a chain, whether directly or by a table: how many they are, and what they spell in the order of an offer and of a take.
use Rattle.std.proofs.Common.{◌≡◌, ℕ, zero, suc, ◌+◌, ◌-◌, ◌*◌, ◌/◌, ◌%◌, ◌<◌, ◌≤◌, ◌⊎◌, ◌==◌, ◌&&◌, nat_lt, Bool, true, false, List, [], ◌∷◌, ◌++◌, length, take, drop, if◌then◌else◌, slice_index, slice_index_or, refl, sym, ap, ap₂, ◌∙◌, subst, arith, inl, inr}
use Rattle.std.specs.List.{All}
use Rattle.std.proofs.lemmas.Bool.{cases_lt, lt-ltb, le-ltb, eq-eqb, ne_eqb}
use Rattle.std.proofs.lemmas.List.{length-append, length-map, length-take-le, map-append, append-nil, take_all}
use Rattle.std.proofs.Math.Seq.{take-append_seam}
use Rattle.std.proofs.lemmas.List.Elements.{All-nil, All-cons}
use Rattle.vd_model.specs.declared.chain.Piece.{Piece}
use Rattle.vd_model.specs.Chains.{IsPiece, needs}
use Rattle.vd_indirect.specs.declared.descriptor.TableKind.TheVariants.{Packed}
use Rattle.vd_indirect.specs.Tables.{table_words}
use Rattle.vd_ring.specs.declared.frame.Frame.{Frame}
use Rattle.vd_ring.specs.declared.frame.Put.{Put}
use Rattle.vd_packed_ring.specs.PackedWords.{wrap_bit, other_bit, table_of, addr_word, second_word, put, words_of, len_of, id_of, flags_of, names_table}
use Rattle.vd_packed_ring.specs.PackedChains.{Descriptor, blank, avail_word, more, flags, direct, is_tabled, pointer, descriptors, standing, table, staged, publishing, loaded, spelling, reading, pieces_of, pieces_in, ends, following, has_table, named_words, first_id, last_id, loaded_head, is_whole, chain_of, cursor, staged_pieces, staged_chain}
use Rattle.vd_packed_ring.proofs.WordFacts.{Fits, flags_back, avail_len, avail_id}
use Rattle.vd_packed_ring.proofs.Standing.{length_tabled, tabled_place, tabled_back}
use Rattle.vd_packed_ring.proofs.Spelled.{direct_id, length_direct, direct_fits, staged_back, loaded_back, length_loaded, not_whole, whole, following_at, last_back}

-- ---- which chains stand in tables

pub data Kind (f : Frame) (c : List Piece) : Type 0 where
  by_table : is_tabled f c ≡ true → f.features.indirect ≡ true → 1 < length c → Kind f c
  in_ring : is_tabled f c ≡ false → (f.features.indirect ≡ false) ⊎ (length c ≤ 1) → Kind f c

pub kind : (f : Frame) (c : List Piece) → Kind f c
kind f c = at f.features.indirect refl
  where
    at : (b : Bool) → f.features.indirect ≡ b → Kind f c
    at true e = elim (cases_lt 1 (length c)) [
      | inl h ↦ by_table (ap (λ (i : Bool). i && nat_lt 1 (length c)) e ∙ lt-ltb 1 (length c) h) e h
      | inr h ↦ in_ring (ap (λ (i : Bool). i && nat_lt 1 (length c)) e ∙ le-ltb 1 (length c) h) (inr h)
    ]
    at false e = in_ring (ap (λ (i : Bool). i && nat_lt 1 (length c)) e) (inl e)

pub tabled_is : (f : Frame) (id : ℕ) (c : List Piece) → is_tabled f c ≡ true → (descriptors f id c ≡ pointer f id c ∷ [])
    × (table f id c ≡ standing (table_of f id) (table_words Packed c))
tabled_is f id c e = (
  ap (λ (i : Bool). if i then pointer f id c ∷ [] else direct id c) e,
  ap (λ (i : Bool). if i then standing (table_of f id) (table_words Packed c) else []) e,
)

pub direct_is : (f : Frame) (id : ℕ) (c : List Piece) → is_tabled f c ≡ false → (descriptors f id c ≡ direct id c) × (table f id c ≡ [])
direct_is f id c e = (
  ap (λ (i : Bool). if i then pointer f id c ∷ [] else direct id c) e,
  ap (λ (i : Bool). if i then standing (table_of f id) (table_words Packed c) else []) e,
)

-- as many descriptors of the ring as the chain needs
pub length_needs : (f : Frame) (id : ℕ) (c : List Piece) → 0 < length c → length (descriptors f id c) ≡ needs f.features c
length_needs f id c some = at (kind f c)
  where
    single : (b : Bool) (n : ℕ) → n ≡ 1 → n ≡ (if b then 1 else n)
    single true n e = e
    single false n e = refl

    at : Kind f c → length (descriptors f id c) ≡ needs f.features c
    at (by_table t on h) = ap (λ (l : List Descriptor). length l) (tabled_is f id c t).0
        ∙ sym (ap (λ (i : Bool). if i then 1 else length c) on)
    at (in_ring t (inl off)) = ap (λ (l : List Descriptor). length l) (direct_is f id c t).0
        ∙ (length_direct id c ∙ sym (ap (λ (i : Bool). if i then 1 else length c) off))
    at (in_ring t (inr one)) = ap (λ (l : List Descriptor). length l) (direct_is f id c t).0
        ∙ (length_direct id c ∙ single f.features.indirect (length c) (omega arith))

pub descriptors_some : (f : Frame) (id : ℕ) (c : List Piece) → 0 < length c → 0 < length (descriptors f id c)
descriptors_some f id c some = at f.features.indirect (length_needs f id c some)
  where
    at : (b : Bool) → length (descriptors f id c) ≡ (if b then 1 else length c) → 0 < length (descriptors f id c)
    at true e = omega (arith, e)
    at false e = omega (arith, e)

pointer_fits : (f : Frame) (id : ℕ) (c : List Piece) → id < 65536 → length c ≤ 16 → Fits (pointer f id c)
pointer_fits f id c low few = record { len = omega arith; id = low; flags = omega arith }

pub descriptors_fit : (f : Frame) (id : ℕ) (c : List Piece) → id < 65536 → length c ≤ 16 → All IsPiece c → All Fits (descriptors f id c)
descriptors_fit f id c low few ok = at (kind f c)
  where
    at : Kind f c → All Fits (descriptors f id c)
    at (by_table t on h) = subst (λ (l : List Descriptor). All Fits l) (sym (tabled_is f id c t).0)
        (All-cons Fits (pointer f id c) [] (pointer_fits f id c low few) (All-nil Fits))
    at (in_ring t h) = subst (λ (l : List Descriptor). All Fits l) (sym (direct_is f id c t).0) (direct_fits id c low ok)

pub descriptors_id : (f : Frame) (id : ℕ) (c : List Piece) → 0 < length c → (slice_index_or (descriptors f id c) 0 blank).id ≡ id
descriptors_id f id c some = at (kind f c)
  where
    at : Kind f c → (slice_index_or (descriptors f id c) 0 blank).id ≡ id
    at (by_table t on h) = ap (λ (l : List Descriptor). (slice_index_or l 0 blank).id) (tabled_is f id c t).0
    at (in_ring t h) = ap (λ (l : List Descriptor). (slice_index_or l 0 blank).id) (direct_is f id c t).0 ∙ direct_id id c some

-- ---- the word that names a table, and those that do not

avail_flags_of : (n q : ℕ) (d : Descriptor) → Fits d → flags_of (avail_word n q d) ≡ d.flags + 128 * wrap_bit n q + 32768 * other_bit n q
avail_flags_of n q d ok = flags_back d.len d.id (d.flags + 128 * wrap_bit n q + 32768 * other_bit n q) ok.len ok.id

third_bit : (g a b : ℕ) → (4 ≤ g → g < 8 → ((g + 128 * a + 32768 * b) / 4) % 2 ≡ 1) × (g < 4 → ((g + 128 * a + 32768 * b) / 4) % 2 ≡ 0)
third_bit g a b = (λ h k. omega arith, λ h. omega arith)

pub pointer_names : (n q : ℕ) (f : Frame) (id : ℕ) (c : List Piece) → id < 65536 → length c ≤ 16
    → (names_table (avail_word n q (pointer f id c)) ≡ true) × (named_words (avail_word n q (pointer f id c)) ≡ 2 * length c)
pointer_names n q f id c low few =
    let ok = pointer_fits f id c low few in
    let fl = avail_flags_of n q (pointer f id c) ok in
    let odd = (third_bit 4 (wrap_bit n q) (other_bit n q)).0 (omega arith) (omega arith) in
    let len : len_of (avail_word n q (pointer f id c)) ≡ 16 * length c = avail_len n q (pointer f id c) ok in
    (ap (λ (g : ℕ). ((g / 4) % 2) == 1) fl ∙ eq-eqb _ 1 odd, ap (λ (l : ℕ). 2 * (l / 16)) len ∙ omega arith)

pub pointer_len : (n q : ℕ) (f : Frame) (id : ℕ) (c : List Piece) → id < 65536 → length c ≤ 16
    → len_of (avail_word n q (pointer f id c)) ≡ 16 * length c
pointer_len n q f id c low few = avail_len n q (pointer f id c) (pointer_fits f id c low few)

pub pointer_id : (n q : ℕ) (f : Frame) (id : ℕ) (c : List Piece) → id < 65536 → length c ≤ 16 → id_of (avail_word n q (pointer f id c)) ≡ id
pointer_id n q f id c low few = avail_id n q (pointer f id c) (pointer_fits f id c low few)

pub direct_names : (n q : ℕ) (d : Descriptor) → Fits d → d.flags < 4 → names_table (avail_word n q d) ≡ false
direct_names n q d ok low =
    let fl = avail_flags_of n q d ok in
    let even = (third_bit d.flags (wrap_bit n q) (other_bit n q)).1 low in
    ap (λ (g : ℕ). ((g / 4) % 2) == 1) fl ∙ ne_eqb _ 1 (λ e. omega arith)

small_flags : (x : Piece) (c : List Piece) → flags x c < 4
small_flags x c = at c x.write
  where
    at : (c : List Piece) (w : Bool) → more c + (if w then 2 else 0) < 4
    at [] true = omega arith
    at [] false = omega arith
    at (y ∷ c) true = omega arith
    at (y ∷ c) false = omega arith

first_small : (id : ℕ) (c : List Piece) → (slice_index_or (direct id c) 0 blank).flags < 4
first_small id [] = omega arith
first_small id (x ∷ c) = small_flags x c

-- ---- the order of an offer

-- the stores of an offer spell its chain
pub offer_back : (f : Frame) (q id : ℕ) (c : List Piece) → 0 < length c → length c ≤ 16 → id < 65536 → All IsPiece c
    → staged_chain f (words_of (spelling f q id c)) (publishing f.size q (descriptors f id c)).word ≡ c
offer_back f q id c some few low ok = at (kind f c)
  where
    and_false : (b : Bool) → (b && false) ≡ false
    and_false true = refl
    and_false false = refl

    at : Kind f c → staged_chain f (words_of (spelling f q id c)) (publishing f.size q (descriptors f id c)).word ≡ c
    at (by_table t on h) =
        let T : List Put = standing (table_of f id) (table_words Packed c) in
        let w : ℕ = avail_word f.size q (pointer f id c) in
        let e = tabled_is f id c t in
        let words : words_of (spelling f q id c) ≡ words_of T ++ (8 * table_of f id) ∷ [] =
        ap (λ (l : List Put). words_of (l ++ staged f.size q (descriptors f id c))) e.1
        ∙ (ap (λ (ds : List Descriptor). words_of (T ++ staged f.size q ds)) e.0 ∙ map-append (λ (p : Put). p.word) T
        (staged f.size q (pointer f id c ∷ []))) in
        let last : (publishing f.size q (descriptors f id c)).word ≡ w = ap (λ (ds : List Descriptor). (publishing f.size q ds).word) e.0 in
        let says : (f.features.indirect && names_table w) ≡ true =
        ap₂ (λ (x y : Bool). x && y) on (pointer_names f.size q f id c low few).0 in
        let ws : List ℕ = words_of T ++ (8 * table_of f id) ∷ [] in
        let count : length ws - 1 ≡ length (words_of T) = omega (arith, length-append (words_of T) ((8 * table_of f id) ∷ [])) in
        ap₂ (λ (us : List ℕ) (x : ℕ). staged_chain f us x) words last
        ∙ (ap (λ (b : Bool). if b then pieces_of (take (length ws - 1) ws) else staged_pieces ws w) says
        ∙ (ap (λ (k : ℕ). pieces_of (take k ws)) count
        ∙ (ap pieces_of (take-append_seam (words_of T) ((8 * table_of f id) ∷ [])) ∙ tabled_back (table_of f id) c ok)))
    at (in_ring t h) =
        let ds : List Descriptor = direct id c in
        let e = direct_is f id c t in
        let w : ℕ = (publishing f.size q ds).word in
        let words : words_of (spelling f q id c) ≡ words_of (staged f.size q ds) =
        ap (λ (l : List Put). words_of (l ++ staged f.size q (descriptors f id c))) e.1
        ∙ ap (λ (l : List Descriptor). words_of (staged f.size q l)) e.0 in
        let last : (publishing f.size q (descriptors f id c)).word ≡ w = ap (λ (l : List Descriptor). (publishing f.size q l).word) e.0 in
        let fits : Fits (slice_index_or ds 0 blank) = direct_fits id c low ok 0 blank (omega (arith, length_direct id c)) in
        let no : names_table w ≡ false = direct_names f.size q (slice_index_or ds 0 blank) fits (first_small id c) in
        let off : (f.features.indirect && names_table w) ≡ false = ap (λ (b : Bool). f.features.indirect && b) no
        ∙ and_false f.features.indirect in
        ap₂ (λ (us : List ℕ) (x : ℕ). staged_chain f us x) words last
        ∙ (ap (λ (b : Bool). if b then pieces_of (take (length (words_of (staged f.size q ds)) - 1) (words_of (staged f.size q ds)))
        else staged_pieces (words_of (staged f.size q ds)) w) off ∙ staged_back f.size q id c some low ok)

-- ---- the order of a take: the words loaded so far tell where the next stands, the last completes the chain, and all spell it and
-- have its id

pub record Reads (f : Frame) (q id : ℕ) (c : List Piece) (k : ℕ) : Type 0 where
  pub place : k < length (reading f q id c)
      → cursor f q (words_of (take k (reading f q id c))) ≡ (slice_index_or (reading f q id c) k (put 0 0)).place
  pub partial : k < length (reading f q id c) → is_whole f (words_of (take k (reading f q id c))) ≡ false
  pub whole : is_whole f (words_of (reading f q id c)) ≡ true
  pub spelled : chain_of f (words_of (reading f q id c)) ≡ c
  pub is_head : loaded_head f (words_of (reading f q id c)) ≡ id

abbrev has : Frame → List ℕ → Bool → Bool
has f ws b = if b then length ws == 2 + named_words (slice_index ws 0) else ends ws

-- directly: no word names a table
pub no_table_yet : (f : Frame) (q id : ℕ) (c : List Piece) (k : ℕ) → (f.features.indirect ≡ false) ⊎ (length c ≤ 1) → id < 65536
    → All IsPiece c → has_table f (words_of (take k (loaded f.size q (direct id c)))) ≡ false
no_table_yet f q id [] zero h low ok = refl
no_table_yet f q id [] (suc k) h low ok = refl
no_table_yet f q id (x ∷ c) zero h low ok = refl
no_table_yet f q id (x ∷ c) (suc zero) h low ok = refl
no_table_yet f q id (x ∷ c) (suc (suc k)) h low ok =
    let d : Descriptor = slice_index_or (direct id (x ∷ c)) 0 blank in
    let fits : Fits d = direct_fits id (x ∷ c) low ok 0 blank (omega arith) in
    ap (λ (b : Bool). f.features.indirect && b) (direct_names f.size q d fits (small_flags x c)) ∙ and_off f.features.indirect
  where
    and_off : (b : Bool) → (b && false) ≡ false
    and_off true = refl
    and_off false = refl

pub no_table : (f : Frame) (q id : ℕ) (c : List Piece) → (f.features.indirect ≡ false) ⊎ (length c ≤ 1) → id < 65536 → All IsPiece c
    → has_table f (words_of (loaded f.size q (direct id c) ++ [])) ≡ false
no_table f q id c h low ok =
    let R : List Put = loaded f.size q (direct id c) in
    ap (λ (l : List Put). has_table f (words_of l)) (append-nil R ∙ sym (take_all (length R) R (omega arith)))
    ∙ no_table_yet f q id c (length R) h low ok

reads_direct : (f : Frame) (q id : ℕ) (c : List Piece) (k : ℕ) → is_tabled f c ≡ false → (f.features.indirect ≡ false) ⊎ (length c ≤ 1)
    → 0 < length c → id < 65536 → All IsPiece c → Reads f q id c k
reads_direct f q id c k t h some low ok =
    let R : List Put = loaded f.size q (direct id c) in
    let e = direct_is f id c t in
    let is : reading f q id c ≡ R = ap (λ (l : List Put). loaded f.size q (descriptors f id c) ++ l) e.1
    ∙ (append-nil (loaded f.size q (descriptors f id c)) ∙ ap (loaded f.size q) e.0) in
    let long : length R ≡ 2 * length c = length_loaded f.size q (direct id c) ∙ ap (λ (m : ℕ). 2 * m) (length_direct id c) in
    let all : words_of R ≡ words_of (take (length R) R) = ap words_of (sym (take_all (length R) R (omega arith))) in
    let none : has_table f (words_of R) ≡ false = ap (has_table f) all ∙ no_table_yet f q id c (length R) h low ok in
    let part : List ℕ = words_of (take k R) in
    record {
      place = λ left.
          let low2 : k < length R = omega (arith, ap (λ (l : List Put). length l) is) in
          ap (λ (l : List Put). cursor f q (words_of (take k l))) is
          ∙ (ap (λ (b : Bool). if b then table_of f (first_id part) + (length part - 2) else following f.size q part)
          (no_table_yet f q id c k h low ok)
          ∙ (following_at f.size q (direct id c) k low2 ∙ ap (λ (l : List Put). (slice_index_or l k (put 0 0)).place) (sym is)));
      partial = λ left.
          let low2 : k < 2 * length c = omega (arith, ap (λ (l : List Put). length l) is) in
          ap (λ (l : List Put). is_whole f (words_of (take k l))) is
          ∙ (ap (has f part) (no_table_yet f q id c k h low ok) ∙ not_whole f.size q id c k low ok low2);
      whole = ap (λ (l : List Put). is_whole f (words_of l)) is ∙ (ap (has f (words_of R)) none ∙ whole f.size q id c low ok some);
      spelled = ap (λ (l : List Put). chain_of f (words_of l)) is
          ∙ (ap (λ (b : Bool). if b then pieces_of (drop 2 (words_of R)) else pieces_in (words_of R)) none
          ∙ loaded_back f.size q id c low ok);
      is_head = ap (λ (l : List Put). loaded_head f (words_of l)) is
          ∙ (ap (λ (b : Bool). if b then first_id (words_of R) else last_id (words_of R)) none ∙ last_back f.size q id c low ok some);
    }

-- by a table: the first word names it
abbrev first_of : Frame → ℕ → ℕ → List Piece → ℕ
first_of f q id c = avail_word f.size q (pointer f id c)

abbrev all_of : Frame → ℕ → ℕ → List Piece → List Put
all_of f q id c = put (second_word f.size q) (first_of f q id c) ∷ put (addr_word f.size q) (8 * table_of f id)
    ∷ standing (table_of f id) (table_words Packed c)

place_at : (f : Frame) (q id : ℕ) (c : List Piece) (k : ℕ) → (f.features.indirect && names_table (first_of f q id c)) ≡ true
    → k < length (all_of f q id c) → id_of (first_of f q id c) ≡ id
    → cursor f q (words_of (take k (all_of f q id c))) ≡ (slice_index_or (all_of f q id c) k (put 0 0)).place
place_at f q id c zero says h is_id = refl
place_at f q id c (suc zero) says h is_id = refl
place_at f q id c (suc (suc j)) says h is_id =
    let ws : List ℕ = words_of (take (suc (suc j)) (all_of f q id c)) in
    let T : List Put = standing (table_of f id) (table_words Packed c) in
    let count : length (words_of (take j T)) ≡ j = length-map (take j T) (λ (p : Put). p.word) ∙ length-take-le j T (omega arith) in
    ap (λ (b : Bool). if b then table_of f (first_id ws) + (length ws - 2) else following f.size q ws) says
    ∙ (ap (λ (i : ℕ). table_of f i + (length ws - 2)) is_id ∙ omega (arith, count, tabled_place (table_of f id) c j (omega arith)))

partial_at : (f : Frame) (q id : ℕ) (c : List Piece) (k : ℕ) → (f.features.indirect && names_table (first_of f q id c)) ≡ true
    → named_words (first_of f q id c) ≡ 2 * length c → k < length (all_of f q id c)
    → is_whole f (words_of (take k (all_of f q id c))) ≡ false
partial_at f q id c zero says n h = refl
partial_at f q id c (suc zero) says n h = refl
partial_at f q id c (suc (suc j)) says n h =
    let ws : List ℕ = words_of (take (suc (suc j)) (all_of f q id c)) in
    let T : List Put = standing (table_of f id) (table_words Packed c) in
    let count : length (words_of (take j T)) ≡ j = length-map (take j T) (λ (p : Put). p.word) ∙ length-take-le j T (omega arith) in
    ap (has f ws) says ∙ ne_eqb _ _ (λ e. omega (arith, count, n, length_tabled (table_of f id) c))

reads_tabled : (f : Frame) (q id : ℕ) (c : List Piece) (k : ℕ) → is_tabled f c ≡ true → f.features.indirect ≡ true → length c ≤ 16
    → id < 65536 → All IsPiece c → Reads f q id c k
reads_tabled f q id c k t on few low ok =
    let T : List Put = standing (table_of f id) (table_words Packed c) in
    let w : ℕ = avail_word f.size q (pointer f id c) in let a : ℕ = 8 * table_of f id in
    let R : List Put = put (second_word f.size q) w ∷ put (addr_word f.size q) a ∷ T in
    let e = tabled_is f id c t in
    let is : reading f q id c ≡ R = ap (λ (l : List Put). loaded f.size q (descriptors f id c) ++ l) e.1
    ∙ ap (λ (ds : List Descriptor). loaded f.size q ds ++ T) e.0 in
    let names = pointer_names f.size q f id c low few in
    let fits = pointer_fits f id c low few in
    let says : (f.features.indirect && names_table w) ≡ true = ap₂ (λ (x y : Bool). x && y) on names.0 in
    let long : length T ≡ 2 * length c = length_tabled (table_of f id) c in
    let words : length (words_of T) ≡ length T = length-map T (λ (p : Put). p.word) in
    record {
      place = λ left. ap (λ (l : List Put). cursor f q (words_of (take k l))) is
          ∙ (place_at f q id c k says (omega (arith, ap (λ (l : List Put). length l) is)) (avail_id f.size q (pointer f id c) fits)
          ∙ ap (λ (l : List Put). (slice_index_or l k (put 0 0)).place) (sym is));
      partial = λ left. ap (λ (l : List Put). is_whole f (words_of (take k l))) is ∙ partial_at f q id c k says names.1
          (omega (arith, ap (λ (l : List Put). length l) is));
      whole = ap (λ (l : List Put). is_whole f (words_of l)) is ∙ (ap (has f (words_of R)) says ∙ eq-eqb _ _ (omega (arith, names.1)));
      spelled = ap (λ (l : List Put). chain_of f (words_of l)) is
          ∙ (ap (λ (b : Bool). if b then pieces_of (drop 2 (words_of R)) else pieces_in (words_of R)) says
          ∙ tabled_back (table_of f id) c ok);
      is_head = ap (λ (l : List Put). loaded_head f (words_of l)) is
          ∙ (ap (λ (b : Bool). if b then first_id (words_of R) else last_id (words_of R)) says ∙ avail_id f.size q (pointer f id c) fits);
    }

pub reads : (f : Frame) (q id : ℕ) (c : List Piece) (k : ℕ) → 0 < length c → length c ≤ 16 → id < 65536 → All IsPiece c → Reads f q id c k
reads f q id c k some few low ok = at (kind f c)
  where
    at : Kind f c → Reads f q id c k
    at (by_table t on h) = reads_tabled f q id c k t on few low ok
    at (in_ring t h) = reads_direct f q id c k t h some low ok
