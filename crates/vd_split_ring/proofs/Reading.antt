-- The words of a chain, direct or by a table, in the order of a take: where the next one stands, when they are whole, and what they
-- spell.
use Rattle.std.proofs.Common.{◌≡◌, ◌≢◌, ℕ, zero, suc, ◌+◌, ◌-◌, ◌*◌, ◌/◌, ◌%◌, ◌^◌, ◌<◌, ◌≤◌, ◌==◌, ◌&&◌, Bool, true, false, List, [], ◌∷◌, ◌++◌, length, take, drop, if◌then◌else◌, slice_index, slice_index_or, refl, sym, ap, ◌∙◌, subst, arith, inl, inr}
use Rattle.std.specs.List.{All}
use Rattle.std.proofs.lemmas.Bool.{eq-eqb, ne_eqb}
use Rattle.std.proofs.lemmas.List.{length_push, length-map, length-take-le, take_all}
use Rattle.std.proofs.lemmas.List.Elements.{All-head}
use Rattle.vd_model.specs.declared.chain.Piece.{Piece}
use Rattle.vd_model.specs.Chains.{IsPiece, IsChain, needs}
use Rattle.vd_ring.specs.declared.frame.Frame.{Frame}
use Rattle.vd_ring.specs.declared.frame.Put.{Put}
use Rattle.vd_ring.specs.History.{first}
use Rattle.vd_split_ring.specs.SplitWords.{put, words_of, second, described, table, table_of, pointer, is_tabled, reading, pieces_of, ends, names_table, has_table, named_words, is_whole, chain_of, linked, cursor}
use Rattle.vd_split_ring.proofs.Descriptors.{length-described, pieces_back, not_whole, whole, linked_at}
use Rattle.vd_split_ring.proofs.Rows.{length_table, table_place, table_spells}
use Rattle.vd_split_ring.proofs.Tables.{is_either, tabled_is, direct_is, direct_needs, reading_tabled, reading_direct}

-- ---- the second word of a table's descriptor

abbrev pub pointer_second : List Piece → ℕ
pointer_second c = 16 * length c + 17179869184

pub names_it : (c : List Piece) → length c ≤ 16 → names_table (pointer_second c) ≡ true
names_it c few = eq-eqb ((pointer_second c / 17179869184) % 2) 1 (omega arith)

pub its_words : (c : List Piece) → length c ≤ 16 → named_words (pointer_second c) ≡ 2 * length c
its_words c few = omega arith

no_name : (x : Piece) → IsPiece x → names_table (second x [] 0) ≡ false
no_name x is = ne_eqb ((second x [] 0 / 17179869184) % 2) 1 (at x.write x.len is.1)
  where
    at : (w : Bool) (l : ℕ) → l < 2 ^ 32 → ((l + (0 + (if w then 2 else 0)) * 4294967296 + 0 * 281474976710656) / 17179869184) % 2 ≢ 1
    at true l h = λ e. omega arith
    at false l h = λ e. omega arith

-- ---- a direct chain has no table

pub no_table : (f : Frame) (ps : List ℕ) (c : List Piece) (k : ℕ) → length ps ≡ length c → All IsPiece c → is_tabled f c ≡ false
    → has_table f (words_of (take k (described 0 ps c))) ≡ false
no_table f [] c zero len is off = refl
no_table f [] c (suc k) len is off = refl
no_table f (p ∷ ps) [] zero len is off = refl
no_table f (p ∷ ps) [] (suc k) len is off = refl
no_table f (p ∷ ps) (x ∷ c) zero len is off = refl
no_table f (p ∷ ps) (x ∷ c) (suc zero) len is off = refl
no_table f (p ∷ ps) (x ∷ y ∷ c) (suc (suc k)) len is off = elim (direct_is f (x ∷ y ∷ c) off) [
  | inl h ↦ ap (λ (b : Bool). b && names_table (second x (y ∷ c) (first ps))) h
  | inr h ↦ absurd (omega arith)
]
no_table f (p ∷ []) (x ∷ []) (suc (suc k)) len is off =
    last f.features.indirect (names_table (second x [] 0)) (no_name x (All-head IsPiece x [] is))
  where
    last : (b t : Bool) → t ≡ false → b && t ≡ false
    last true t h = h
    last false t h = refl
no_table f (p ∷ q ∷ ps) (x ∷ []) (suc (suc k)) len is off = absurd (omega arith)

pub cursor_off : (f : Frame) (h : ℕ) (ws : List ℕ) → has_table f ws ≡ false → cursor f h ws ≡ linked h ws
cursor_off f h ws off = ap (λ (b : Bool). if b then table_of f h + (length ws - 2) else linked h ws) off

pub whole_off : (f : Frame) (ws : List ℕ) → has_table f ws ≡ false → is_whole f ws ≡ ends ws
whole_off f ws off = ap (λ (b : Bool). if b then length ws == 2 + named_words (slice_index ws 1) else ends ws) off

pub chain_off : (f : Frame) (ws : List ℕ) → has_table f ws ≡ false → chain_of f ws ≡ pieces_of ws
chain_off f ws off = ap (λ (b : Bool). if b then pieces_of (drop 2 ws) else pieces_of ws) off

-- ---- a table's chain, after its descriptor's two words

has_on : (f : Frame) (a : ℕ) (c : List Piece) (ws : List ℕ) → f.features.indirect ≡ true → length c ≤ 16
    → has_table f (a ∷ pointer_second c ∷ ws) ≡ true
has_on f a c ws on few = ap (λ (b : Bool). b && names_table (pointer_second c)) on ∙ names_it c few

cursor_on : (f : Frame) (h a : ℕ) (c : List Piece) (ws : List ℕ) → f.features.indirect ≡ true → length c ≤ 16
    → cursor f h (a ∷ pointer_second c ∷ ws) ≡ table_of f h + length ws
cursor_on f h a c ws on few =
    let less : length (a ∷ pointer_second c ∷ ws) - 2 ≡ length ws = omega arith in
    ap (λ (b : Bool). if b then table_of f h + (length (a ∷ pointer_second c ∷ ws) - 2) else linked h (a ∷ pointer_second c ∷ ws))
    (has_on f a c ws on few) ∙ ap (λ n. table_of f h + n) less

whole_on : (f : Frame) (a : ℕ) (c : List Piece) (ws : List ℕ) → f.features.indirect ≡ true → length c ≤ 16
    → is_whole f (a ∷ pointer_second c ∷ ws) ≡ (2 + length ws == 2 + 2 * length c)
whole_on f a c ws on few =
    let all : List ℕ = a ∷ pointer_second c ∷ ws in
    let len : length all ≡ 2 + length ws = omega arith in
    ap (λ (b : Bool). if b then length all == 2 + named_words (pointer_second c) else ends all) (has_on f a c ws on few)
    ∙ ap (λ n. n == 2 + named_words (pointer_second c)) len ∙ ap (λ n. 2 + length ws == 2 + n) (its_words c few)

chain_on : (f : Frame) (a : ℕ) (c : List Piece) (ws : List ℕ) → f.features.indirect ≡ true → length c ≤ 16
    → chain_of f (a ∷ pointer_second c ∷ ws) ≡ pieces_of ws
chain_on f a c ws on few = ap (λ (b : Bool). if b then pieces_of (drop 2 (a ∷ pointer_second c ∷ ws)) else pieces_of
    (a ∷ pointer_second c ∷ ws)) (has_on f a c ws on few)

-- ---- of each chain

-- how many words it has
pub length_reading : (f : Frame) (ps : List ℕ) (c : List Piece) → length ps ≡ needs f.features c → 0 < length c
    → length (reading f ps c) ≡ (if is_tabled f c then 2 + 2 * length c else 2 * length c)
length_reading f ps c len some = elim (is_either (is_tabled f c)) [
  | inl on ↦ ap (λ (l : List Put). length l) (reading_tabled f ps c on) ∙ tabled f (first ps) c
      ∙ sym (ap (λ (b : Bool). if b then 2 + 2 * length c else 2 * length c) on)
  | inr off ↦ ap (λ (l : List Put). length l) (reading_direct f ps c off) ∙ length-described 0 ps c (len ∙ direct_needs f c some off)
      ∙ sym (ap (λ (b : Bool). if b then 2 + 2 * length c else 2 * length c) off)
]
  where
    tabled : (f : Frame) (h : ℕ) (c : List Piece) → length (pointer f h c ++ table f h c) ≡ 2 + 2 * length c
    tabled f h c = omega (arith, length_table f h c)

-- what is told of the first words of a chain
pub record Reads (f : Frame) (h : ℕ) (c : List Piece) (pl : List Put) (k : ℕ) : Type 0 where
  -- where the next word stands, and that they are not whole
  pub place : k < length pl → cursor f h (words_of (take k pl)) ≡ (slice_index_or pl k (put 0 0)).place
  pub partial : k < length pl → is_whole f (words_of (take k pl)) ≡ false
  -- all of them are whole, and spell it
  pub whole : length pl ≤ k → is_whole f (words_of (take k pl)) ≡ true
  pub spelled : length pl ≤ k → chain_of f (words_of (take k pl)) ≡ c

reads_direct : (f : Frame) (ps : List ℕ) (c : List Piece) (k : ℕ) → length ps ≡ length c → IsChain c → is_tabled f c ≡ false
    → Reads f (first ps) c (described 0 ps c) k
reads_direct f ps c k len is off =
    let none = no_table f ps c k len is.3 off in
    let all = length-described 0 ps c len in
    record {
      place = λ h. cursor_off f (first ps) (words_of (take k (described 0 ps c))) none ∙ linked_at ps c k len is.3 (omega arith);
      partial = λ h. whole_off f (words_of (take k (described 0 ps c))) none ∙ not_whole 0 ps c k len is.3 (omega arith);
      whole = λ h. whole_off f (words_of (take k (described 0 ps c))) none ∙ ap (λ (l : List Put). ends (words_of l))
          (take_all k (described 0 ps c) h) ∙ whole 0 ps c len is.3 is.0;
      spelled = λ h. chain_off f (words_of (take k (described 0 ps c))) none ∙ ap (λ (l : List Put). pieces_of (words_of l))
          (take_all k (described 0 ps c) h) ∙ pieces_back 0 ps c len is.3;
    }

reads_tabled : (f : Frame) (h : ℕ) (c : List Piece) (k : ℕ) → f.features.indirect ≡ true → IsChain c
    → Reads f h c (pointer f h c ++ table f h c) k
reads_tabled f h c zero on is = record {
  place = λ b. refl;
  partial = λ b. refl;
  whole = λ b. absurd (omega arith);
  spelled =
      λ b. absurd (omega arith);
}
reads_tabled f h c (suc zero) on is = record {
  place = λ b. refl;
  partial = λ b. refl;
  whole = λ b. absurd (omega arith);
  spelled =
      λ b. absurd (omega arith);
}
reads_tabled f h c (suc (suc j)) on is =
    let m : ℕ = length c in
    let tl : length (table f h c) ≡ 2 * m = length_table f h c in
    let ws : List ℕ = words_of (take j (table f h c)) in
    let a : ℕ = 8 * table_of f h in
    let short : j ≤ length (table f h c) → length ws ≡ j = λ b. length-map (take j (table f h c)) (λ (p : Put). p.word)
    ∙ length-take-le j (table f h c) b in
    let long : length (table f h c) ≤ j → ws ≡ words_of (table f h c) = λ b. ap words_of (take_all j (table f h c) b) in
    record {
      place = λ b. cursor_on f h a c ws on is.1 ∙ ap (λ n. table_of f h + n) (short (omega arith))
          ∙ sym (table_place f h c j (omega arith));
      partial = λ b. whole_on f a c ws on is.1 ∙ ne_eqb (2 + length ws) (2 + 2 * m) (λ e. omega (arith, short (omega arith)));
      whole = λ b. whole_on f a c ws on is.1 ∙ eq-eqb (2 + length ws) (2 + 2 * m)
          (omega (arith, ap (λ (l : List ℕ). length l) (long (omega arith)), length-map (table f h c) (λ (p : Put). p.word), tl));
      spelled = λ b. chain_on f a c ws on is.1 ∙ ap pieces_of (long (omega arith)) ∙ table_spells f h c is.3;
    }

-- the first k words of a chain at its places, in the order of a take
pub reads : (f : Frame) (ps : List ℕ) (c : List Piece) (k : ℕ) → length ps ≡ needs f.features c → IsChain c
    → Reads f (first ps) c (reading f ps c) k
reads f ps c k len is = elim (is_either (is_tabled f c)) [
  | inl on ↦ subst (λ (l : List Put). Reads f (first ps) c l k) (sym (reading_tabled f ps c on))
      (reads_tabled f (first ps) c k (tabled_is f c on).0 is)
  | inr off ↦ subst (λ (l : List Put). Reads f (first ps) c l k) (sym (reading_direct f ps c off))
      (reads_direct f ps c k (len ∙ direct_needs f c is.0 off) is off)
]

-- ---- what the first words tell of a chain

-- a direct chain's have no table
pub none_read : (f : Frame) (ws ps : List ℕ) (c : List Piece) → is_tabled f c ≡ false → length ps ≡ needs f.features c → IsChain c
    → ws ≡ words_of (take (length ws) (reading f ps c)) → has_table f ws ≡ false
none_read f ws ps c off many is e =
    ap (has_table f) (e ∙ ap (λ (pl : List Put). words_of (take (length ws) pl)) (reading_direct f ps c off))
    ∙ no_table f ps c (length ws) (many ∙ direct_needs f c is.0 off) is.3 off

pub told_tabled : (f : Frame) (ws ps : List ℕ) (c : List Piece) → length ps ≡ needs f.features c → IsChain c → has_table f ws ≡ true
    → ws ≡ words_of (take (length ws) (reading f ps c)) → is_tabled f c ≡ true
told_tabled f ws ps c many is has e = elim (is_either (is_tabled f c)) [
  | inl on ↦ on
  | inr off ↦ absurd (let both : true ≡ false = sym has ∙ none_read f ws ps c off many is e in cc)
]

-- two words and more that have none are a direct chain's
pub told_direct : (f : Frame) (ws ps : List ℕ) (c : List Piece) → IsChain c → 2 ≤ length ws → has_table f ws ≡ false
    → ws ≡ words_of (take (length ws) (reading f ps c)) → is_tabled f c ≡ false
told_direct f ws ps c is some none e = elim (is_either (is_tabled f c)) [
  | inl on ↦ (
      let k : ℕ = length ws - 2 in
      let h : ℕ = first ps in
      let two : length ws ≡ suc (suc k) = omega arith in
      let begin : ws ≡ words_of (take (suc (suc k)) (pointer f h c ++ table f h c)) =
      e ∙ ap (λ (n : ℕ). words_of (take n (reading f ps c))) two ∙ ap (λ (pl : List Put). words_of (take (suc (suc k)) pl))
      (reading_tabled f ps c on) in
      let has : has_table f ws ≡ true = ap (has_table f) begin ∙ has_on f (8 * table_of f h) c (words_of (take k (table f h c)))
      (tabled_is f c on).0 is.1 in
      absurd (let both : true ≡ false = sym has ∙ none in cc)
      )
  | inr off ↦ off
]

-- the second word of a chain that stands in a table
pub told_second : (f : Frame) (ps : List ℕ) (c : List Piece) (a x : ℕ) → is_tabled f c ≡ true
    → a ∷ x ∷ [] ≡ words_of (take 2 (reading f ps c)) → x ≡ pointer_second c
told_second f ps c a x on e =
    let both : a ∷ x ∷ [] ≡ 8 * table_of f (first ps) ∷ pointer_second c ∷ [] =
    e ∙ ap (λ (pl : List Put). words_of (take 2 pl)) (reading_tabled f ps c on) in
    ap (λ (l : List ℕ). slice_index l 1) both

-- where the words before name no table, neither do those with one more, and with two, whose second names none
pub plain_odd : (f : Frame) (ws : List ℕ) (a m : ℕ) → length ws ≡ 2 * m → has_table f ws ≡ false → has_table f (ws ++ a ∷ []) ≡ false
plain_odd f [] a m even plain = refl
plain_odd f (b ∷ []) a m even plain = absurd (omega arith)
plain_odd f (b ∷ s ∷ ws) a m even plain = plain

pub plain_more : (f : Frame) (ws : List ℕ) (a x m : ℕ) → length ws ≡ 2 * m → has_table f ws ≡ false
    → f.features.indirect && names_table x ≡ false → has_table f ((ws ++ a ∷ []) ++ x ∷ []) ≡ false
plain_more f [] a x m even plain bare = bare
plain_more f (b ∷ []) a x m even plain bare = absurd (omega arith)
plain_more f (b ∷ s ∷ ws) a x m even plain bare = plain

-- only the first descriptor of a chain may name one
pub names_first : (f : Frame) (ws ps : List ℕ) (c : List Piece) (a x m : ℕ) → length ws ≡ 2 * m → has_table f ws ≡ false
    → length ps ≡ needs f.features c → IsChain c → f.features.indirect ≡ true
    → (ws ++ a ∷ []) ++ x ∷ [] ≡ words_of (take (length ((ws ++ a ∷ []) ++ x ∷ [])) (reading f ps c))
    → length ((ws ++ a ∷ []) ++ x ∷ []) ≤ length (reading f ps c) → ws ≡ []
names_first f [] ps c a x m even plain many is on e low = refl
names_first f (b ∷ []) ps c a x m even plain many is on e low = absurd (omega arith)
names_first f (b ∷ s ∷ ws) ps c a x m even plain many is on e low =
    let all : List ℕ = (b ∷ s ∷ ws ++ a ∷ []) ++ x ∷ [] in
    let long : length all ≡ length ws + 4 = omega (arith, length_push (ws ++ a ∷ []) x, length_push ws a) in
    let off : is_tabled f c ≡ false = told_direct f all ps c is (omega arith) plain e in
    let short : length (reading f ps c) ≡ 2 * length c =
    length_reading f ps c many is.0 ∙ ap (λ (t : Bool). if t then 2 + 2 * length c else 2 * length c) off in
    elim (direct_is f c off) [
      | inl lacks ↦ absurd (let both : true ≡ false = sym on ∙ lacks in cc)
      | inr one ↦ absurd (omega arith)
    ]
