-- The words of a chain's table are read as the chain.
use Rattle.std.proofs.Common.{◌≡◌, ◌≢◌, ◌%◌, ℕ, zero, suc, ◌+◌, ◌-◌, ◌*◌, ◌/◌, ◌^◌, ◌<◌, ◌≤◌, ◌==◌, nat_lt, nat_le, Bool, true, false, not, ◌&&◌, ◌||◌, List, [], ◌∷◌, ◌++◌, length, drop, refl, ap, sym, ◌∙◌, arith, Result, Ok, is_err, inl, inr, add-one, add-zero, zero-add, get_or}
use Rattle.std.proofs.lemmas.List.{append-nil, at_drop_all}
use Rattle.std.proofs.lemmas.List.FromFn.{fill_by_all}
use Rattle.std.proofs.lemmas.Bool.{cases_lt, lt-ltb, le-ltb, lt-leb, ne_eqb, and_left, and_right, or_from}
use Rattle.vd_bits.specs.Lanes.{lane16, lane32}
use Rattle.vd_model.specs.declared.chain.Piece.{Piece}
use Rattle.vd_model.specs.Chains.{IsChain, blank}
use Rattle.vd_indirect.specs.declared.descriptor.TableKind.{TableKind}
use Rattle.vd_indirect.specs.declared.descriptor.TableKind.TheVariants.{Split, Packed}
use Rattle.vd_indirect.specs.declared.read.TableFault.{TableFault}
use Rattle.vd_indirect.specs.declared.read.TableFault.TheVariants.{Nested, Order}
use Rattle.vd_indirect.specs.Tables.{ends, flag, flags_of, goes_on, has, is_misplaced, is_more, is_nested, is_unlinked, next_of, outcome, piece_at, pieces_of, read, second_at, second_word, table_words, visited, walked, words_from}
use Rattle.vd_indirect.proofs.Walk.{judge_passes, length_passes, linked, walk_ends}

-- ---- the words in their places

pub length-words_from : (kind : TableKind) (place : ℕ) (xs : List Piece) → length (words_from kind place xs) ≡ 2 * length xs
length-words_from kind place [] = refl
length-words_from kind place (x ∷ xs) = let rest = length-words_from kind (place + 1) xs in omega arith

more_is : (xs : List Piece) → is_more xs ≡ nat_lt 1 (suc (length xs))
more_is [] = refl
more_is (x ∷ xs) = sym (lt-ltb 1 (suc (suc (length xs))) (omega arith))

addr_at : (kind : TableKind) (place : ℕ) (xs : List Piece) (i : ℕ) → i < length xs
    → get_or (words_from kind place xs) (2 * i) 0 ≡ (get_or xs i blank).addr
addr_at kind place [] i h = absurd (omega arith)
addr_at kind place (x ∷ xs) zero h = refl
addr_at kind place (x ∷ xs) (suc i) h =
    let at : 2 * suc i ≡ suc (suc (2 * i)) = omega arith in
    ap (λ (j : ℕ). get_or (words_from kind place (x ∷ xs)) j 0) at ∙ addr_at kind (place + 1) xs i (omega arith)

word_at : (kind : TableKind) (place : ℕ) (xs : List Piece) (i : ℕ) → i < length xs
    → get_or (words_from kind place xs) (2 * i + 1) 0 ≡ second_word kind (get_or xs i blank) (nat_lt (i + 1) (length xs)) (place + i)
word_at kind place [] i h = absurd (omega arith)
word_at kind place (x ∷ xs) zero h =
    ap (λ (b : Bool). second_word kind x b place) (more_is xs) ∙ ap (second_word kind x (nat_lt 1 (suc (length xs)))) (sym (add-zero place))
word_at kind place (x ∷ xs) (suc i) h =
    let at : 2 * suc i + 1 ≡ suc (suc (2 * i + 1)) = omega arith in
    let next : (place + 1) + i ≡ place + suc i = omega arith in
    ap (λ (j : ℕ). get_or (words_from kind place (x ∷ xs)) j 0) at ∙ word_at kind (place + 1) xs i (omega arith)
    ∙ ap (second_word kind (get_or xs i blank) (nat_lt (i + 1) (length xs))) next
    ∙ ap (λ (b : Bool). second_word kind (get_or xs i blank) b (place + suc i)) (test i (length xs))
  where
    test : (i n : ℕ) → nat_lt (i + 1) n ≡ nat_lt (suc i + 1) (suc n)
    test i n = elim (cases_lt (i + 1) n) [
      | inl h ↦ lt-ltb (i + 1) n h ∙ sym (lt-ltb (suc i + 1) (suc n) (omega arith))
      | inr h ↦ le-ltb (i + 1) n h ∙ sym (le-ltb (suc i + 1) (suc n) (omega arith))
    ]

-- ---- the fields of a second word

flag-le : (worth : ℕ) (b : Bool) → flag worth b ≤ worth
flag-le worth true = omega arith
flag-le worth false = omega arith

len_is : (kind : TableKind) (x : Piece) (more : Bool) (place : ℕ) → x.len < 2 ^ 32 → lane32 (second_word kind x more place) 0 ≡ x.len
len_is Split x true place h = omega arith
len_is Split x false place h = omega arith
len_is Packed x more place h = omega arith

split_flags : (x : Piece) (more : Bool) (place : ℕ) → x.len < 2 ^ 32 → lane16 (second_word Split x more place) 2 ≡ flag 1 more
    + flag 2 x.write
split_flags x true place h = let w = flag-le 2 x.write in omega arith
split_flags x false place h = let w = flag-le 2 x.write in omega arith

split_next : (x : Piece) (place : ℕ) → x.len < 2 ^ 32 → place < 65535 → lane16 (second_word Split x true place) 3 ≡ place + 1
split_next x place h low = let w = flag-le 2 x.write in omega arith

packed_flags : (x : Piece) (more : Bool) (place : ℕ) → x.len < 2 ^ 32 → lane16 (second_word Packed x more place) 3 ≡ flag 2 x.write
packed_flags x more place h = let w = flag-le 2 x.write in omega arith

-- the three bits of the flags
next_bit : (more write : Bool) → has (flag 1 more + flag 2 write) 0 ≡ more
next_bit true true = refl
next_bit true false = refl
next_bit false true = refl
next_bit false false = refl

write_bit : (more write : Bool) → has (flag 1 more + flag 2 write) 1 ≡ write
write_bit true true = refl
write_bit true false = refl
write_bit false true = refl
write_bit false false = refl

indirect_bit : (more write : Bool) → has (flag 1 more + flag 2 write) 2 ≡ false
indirect_bit true true = refl
indirect_bit true false = refl
indirect_bit false true = refl
indirect_bit false false = refl

packed_write : (write : Bool) → has (flag 2 write) 1 ≡ write
packed_write true = refl
packed_write false = refl

packed_indirect : (write : Bool) → has (flag 2 write) 2 ≡ false
packed_indirect true = refl
packed_indirect false = refl

-- ---- a written table

pub second_is : (kind : TableKind) (c : List Piece) (i : ℕ) → i < length c
    → second_at (table_words kind c) i ≡ second_word kind (get_or c i blank) (nat_lt (i + 1) (length c)) i
second_is kind c i h = word_at kind 0 c i h ∙ ap (second_word kind (get_or c i blank) (nat_lt (i + 1) (length c))) (zero-add i)

-- a word by its number
pub even_word : (kind : TableKind) (c : List Piece) (at : ℕ) → at % 2 ≡ 0 → at < 2 * length c
    → get_or (table_words kind c) at 0 ≡ (get_or c (at / 2) blank).addr
even_word kind c at even h = let e : at ≡ 2 * (at / 2) = omega arith in ap (λ (n : ℕ). get_or (table_words kind c) n 0) e
    ∙ addr_at kind 0 c (at / 2) (omega arith)

pub odd_word : (kind : TableKind) (c : List Piece) (at : ℕ) → at % 2 ≢ 0 → at < 2 * length c
    → get_or (table_words kind c) at 0 ≡ second_word kind (get_or c (at / 2) blank) (nat_lt (at / 2 + 1) (length c)) (at / 2)
odd_word kind c at odd h = let e : at ≡ 2 * (at / 2) + 1 = omega arith in ap (λ (n : ℕ). get_or (table_words kind c) n 0) e
    ∙ second_is kind c (at / 2) (omega arith)

len_small : (c : List Piece) → IsChain c → (i : ℕ) → i < length c → (get_or c i blank).len < 2 ^ 32
len_small c chain i h = (chain.3 i blank h).1

-- the flags of a place
flags_are : (kind : TableKind) (c : List Piece) → IsChain c → (i : ℕ) → i < length c
    → (has (flags_of kind (table_words kind c) i) 1 ≡ (get_or c i blank).write) × (has (flags_of kind (table_words kind c) i) 2 ≡ false)
flags_are Split c chain i h =
    let x = get_or c i blank in
    let more = nat_lt (i + 1) (length c) in
    let is : flags_of Split (table_words Split c) i ≡ flag 1 more + flag 2 x.write = ap (λ (w : ℕ). lane16 w 2) (second_is Split c i h)
    ∙ split_flags x more i (len_small c chain i h) in
    (ap (λ (f : ℕ). has f 1) is ∙ write_bit more x.write, ap (λ (f : ℕ). has f 2) is ∙ indirect_bit more x.write)
flags_are Packed c chain i h =
    let x = get_or c i blank in
    let more = nat_lt (i + 1) (length c) in
    let is : flags_of Packed (table_words Packed c) i ≡ flag 2 x.write = ap (λ (w : ℕ). lane16 w 3) (second_is Packed c i h)
    ∙ packed_flags x more i (len_small c chain i h) in
    (ap (λ (f : ℕ). has f 1) is ∙ packed_write x.write, ap (λ (f : ℕ). has f 2) is ∙ packed_indirect x.write)

split_more : (c : List Piece) → IsChain c → (i : ℕ) → i < length c
    → has (flags_of Split (table_words Split c) i) 0 ≡ nat_lt (i + 1) (length c)
split_more c chain i h =
    let x = get_or c i blank in
    let more = nat_lt (i + 1) (length c) in
    ap (λ (f : ℕ). has f 0) (ap (λ (w : ℕ). lane16 w 2) (second_is Split c i h) ∙ split_flags x more i (len_small c chain i h))
    ∙ next_bit more x.write

next_is : (c : List Piece) → IsChain c → (i : ℕ) → i + 1 < length c → next_of (table_words Split c) i ≡ i + 1
next_is c chain i h =
    let x = get_or c i blank in
    let few = chain.1 in
    ap (λ (w : ℕ). lane16 w 3) (second_is Split c i (omega arith) ∙ ap (λ (b : Bool). second_word Split x b i)
    (lt-ltb (i + 1) (length c) h))
    ∙ split_next x i (len_small c chain i (omega arith)) (omega arith)

-- the walk visits the places in order
visited_in_order : (kind : TableKind) (c : List Piece) → IsChain c → (i : ℕ) → i < length c → visited kind (table_words kind c) i ≡ i
unfolding visited
visited_in_order Packed c chain i h = refl
visited_in_order Split c chain zero h = refl
visited_in_order Split c chain (suc i) h =
    ap (next_of (table_words Split c)) (visited_in_order Split c chain i (omega arith)) ∙ next_is c chain i (omega arith) ∙ add-one i

-- each place spells its piece
piece_is : (kind : TableKind) (c : List Piece) → IsChain c → (i : ℕ) → i < length c
    → piece_at kind (table_words kind c) i ≡ get_or c i blank
piece_is kind c chain i h =
    let x = get_or c i blank in
    let addr : get_or (table_words kind c) (2 * i) 0 ≡ x.addr = addr_at kind 0 c i h in
    let len : lane32 (second_at (table_words kind c) i) 0 ≡ x.len = ap (λ (w : ℕ). lane32 w 0) (second_is kind c i h)
    ∙ len_is kind x (nat_lt (i + 1) (length c)) i (len_small c chain i h) in
    let write = (flags_are kind c chain i h).0 in
    same_piece _ _ _ x addr len write
  where
    same_piece : (a l : ℕ) (w : Bool) (x : Piece) → a ≡ x.addr → l ≡ x.len → w ≡ x.write
        → ◌≡◌ {A = Piece} (record { addr = a; len = l; write = w }) x
    same_piece a l w x e f g =
        ap (λ (n : ℕ). let p : Piece = record { addr = n; len = l; write = w } in p) e
        ∙ ap (λ (n : ℕ). let p : Piece = record { addr = x.addr; len = n; write = w } in p) f
        ∙ ap (λ (b : Bool). let p : Piece = record { addr = x.addr; len = x.len; write = b } in p) g

spelled : (kind : TableKind) (c : List Piece) → IsChain c → (i : ℕ) → i < length c
    → piece_at kind (table_words kind c) (visited kind (table_words kind c) i) ≡ get_or c i blank
spelled kind c chain i h = ap (piece_at kind (table_words kind c)) (visited_in_order kind c chain i h) ∙ piece_is kind c chain i h

-- ---- the walk through a written table

on_to_next : (kind : TableKind) (c : List Piece) → IsChain c → (i : ℕ) → i < length c
    → goes_on kind (table_words kind c) (length c) i ≡ nat_lt (i + 1) (length c)
on_to_next Split c chain i h = ap (λ (p : ℕ). has (flags_of Split (table_words Split c) p) 0) (visited_in_order Split c chain i h)
    ∙ split_more c chain i h
on_to_next Packed c chain i h = refl

all_linked : (kind : TableKind) (c : List Piece) → IsChain c → (i : ℕ) → i < length c
    → is_unlinked kind (table_words kind c) (length c) i ≡ false
all_linked Packed c chain i h = refl
all_linked Split c chain i h =
    let words = table_words Split c in
    let at = visited_in_order Split c chain i h in
    elim (cases_lt (i + 1) (length c)) [
      | inl below ↦ (let next : next_of words (visited Split words i) ≡ i + 1 = ap (next_of words) at ∙ next_is c chain i below in
          and_right (goes_on Split words (length c) i) (nat_le (length c) (next_of words (visited Split words i)) || (i + 1 == length c))
          (or_from (nat_le (length c) (next_of words (visited Split words i))) (i + 1 == length c)
          (ap (nat_le (length c)) next ∙ lt-leb (length c) (i + 1) below)
          (ne_eqb (i + 1) (length c) (λ e. absurd (omega arith)))))
      | inr above ↦ and_left (goes_on Split words (length c) i)
          (nat_le (length c) (next_of words (visited Split words i)) || (i + 1 == length c))
          (on_to_next Split c chain i h ∙ le-ltb (i + 1) (length c) above)
    ]

ordered : (a b : Bool) → (a ≡ true → b ≡ true) → (a && not b) ≡ false
ordered true b h = ap not (h refl)
ordered false b h = refl

in_order : (kind : TableKind) (c : List Piece) → IsChain c → (i : ℕ) → i < length c → is_misplaced kind (table_words kind c) i ≡ false
in_order kind c chain zero h = refl
in_order kind c chain (suc i) h =
    let before = ap (λ (x : Piece). x.write) (spelled kind c chain i (omega arith)) in
    let here = ap (λ (x : Piece). x.write) (spelled kind c chain (suc i) h) in
    ap (λ (b : Bool). b && not (piece_at kind (table_words kind c) (visited kind (table_words kind c) (suc i))).write) before
    ∙ ap (λ (b : Bool). (get_or c i blank).write && not b) here
    ∙ ordered (get_or c i blank).write (get_or c (suc i) blank).write (chain.2 i (suc i) blank (omega arith) h)

not_nested : (kind : TableKind) (c : List Piece) → IsChain c → (i : ℕ) → i < length c → is_nested kind (table_words kind c) i ≡ false
not_nested kind c chain i h = ap (λ (p : ℕ). has (flags_of kind (table_words kind c) p) 2) (visited_in_order kind c chain i h)
    ∙ (flags_are kind c chain i h).1

good : (kind : TableKind) (c : List Piece) → IsChain c → (i : ℕ) → i < length c
    → outcome kind (table_words kind c) (length c) i ≡ Ok (pieces_of kind (table_words kind c) (i + 1))
good kind c chain i h =
    let words = table_words kind c in
    judge_passes (is_nested kind words i) (is_misplaced kind words i) (Nested (visited kind words i)) (Order (visited kind words i))
    (linked kind words (length c) i (is_unlinked kind words (length c) i))
    (not_nested kind c chain i h) (in_order kind c chain i h)
    ∙ ap (linked kind words (length c) i) (all_linked kind c chain i h)

ends_is : (kind : TableKind) (c : List Piece) → IsChain c → (i : ℕ) → i < length c
    → ends kind (table_words kind c) (length c) i ≡ not (nat_lt (i + 1) (length c))
ends_is kind c chain i h =
    let words = table_words kind c in
    ap (λ (r : Result (List Piece) TableFault). is_err r || not (goes_on kind words (length c) i)) (good kind c chain i h)
    ∙ ap not (on_to_next kind c chain i h)

pub walked_back : (kind : TableKind) (c : List Piece) → IsChain c → walked kind (table_words kind c) (length c) ≡ Ok c
walked_back kind c chain =
    let words = table_words kind c in
    let some = chain.0 in
    let last : ℕ = length c - 1 in
    let whole : last + 1 ≡ length c = omega arith in
    walk_ends kind words (length c) last (omega arith)
    (λ j h. ends_is kind c chain j (omega arith) ∙ ap not (lt-ltb (j + 1) (length c) (omega arith)))
    (ends_is kind c chain last (omega arith) ∙ ap not (le-ltb (last + 1) (length c) (omega arith)))
    ∙ good kind c chain last (omega arith)
    ∙ ap (λ (n : ℕ). Ok (pieces_of kind words n)) whole
    ∙ ap (λ (xs : List Piece). Ok xs)
    (sym (fill_by_all (λ n. piece_at kind words (visited kind words n)) c (length c) blank refl
    (λ k h. sym (spelled kind c chain k h))))

-- a table of 16 bytes a piece is read as the chain that was written
pub reads_back : (kind : TableKind) (c : List Piece) → IsChain c → read kind (table_words kind c) (16 * length c) ≡ Ok c
reads_back kind c chain =
    let some = chain.0 in
    let few = chain.1 in
    let places : (16 * length c) / 16 ≡ length c = omega arith in
    length_passes (16 * length c) (walked kind (table_words kind c) ((16 * length c) / 16)) (omega arith) (omega arith) (omega arith)
    ∙ ap (walked kind (table_words kind c)) places ∙ walked_back kind c chain

-- ---- the last piece written

pub all_written : (kind : TableKind) (words : List ℕ) (xs : List Piece) (i : ℕ) (whole : List ℕ) → length xs ≤ i
    → words ++ words_from kind i (drop i xs) ≡ whole → words ≡ whole
all_written kind words xs i whole h e =
    sym (append-nil words) ∙ ap (λ (ws : List ℕ). words ++ ws) (sym (at_drop_all (words_from kind i) xs i h)) ∙ e
