-- The canonical text of a run is read as that run.
use Rattle.std.proofs.Common.{◌≡◌, ℕ, ◌+◌, ◌^◌, ◌%◌, ◌<◌, ◌≤◌, ◌==◌, Bool, true, false, not, ◌&&◌, cond, nat_le, List, [], ◌∷◌, ◌++◌, length, map, Some, None, option_map, decimal, refl, ap, sym, ◌∙◌, arith, append-nil, lit<, inl, inr}
use Rattle.std.specs.Char.{is_ascii_digit}
use Rattle.std.specs.List.{list_all}
use Rattle.std.specs.Str.Parse.{digits_value}
use Rattle.std.proofs.lemmas.Fmt.{decimal_by_steps, decimal_is_IsNumeral, length-decimal-le, decimal_nonempty}
use Rattle.std.proofs.lemmas.List.Folds.{list_all-append}
use Rattle.std.proofs.lemmas.Bool.{and_parts, leb-true, le-leb, cases_Bool, false≢true, eqb-true}
use Rattle.std.proofs.lemmas.Bool.Decides.{nat_tests}
use Rattle.vd_model.specs.declared.chain.Piece.{Piece}
use Rattle.vd_model.specs.declared.record.Run.{Run}
use Rattle.vd_text.specs.Grammar.{cut, split, number, is_number, piece, pieces, range, all_some, chain, run, run_within, times, is_readable_first, is_within}
use Rattle.vd_text.specs.Canonical.{piece_text, more_text, pieces_text, run_text}

-- what a text can say of a piece
abbrev pub fits_piece : Piece → Bool
fits_piece p = nat_le p.addr 0x7fff_ffff_ffff_ffff && (nat_le 1 p.len && nat_le p.len 0xffff_ffff)

-- the byte c doesn't stand in xs
abbrev pub Lacks : ℕ → List ℕ → Type 0
Lacks c xs = list_all (λ x. not (x == c)) xs ≡ true

not_true : (b : Bool) → not b ≡ true → b ≡ false
not_true true h = sym h
not_true false h = refl

lacks_head : (c x : ℕ) (xs : List ℕ) → Lacks c (x ∷ xs) → ((x == c) ≡ false) × Lacks c xs
lacks_head c x xs h =
    let parts = and_parts (not (x == c)) (list_all (λ x. not (x == c)) xs) h in
    (not_true (x == c) parts.0, parts.1)

cut_lacks : (c : ℕ) (xs ys : List ℕ) → Lacks c xs → cut c (xs ++ c ∷ ys) ≡ Some (xs, ys)
cut_lacks c [] ys h = let same : (c == c) ≡ true = grind (arith, nat_tests) in rw same refl
cut_lacks c (x ∷ xs) ys h = let parts = lacks_head c x xs h in rw (parts.0, cut_lacks c xs ys parts.1) refl

cut_none : (c : ℕ) (xs : List ℕ) → Lacks c xs → cut c xs ≡ None
cut_none c [] h = refl
cut_none c (x ∷ xs) h = let parts = lacks_head c x xs h in rw (parts.0, cut_none c xs parts.1) refl

split_lacks : (c : ℕ) (xs ys : List ℕ) → Lacks c xs → split c (xs ++ c ∷ ys) ≡ xs ∷ split c ys
split_lacks c [] ys h = let same : (c == c) ≡ true = grind (arith, nat_tests) in rw same refl
split_lacks c (x ∷ xs) ys h = let parts = lacks_head c x xs h in rw (parts.0, split_lacks c xs ys parts.1) refl

split_one : (c : ℕ) (xs : List ℕ) → Lacks c xs → split c xs ≡ xs ∷ []
split_one c [] h = refl
split_one c (x ∷ xs) h = let parts = lacks_head c x xs h in rw (parts.0, split_one c xs parts.1) refl

-- digits and their value

pub decimal_digits : (n : ℕ) → n < 2 ^ 64 → list_all is_ascii_digit (decimal n) ≡ true
decimal_digits = decimal_by_steps (λ n ds. list_all is_ascii_digit ds ≡ true)
    (λ n h. grind (arith, nat_tests))
    (λ n ds h e. list_all-append is_ascii_digit ds ((48 + n % 10) ∷ []) ∙ rw e (grind (arith, nat_tests)))

digit_lacks : (c x : ℕ) → is_ascii_digit c ≡ false → is_ascii_digit x ≡ true → not (x == c) ≡ true
digit_lacks c x h e = elim (cases_Bool (x == c)) [
  | inl same ↦ let s : x ≡ c = eqb-true x c same in absurd (false≢true (sym h ∙ ap is_ascii_digit (sym s) ∙ e))
  | inr other ↦ rw other refl
]

digits_lack : (c : ℕ) (ds : List ℕ) → is_ascii_digit c ≡ false → list_all is_ascii_digit ds ≡ true → Lacks c ds
digits_lack c [] h e = refl
digits_lack c (d ∷ ds) h e =
    let parts = and_parts (is_ascii_digit d) (list_all is_ascii_digit ds) e in
    rw (digit_lacks c d h parts.0) (digits_lack c ds h parts.1)

decimal_lacks : (c n : ℕ) → is_ascii_digit c ≡ false → n < 2 ^ 64 → Lacks c (decimal n)
decimal_lacks c n h i = digits_lack c (decimal n) h (decimal_digits n i)

number_of : (low most : ℕ) (ds : List ℕ) (n : ℕ) → is_number ds ≡ true → digits_value 10 ds ≡ n → nat_le low n ≡ true
    → nat_le n most ≡ true → number low most ds ≡ Some n
number_of low most ds n h e i j = rw (h, e, i, j) refl

number_decimal : (low most n : ℕ) → low ≤ n → n ≤ most → most < 2 ^ 64 → number low most (decimal n) ≡ Some n
number_decimal low most n h i j =
    let small : n < 2 ^ 64 = omega arith in
    let some : nat_le 1 (length (decimal n)) ≡ true = le-leb 1 (length (decimal n)) (decimal_nonempty n small) in
    let short : nat_le (length (decimal n)) 20 ≡ true =
    le-leb (length (decimal n)) 20 (length-decimal-le 20 n (lit< tt) (omega arith) small) in
    let is : is_number (decimal n) ≡ true = rw (some, short, decimal_digits n small) refl in
    number_of low most (decimal n) n is (decimal_is_IsNumeral n small).1 (le-leb low n h) (le-leb n most i)

-- a piece

range_back : (w : Bool) (a l : ℕ) → a ≤ 0x7fff_ffff_ffff_ffff → 1 ≤ l → l ≤ 0xffff_ffff
    → range w (cut 43 (decimal a ++ 43 ∷ decimal l)) ≡ Some (record { addr = a; len = l; write = w })
range_back w a l h i j =
    rw (
      cut_lacks 43 (decimal a) (decimal l) (decimal_lacks 43 a refl (omega arith)),
      number_decimal 0 0x7fff_ffff_ffff_ffff a (omega arith) h (lit< tt),
      number_decimal 1 0xffff_ffff l i j (lit< tt),
    ) refl

pub piece_parts : (p : Piece) → fits_piece p ≡ true → (p.addr ≤ 0x7fff_ffff_ffff_ffff) × (1 ≤ p.len) × (p.len ≤ 0xffff_ffff)
piece_parts p h =
    let parts = and_parts (nat_le p.addr 0x7fff_ffff_ffff_ffff) (nat_le 1 p.len && nat_le p.len 0xffff_ffff) h in
    let len = and_parts (nat_le 1 p.len) (nat_le p.len 0xffff_ffff) parts.1 in
    (leb-true p.addr 0x7fff_ffff_ffff_ffff parts.0, leb-true 1 p.len len.0, leb-true p.len 0xffff_ffff len.1)

piece_back_by : (w : Bool) (a l : ℕ) → a ≤ 0x7fff_ffff_ffff_ffff → 1 ≤ l → l ≤ 0xffff_ffff
    → piece (piece_text (record { addr = a; len = l; write = w })) ≡ Some (record { addr = a; len = l; write = w })
piece_back_by true a l h i j = range_back true a l h i j
piece_back_by false a l h i j = range_back false a l h i j

piece_back : (p : Piece) → fits_piece p ≡ true → piece (piece_text p) ≡ Some p
piece_back p h = let parts = piece_parts p h in piece_back_by p.write p.addr p.len parts.0 parts.1 parts.2

body_lacks : (c a l : ℕ) → is_ascii_digit c ≡ false → (43 == c) ≡ false → a < 2 ^ 64 → l < 2 ^ 64 → Lacks c (decimal a ++ 43 ∷ decimal l)
body_lacks c a l digit plus h i =
    list_all-append (λ x. not (x == c)) (decimal a) (43 ∷ decimal l)
    ∙ rw (decimal_lacks c a digit h, plus, decimal_lacks c l digit i) refl

piece_lacks_by : (c : ℕ) (w : Bool) (a l : ℕ) → is_ascii_digit c ≡ false → (43 == c) ≡ false → (119 == c) ≡ false → (114 == c) ≡ false
    → a < 2 ^ 64 → l < 2 ^ 64 → Lacks c (piece_text (record { addr = a; len = l; write = w }))
piece_lacks_by c true a l digit plus w r h i = rw (w, body_lacks c a l digit plus h i) refl
piece_lacks_by c false a l digit plus w r h i = rw (r, body_lacks c a l digit plus h i) refl

no_space : (p : Piece) → fits_piece p ≡ true → Lacks 32 (piece_text p)
no_space p h =
    let parts = piece_parts p h in
    piece_lacks_by 32 p.write p.addr p.len refl refl refl refl (omega (arith, parts.0)) (omega (arith, parts.2))

no_star : (p : Piece) → fits_piece p ≡ true → Lacks 42 (piece_text p)
no_star p h =
    let parts = piece_parts p h in
    piece_lacks_by 42 p.write p.addr p.len refl refl refl refl (omega (arith, parts.0)) (omega (arith, parts.2))

-- the pieces of a chain

split_pieces : (p : Piece) (ps : List Piece) → list_all fits_piece (p ∷ ps) ≡ true
    → split 32 (piece_text p ++ more_text ps) ≡ map piece_text (p ∷ ps)
split_pieces p [] h =
    let parts = and_parts (fits_piece p) true h in
    ap (split 32) (append-nil (piece_text p)) ∙ split_one 32 (piece_text p) (no_space p parts.0)
split_pieces p (q ∷ ps) h =
    let parts = and_parts (fits_piece p) (list_all fits_piece (q ∷ ps)) h in
    split_lacks 32 (piece_text p) (piece_text q ++ more_text ps) (no_space p parts.0)
    ∙ ap (λ ws. piece_text p ∷ ws) (split_pieces q ps parts.1)

all_back : (ps : List Piece) → list_all fits_piece ps ≡ true → all_some (map piece (map piece_text ps)) ≡ Some ps
all_back [] h = refl
all_back (p ∷ ps) h =
    let parts = and_parts (fits_piece p) (list_all fits_piece ps) h in
    rw (piece_back p parts.0) (ap (option_map (λ xs. p ∷ xs)) (all_back ps parts.1))

pieces_back : (ps : List Piece) → nat_le 1 (length ps) ≡ true → list_all fits_piece ps ≡ true → pieces (pieces_text ps) ≡ Some ps
pieces_back [] some h = absurd (false≢true some)
pieces_back (p ∷ ps) some h = ap (λ ws. all_some (map piece ws)) (split_pieces p ps h) ∙ all_back (p ∷ ps) h

more_lacks : (ps : List Piece) → list_all fits_piece ps ≡ true → Lacks 42 (more_text ps)
more_lacks [] h = refl
more_lacks (p ∷ ps) h =
    let parts = and_parts (fits_piece p) (list_all fits_piece ps) h in
    list_all-append (λ x. not (x == 42)) (piece_text p) (more_text ps) ∙ rw (no_star p parts.0, more_lacks ps parts.1) refl

pieces_lack : (ps : List Piece) → list_all fits_piece ps ≡ true → Lacks 42 (pieces_text ps)
pieces_lack [] h = refl
pieces_lack (p ∷ ps) h =
    let parts = and_parts (fits_piece p) (list_all fits_piece ps) h in
    list_all-append (λ x. not (x == 42)) (piece_text p) (more_text ps) ∙ rw (no_star p parts.0, more_lacks ps parts.1) refl

-- a run

chain_back : (ps : List Piece) → nat_le 1 (length ps) ≡ true → list_all fits_piece ps ≡ true → is_readable_first ps ≡ true
    → chain (pieces_text ps) ≡ Some ps
chain_back ps some each first = rw (pieces_back ps some each, first) refl

counted_back : (n : ℕ) (ps : List Piece) → 1 ≤ n → n ≤ 0xffff_ffff → nat_le 1 (length ps) ≡ true → list_all fits_piece ps ≡ true
    → is_readable_first ps ≡ true → (b : Bool) → (n == 1) ≡ b
    → run (cond b (pieces_text ps) (decimal n ++ 42 ∷ pieces_text ps)) ≡ Some (times n ps)
unfolding run
counted_back n ps least most some each first true one =
    rw (cut_none 42 (pieces_text ps) (pieces_lack ps each), chain_back ps some each first)
    (ap (λ m. Some (times m ps)) (sym (eqb-true n 1 one)))
counted_back n ps least most some each first false one =
    rw (
      cut_lacks 42 (decimal n) (pieces_text ps) (decimal_lacks 42 n refl (omega arith)),
      number_decimal 1 0xffff_ffff n least most (lit< tt),
      chain_back ps some each first,
    ) refl

pub run_back : (r : Run) → 1 ≤ r.count → r.count ≤ 0xffff_ffff → nat_le 1 (length r.chain) ≡ true → list_all fits_piece r.chain ≡ true
    → is_readable_first r.chain ≡ true → run (run_text r) ≡ Some r
unfolding run_text
run_back r least most some each first = counted_back r.count r.chain least most some each first (r.count == 1) refl

pub run_within_back : (most : ℕ) (r : Run) → 1 ≤ r.count → r.count ≤ 0xffff_ffff → nat_le 1 (length r.chain) ≡ true
    → list_all fits_piece r.chain ≡ true → is_readable_first r.chain ≡ true → is_within most r.chain ≡ true
    → run_within most (run_text r) ≡ Some r
unfolding run_within
run_within_back most r least least_most some each first within = rw (run_back r least least_most some each first, within) refl
