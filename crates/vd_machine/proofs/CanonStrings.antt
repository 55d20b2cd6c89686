-- A string of plain characters is written as it is.
use Rattle.std.proofs.Common.{◌≡◌, ℕ, ◌<◌, ◌≤◌, ◌^◌, Bool, true, false, not, ◌&&◌, ◌==◌, nat_le, List, [], ◌∷◌, ◌++◌, decimal, refl, ap, ◌∙◌, arith}
use Rattle.std.specs.List.{list_all, list_any}
use Rattle.std.specs.Char.{is_ascii_digit}
use Rattle.std.proofs.lemmas.Bool.{and_parts}
use Rattle.std.proofs.lemmas.Bool.Decides.{nat_tests}
use Rattle.std.proofs.lemmas.List.Folds.{list_all-append}
use Rattle.toml_writer.specs.Text.{is_control, needs_escape, quotes_after, escaped, has, encoding_of, string_text}
use Rattle.vd_model.specs.declared.chain.Piece.{Piece}
use Rattle.vd_model.specs.declared.record.Run.{Run}
use Rattle.vd_text.specs.Canonical.{piece_text, more_text, pieces_text, counted_text, run_text}
use Rattle.vd_text.proofs.Canonical.{decimal_digits, fits_piece, piece_parts}
use Rattle.vd_machine.specs.Canon.{quoted}

-- a character that a string holds as it is
abbrev pub is_plain : ℕ → Bool
is_plain c = (nat_le 32 c && nat_le c 126) && (not (c == 34) && not (c == 92))

-- what a plain character isn't
plain_char : (c : ℕ) → is_plain c ≡ true → ((c == 34) ≡ false) × ((c == 92) ≡ false) × ((c == 10) ≡ false) × ((c == 9) ≡ false)
    × ((nat_le 32 c && not (c == 127)) ≡ true)
plain_char c h =
    (grind (arith, nat_tests), grind (arith, nat_tests), grind (arith, nat_tests), grind (arith, nat_tests), grind (arith, nat_tests))

lacks : (q : ℕ) (s : List ℕ) → ((c : ℕ) → is_plain c ≡ true → (c == q) ≡ false) → list_all is_plain s ≡ true → has q s ≡ false
lacks q [] none h = refl
lacks q (c ∷ s) none h =
    let parts = and_parts (is_plain c) (list_all is_plain s) h in
    rw (none c parts.0, lacks q s none parts.1) refl

no_control : (s : List ℕ) → list_all is_plain s ≡ true → list_any is_control s ≡ false
no_control [] h = refl
no_control (c ∷ s) h =
    let parts = and_parts (is_plain c) (list_all is_plain s) h in
    rw ((plain_char c parts.0).3, (plain_char c parts.0).4, no_control s parts.1) refl

no_escape : (c : ℕ) → is_plain c ≡ true → needs_escape false 0 c ≡ false
unfolding needs_escape
no_escape c h = let p = plain_char c h in rw (p.0, p.2, p.1, p.3, p.4) refl

no_quotes : (c : ℕ) → is_plain c ≡ true → quotes_after false 0 c ≡ 0
unfolding quotes_after
no_quotes c h = rw ((plain_char c h).0) refl

plain_escaped : (s : List ℕ) → list_all is_plain s ≡ true → escaped false 0 s ≡ s
unfolding escaped
plain_escaped [] h = refl
plain_escaped (c ∷ s) h =
    let parts = and_parts (is_plain c) (list_all is_plain s) h in
    rw (no_escape c parts.0, no_quotes c parts.0) (ap (λ r. c ∷ r) (plain_escaped s parts.1))

pub plain_text : (s : List ℕ) → list_all is_plain s ≡ true → string_text s ≡ quoted s
unfolding string_text encoding_of
plain_text s h =
    rw (
      no_control s h,
      lacks 92 s (λ c p. (plain_char c p).1) h,
      lacks 34 s (λ c p. (plain_char c p).0) h,
      lacks 10 s (λ c p. (plain_char c p).2) h,
      plain_escaped s h,
    ) refl

-- the text of a run is plain

digit_is_plain : (c : ℕ) → is_ascii_digit c ≡ true → is_plain c ≡ true
digit_is_plain c h = grind (arith, nat_tests)

digits_are_plain : (ds : List ℕ) → list_all is_ascii_digit ds ≡ true → list_all is_plain ds ≡ true
digits_are_plain [] h = refl
digits_are_plain (d ∷ ds) h =
    let parts = and_parts (is_ascii_digit d) (list_all is_ascii_digit ds) h in
    rw (digit_is_plain d parts.0) (digits_are_plain ds parts.1)

decimal_is_plain : (n : ℕ) → n < 2 ^ 64 → list_all is_plain (decimal n) ≡ true
decimal_is_plain n h = digits_are_plain (decimal n) (decimal_digits n h)

plain_append : (xs ys : List ℕ) → list_all is_plain xs ≡ true → list_all is_plain ys ≡ true → list_all is_plain (xs ++ ys) ≡ true
plain_append xs ys h i = list_all-append is_plain xs ys ∙ rw (h, i) refl

body_is_plain : (a l : ℕ) → a < 2 ^ 64 → l < 2 ^ 64 → list_all is_plain (decimal a ++ 43 ∷ decimal l) ≡ true
body_is_plain a l h i = plain_append (decimal a) (43 ∷ decimal l) (decimal_is_plain a h) (decimal_is_plain l i)

piece_is_plain_by : (w : Bool) (a l : ℕ) → a < 2 ^ 64 → l < 2 ^ 64
    → list_all is_plain (piece_text (record { addr = a; len = l; write = w })) ≡ true
piece_is_plain_by true a l h i = body_is_plain a l h i
piece_is_plain_by false a l h i = body_is_plain a l h i

piece_is_plain : (p : Piece) → fits_piece p ≡ true → list_all is_plain (piece_text p) ≡ true
piece_is_plain p h =
    let parts = piece_parts p h in
    piece_is_plain_by p.write p.addr p.len (omega (arith, parts.0)) (omega (arith, parts.2))

more_is_plain : (ps : List Piece) → list_all fits_piece ps ≡ true → list_all is_plain (more_text ps) ≡ true
more_is_plain [] h = refl
more_is_plain (p ∷ ps) h =
    let parts = and_parts (fits_piece p) (list_all fits_piece ps) h in
    plain_append (piece_text p) (more_text ps) (piece_is_plain p parts.0) (more_is_plain ps parts.1)

pieces_are_plain : (ps : List Piece) → list_all fits_piece ps ≡ true → list_all is_plain (pieces_text ps) ≡ true
pieces_are_plain [] h = refl
pieces_are_plain (p ∷ ps) h =
    let parts = and_parts (fits_piece p) (list_all fits_piece ps) h in
    plain_append (piece_text p) (more_text ps) (piece_is_plain p parts.0) (more_is_plain ps parts.1)

counted_is_plain : (b : Bool) (n : ℕ) (text : List ℕ) → (n == 1) ≡ b → n < 2 ^ 64 → list_all is_plain text ≡ true
    → list_all is_plain (counted_text n text) ≡ true
counted_is_plain true n text one h i = rw one i
counted_is_plain false n text one h i = rw one (plain_append (decimal n) (42 ∷ text) (decimal_is_plain n h) i)

pub run_is_plain : (r : Run) → r.count ≤ 0xffff_ffff → list_all fits_piece r.chain ≡ true → list_all is_plain (run_text r) ≡ true
unfolding run_text
run_is_plain r h each =
    counted_is_plain (r.count == 1) r.count (pieces_text r.chain) refl (omega arith) (pieces_are_plain r.chain each)
