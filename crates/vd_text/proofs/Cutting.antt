-- Cutting a text at a byte, one byte after the other.
use Rattle.std.proofs.Common.{◌≡◌, ℕ, suc, ◌<◌, ◌==◌, true, false, cond, List, [], ◌∷◌, ◌++◌, length, map, Option, Some, None, IfSome, option_map, refl, ap, sym, ◌∙◌, append_assoc, arith, length-append, nat_le, option_and_then}
use Rattle.std.proofs.lemmas.Bool.{lt-leb, le-leb}
use Rattle.std.proofs.lemmas.Grind.{common_steps}
use Rattle.vd_model.specs.declared.chain.Piece.{Piece}
use Rattle.vd_text.specs.declared.chains.TheConstants.{MOST_PIECES}
use Rattle.vd_text.specs.Grammar.{cut, split, grown, piece, pieces, all_some}
use Rattle.vd_text.specs.Bounds.{if_at_most}

-- what was cut, behind these bytes
abbrev pub prefixed : List ℕ → Option (List ℕ × List ℕ) → Option (List ℕ × List ℕ)
prefixed front o = option_map (λ p. (front ++ p.0, p.1)) o

prefixed_twice : (front : List ℕ) (x : ℕ) (o : Option (List ℕ × List ℕ))
    → prefixed front (option_map (λ p. (x ∷ p.0, p.1)) o) ≡ prefixed (front ++ x ∷ []) o
prefixed_twice front x None = refl
prefixed_twice front x (Some p) = rw append_assoc refl

-- a byte that is not c goes to the front
pub cut_past : (front : List ℕ) (c x : ℕ) (xs : List ℕ) → (x == c) ≡ false
    → prefixed front (cut c (x ∷ xs)) ≡ prefixed (front ++ x ∷ []) (cut c xs)
cut_past front c x xs other = rw other (prefixed_twice front x (cut c xs))

pub cut_here : (front : List ℕ) (c x : ℕ) (xs : List ℕ) → (x == c) ≡ true → prefixed front (cut c (x ∷ xs)) ≡ Some (front, xs)
cut_here front c x xs same = rw same (grind (arith, common_steps))

prefixed_none : (o : Option (List ℕ × List ℕ)) → prefixed [] o ≡ o
prefixed_none None = refl
prefixed_none (Some p) = refl

pub prefixed_start : (xs : List ℕ) (c : ℕ) → cut c xs ≡ prefixed [] (cut c xs)
prefixed_start xs c = sym (prefixed_none (cut c xs))

-- what is left after a cut is shorter
shorter_after : (n x : ℕ) (o : Option (List ℕ × List ℕ)) → IfSome o (λ p. length p.1 < n)
    → IfSome {T = List ℕ × List ℕ} (option_map (λ (p : List ℕ × List ℕ). (x ∷ p.0, p.1)) o) (λ p. length p.1 < suc n)
shorter_after n x None h = h
shorter_after n x (Some p) h = omega arith

pub cut_shorter : (c : ℕ) (xs : List ℕ) → IfSome (cut c xs) (λ p. length p.1 < length xs)
cut_shorter c [] = tt
cut_shorter c (x ∷ xs) = elim (x == c) as
    (λ b. IfSome {T = List ℕ × List ℕ} (cond b (Some ([], xs)) (option_map (λ (p : List ℕ × List ℕ). (x ∷ p.0, p.1)) (cut c xs)))
    (λ p. length p.1 < length (x ∷ xs))) [
      | true ↦ omega arith
      | false ↦ shorter_after (length xs) x (cut c xs) (cut_shorter c xs)
    ]

-- the parts of a text, by where it was cut
abbrev pub split_by : List ℕ → ℕ → Option (List ℕ × List ℕ) → List (List ℕ)
split_by xs c None = xs ∷ []
split_by xs c (Some p) = p.0 ∷ split c p.1

grown_by : (x : ℕ) (xs : List ℕ) (c : ℕ) (o : Option (List ℕ × List ℕ))
    → grown x (split_by xs c o) ≡ split_by (x ∷ xs) c (option_map (λ p. (x ∷ p.0, p.1)) o)
grown_by x xs c None = refl
grown_by x xs c (Some p) = refl

pub split_cut : (c : ℕ) (xs : List ℕ) → split c xs ≡ split_by xs c (cut c xs)
split_cut c [] = refl
split_cut c (x ∷ xs) = elim (x == c) as (λ b. cond b ([] ∷ split c xs) (grown x (split c xs)) ≡ split_by (x ∷ xs) c
    (cond b (Some ([], xs)) (option_map (λ p. (x ∷ p.0, p.1)) (cut c xs)))) [
      | true ↦ refl
      | false ↦ ap (grown x) (split_cut c xs) ∙ grown_by x xs c (cut c xs)
    ]

-- pieces found so far, and those of what is left
abbrev pub after : List Piece → Option (List Piece) → Option (List Piece)
after found o = option_map (λ ps. found ++ ps) o

abbrev pub then_some : Option Piece → Option (List Piece) → Option (List Piece)
then_some None o = None
then_some (Some p) o = option_map (λ ps. p ∷ ps) o

some_first : (o : Option Piece) (os : List (Option Piece)) → all_some (o ∷ os) ≡ then_some o (all_some os)
some_first None os = refl
some_first (Some p) os = refl

after_more : (found : List Piece) (p : Piece) (o : Option (List Piece))
    → after found (option_map (λ ps. p ∷ ps) o) ≡ after (found ++ p ∷ []) o
after_more found p None = refl
after_more found p (Some ps) = rw append_assoc refl

pub cut_pieces : (text word rest : List ℕ) → cut 32 text ≡ Some (word, rest) → pieces text ≡ then_some (piece word) (pieces rest)
cut_pieces text word rest h = ap (λ ws. all_some (map piece ws)) (split_cut 32 text ∙ ap (split_by text 32) h)
    ∙ some_first (piece word) (map piece (split 32 rest))

-- one word more is read
pub pieces_past : (found : List Piece) (text word rest : List ℕ) (p : Piece) → cut 32 text ≡ Some (word, rest) → piece word ≡ Some p
    → after found (pieces text) ≡ after (found ++ p ∷ []) (pieces rest)
pieces_past found text word rest p h e = ap (after found) (cut_pieces text word rest h ∙ ap (λ o. then_some o (pieces rest)) e)
    ∙ after_more found p (pieces rest)

pub pieces_stop : (found : List Piece) (text word rest : List ℕ) → cut 32 text ≡ Some (word, rest) → piece word ≡ None
    → after found (pieces text) ≡ None
pieces_stop found text word rest h e = ap (after found) (cut_pieces text word rest h ∙ ap (λ o. then_some o (pieces rest)) e)

pub last_pieces : (text : List ℕ) → cut 32 text ≡ None → pieces text ≡ then_some (piece text) (Some [])
last_pieces text h = ap (λ ws. all_some (map piece ws)) (split_cut 32 text ∙ ap (split_by text 32) h) ∙ some_first (piece text) []

pub pieces_last : (found : List Piece) (text : List ℕ) (p : Piece) → cut 32 text ≡ None → piece text ≡ Some p
    → after found (pieces text) ≡ Some (found ++ p ∷ [])
pieces_last found text p h e = ap (after found) (last_pieces text h ∙ ap (λ o. then_some o (Some [])) e)

pub pieces_none : (found : List Piece) (text : List ℕ) → cut 32 text ≡ None → piece text ≡ None → after found (pieces text) ≡ None
pieces_none found text h e = ap (after found) (last_pieces text h ∙ ap (λ o. then_some o (Some [])) e)

-- more pieces are found than may be
past_full : (found : List Piece) (p : Piece) (o : Option (List Piece)) → length found ≡ MOST_PIECES
    → option_and_then (if_at_most MOST_PIECES) (after (found ++ p ∷ []) o) ≡ None
past_full found p None h = refl
past_full found p (Some ps) h =
    let e : nat_le (length ((found ++ p ∷ []) ++ ps)) MOST_PIECES ≡ false =
    lt-leb (length ((found ++ p ∷ []) ++ ps)) MOST_PIECES
    (omega (arith, length-append (found ++ p ∷ []) ps, length-append found (p ∷ []))) in
    rw e refl

pub full : (found : List Piece) → length found ≡ MOST_PIECES → (text word rest : List ℕ) (p : Piece) → cut 32 text ≡ Some (word, rest)
    → piece word ≡ Some p → (o : Option (List Piece)) → after found (pieces text) ≡ o → option_and_then (if_at_most MOST_PIECES) o ≡ None
full found h text word rest p cuts e o same =
    ap (option_and_then (if_at_most MOST_PIECES)) (sym same ∙ pieces_past found text word rest p cuts e) ∙ past_full found p (pieces rest) h

pub full_last : (found : List Piece) → length found ≡ MOST_PIECES → (text : List ℕ) (p : Piece) → cut 32 text ≡ None
    → piece text ≡ Some p → (o : Option (List Piece)) → after found (pieces text) ≡ o → option_and_then (if_at_most MOST_PIECES) o ≡ None
full_last found h text p cuts e o same =
    let n : nat_le (length (found ++ p ∷ [])) MOST_PIECES ≡ false =
    lt-leb (length (found ++ p ∷ [])) MOST_PIECES (omega (arith, length-append found (p ∷ []))) in
    ap (option_and_then (if_at_most MOST_PIECES)) (sym same ∙ pieces_last found text p cuts e) ∙ rw n refl

pub not_full_last : (found : List Piece) → length found < MOST_PIECES → (text : List ℕ) (p : Piece) → cut 32 text ≡ None
    → piece text ≡ Some p → (o : Option (List Piece)) → after found (pieces text) ≡ o
    → option_and_then (if_at_most MOST_PIECES) o ≡ Some (found ++ p ∷ [])
not_full_last found h text p cuts e o same =
    let n : nat_le (length (found ++ p ∷ [])) MOST_PIECES ≡ true =
    le-leb (length (found ++ p ∷ [])) MOST_PIECES (omega (arith, length-append found (p ∷ []))) in
    ap (option_and_then (if_at_most MOST_PIECES)) (sym same ∙ pieces_last found text p cuts e) ∙ rw n refl
