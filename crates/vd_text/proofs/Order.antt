-- Readable pieces first, from one piece to the next.
use Rattle.std.proofs.Common.{◌≡◌, ℕ, ◌+◌, ◌<◌, Bool, true, false, not, ◌&&◌, ◌||◌, cond, List, [], ◌∷◌, length, get_or, drop, Option, Some, None, refl, ap, sym, ◌∙◌, arith, zero, suc, inl, inr}
use Rattle.std.specs.List.{list_all}
use Rattle.std.specs.Option.{option_map_or}
use Rattle.std.proofs.lemmas.Bool.{cases_Bool, true≢false, false≢true}
use Rattle.std.proofs.lemmas.List.{drop_more}
use Rattle.std.proofs.lemmas.List.Folds.{list_all_at}
use Rattle.vd_model.specs.declared.chain.Piece.{Piece}
use Rattle.vd_model.specs.Chains.{IsReadableFirst}
use Rattle.vd_text.specs.Grammar.{cut, piece, pieces, is_readable_first}
use Rattle.vd_text.proofs.Cutting.{then_some, cut_pieces, last_pieces}

-- the rest of a chain, behind a writable piece or not
abbrev pub goes_on : Bool → List Piece → Bool
goes_on true ps = list_all (λ (q : Piece). q.write) ps
goes_on false ps = is_readable_first ps

goes_on_by : (w v : Bool) (p : Piece) (ps : List Piece) → p.write ≡ v → goes_on w (p ∷ ps) ≡ ((v || not w) && goes_on v ps)
goes_on_by true true p ps e = rw e refl
goes_on_by true false p ps e = rw e refl
goes_on_by false true p ps e = rw e refl
goes_on_by false false p ps e = rw e refl

pub goes_on_more : (written : Bool) (p : Piece) (ps : List Piece)
    → goes_on written (p ∷ ps) ≡ ((p.write || not written) && goes_on p.write ps)
goes_on_more written p ps = goes_on_by written p.write p ps refl

-- the pieces of a text go on so
abbrev pub text_goes_on : Bool → Option (List Piece) → Bool
text_goes_on written o = option_map_or (goes_on written) o false

and_false : (b : Bool) → (b && false) ≡ false
and_false true = refl
and_false false = refl

and_true : (b : Bool) → (b && true) ≡ b
and_true true = refl
and_true false = refl

ends : (w : Bool) → goes_on w [] ≡ true
ends true = refl
ends false = refl

more_by : (w : Bool) (p : Piece) (o : Option (List Piece))
    → text_goes_on w (then_some (Some p) o) ≡ ((p.write || not w) && text_goes_on p.write o)
more_by w p None = sym (and_false (p.write || not w))
more_by w p (Some ps) = goes_on_more w p ps

pub text_more : (w : Bool) (text word rest : List ℕ) (p : Piece) → cut 32 text ≡ Some (word, rest) → piece word ≡ Some p
    → text_goes_on w (pieces text) ≡ ((p.write || not w) && text_goes_on p.write (pieces rest))
text_more w text word rest p h e = ap (text_goes_on w) (cut_pieces text word rest h ∙ ap (λ o. then_some o (pieces rest)) e)
    ∙ more_by w p (pieces rest)

pub text_stops : (w : Bool) (text word rest : List ℕ) → cut 32 text ≡ Some (word, rest) → piece word ≡ None
    → text_goes_on w (pieces text) ≡ false
text_stops w text word rest h e = ap (text_goes_on w) (cut_pieces text word rest h ∙ ap (λ o. then_some o (pieces rest)) e)

pub text_last : (w : Bool) (text : List ℕ) (p : Piece) → cut 32 text ≡ None → piece text ≡ Some p
    → text_goes_on w (pieces text) ≡ (p.write || not w)
text_last w text p h e = ap (text_goes_on w) (last_pieces text h ∙ ap (λ o. then_some o (Some [])) e) ∙ goes_on_more w p []
    ∙ ap (λ b. (p.write || not w) && b) (ends p.write) ∙ and_true (p.write || not w)

pub text_last_none : (w : Bool) (text : List ℕ) → cut 32 text ≡ None → piece text ≡ None → text_goes_on w (pieces text) ≡ false
text_last_none w text h e = ap (text_goes_on w) (last_pieces text h ∙ ap (λ o. then_some o (Some [])) e)

-- the pieces of a slice go on so
pub slice_goes_on : (w : Bool) (ps : List Piece) (i : ℕ) (d : Piece) → i < length ps
    → goes_on w (drop i ps) ≡ (((get_or ps i d).write || not w) && goes_on (get_or ps i d).write (drop (i + 1) ps))
slice_goes_on w ps i d h = ap (goes_on w) (drop_more ps i d h) ∙ goes_on_more w (get_or ps i d) (drop (i + 1) ps)

-- a test that each element passes, at each place
pub all_at : {A : Type 0} (p : A → Bool) (xs : List A) (d : A) (k : ℕ) → list_all p xs ≡ true → k < length xs → p (get_or xs k d) ≡ true
all_at p xs d k h below = elim (cases_Bool (p (get_or xs k d))) [
  | inl e ↦ e
  | inr e ↦ absurd (true≢false (sym h ∙ list_all_at p xs k d below e))
]

abbrev writes : Piece → Bool
writes q = q.write

first_step : (p : Piece) (ps : List Piece) (v : Bool) → p.write ≡ v → cond v (list_all writes ps) (is_readable_first ps) ≡ true
    → (is_readable_first ps ≡ true → IsReadableFirst ps) → IsReadableFirst (p ∷ ps)
first_step p ps true e h rest i zero d below within w = absurd (omega arith)
first_step p ps true e h rest i (suc k) d below within w = all_at writes ps d k h (omega arith)
first_step p ps false e h rest zero j d below within w = absurd (false≢true (sym e ∙ w))
first_step p ps false e h rest (suc i) zero d below within w = absurd (omega arith)
first_step p ps false e h rest (suc i) (suc k) d below within w = rest h i k d (omega arith) (omega arith) w

-- the test says that the readable pieces come first
pub readable_first : (ps : List Piece) → is_readable_first ps ≡ true → IsReadableFirst ps
readable_first [] h = λ i j d below within w. absurd (omega arith)
readable_first (p ∷ ps) h = first_step p ps p.write refl h (readable_first ps)
