-- Lemmas: what one access does to a row of words.
use Rattle.std.specs.Prelude.{◌≡◌, ℕ, ◌<◌, List, length, refl}
use Rattle.std.proofs.Common.{ap, ◌∙◌, sym, subst}
use Rattle.std.proofs.Math.ListN.{length-set}
use Rattle.vd_words.specs.declared.access.Access.{Access}
use Rattle.vd_words.specs.declared.access.Access.TheVariants.{Load, Store}
use Rattle.vd_words.specs.Plain.{RingWords}
use Rattle.vd_words.specs.Step.{place_of, written, answered, PlainMoves, AreAlike}

pub length_written : (ws : List ℕ) (a : Access) → length (written ws a) ≡ length ws
length_written ws (Load p) = refl
length_written ws (Store p x) = length-set ws p x

pub stays_plain : (s t : RingWords) (a : Access) (r : ℕ) → PlainMoves s a r t → (t.ring ≡ s.ring) × (length t.words ≡ length s.words)
stays_plain s t a r m = (m.0, ap length m.1 ∙ length_written s.words a)

pub count_at : (us ws : List ℕ) → us ≡ ws → length us ≡ length ws
count_at us ws is = ap length is

pub fits_at : (ws us : List ℕ) (a : Access) → us ≡ ws → place_of a < length ws → place_of a < length us
fits_at ws us a is fits = subst (λ (xs : List ℕ). place_of a < length xs) (sym is) fits

pub words_at : (ws : List ℕ) (s t : RingWords) (r : ℕ) (a : Access) → s.words ≡ ws → PlainMoves s a r t → t.words ≡ written ws a
words_at ws s t r a is m = m.1 ∙ ap (λ (xs : List ℕ). written xs a) is

pub answer_at : (ws : List ℕ) (s t : RingWords) (r : ℕ) (a : Access) → s.words ≡ ws → PlainMoves s a r t → r ≡ answered ws a
answer_at ws s t r a is m = m.2 ∙ ap (λ (xs : List ℕ). answered xs a) is

pub alike_trans : (s t u : RingWords) → AreAlike s t → AreAlike t u → AreAlike s u
alike_trans s t u p q = (p.0 ∙ q.0, p.1 ∙ q.1)

pub alike_after : (s t : RingWords) (a : Access) (r : ℕ) → PlainMoves s a r t → AreAlike s t
alike_after s t a r m = (sym m.0, sym (stays_plain s t a r m).1)
