-- The words of a ring by their two parts.
use Rattle.std.proofs.Common.{◌≡◌, ℕ, List, refl, subst}
use Rattle.vd_words.specs.Plain.{RingWords}

pub words_are : (w : RingWords) (ring : ℕ) (words : List ℕ) → w.ring ≡ ring → w.words ≡ words → w ≡ record { ring = ring; words = words }
words_are w ring words same is = subst (λ (n : ℕ). w ≡ record { ring = n; words = words }) same
    (subst (λ (us : List ℕ). w ≡ record { ring = w.ring; words = us }) is refl)
