-- What one access does to a row of words.
use Rattle.std.specs.Prelude.{◌≡◌, ℕ, List, slice_index, slice_set, length}
use Rattle.vd_words.specs.declared.access.Access.{Access}
use Rattle.vd_words.specs.declared.access.Access.TheVariants.{Load, Store}
use Rattle.vd_words.specs.Plain.{RingWords}

-- the place of the word
abbrev pub place_of : Access → ℕ
place_of (Load p) = p
place_of (Store p x) = p

-- the words after an access: a load changes nothing, a store that word alone
abbrev pub written : List ℕ → Access → List ℕ
written ws (Load p) = ws
written ws (Store p x) = slice_set ws p x

-- what an access answers
abbrev pub answered : List ℕ → Access → ℕ
answered ws (Load p) = slice_index ws p
answered ws (Store p x) = 0

-- one access of plain words, its answer, and the words after it
abbrev pub PlainMoves : RingWords → Access → ℕ → RingWords → Type 0
PlainMoves s a r t = (t.ring ≡ s.ring) × (t.words ≡ written s.words a) × (r ≡ answered s.words a)

-- the same ring number and as many words
abbrev pub AreAlike : RingWords → RingWords → Type 0
AreAlike s t = (s.ring ≡ t.ring) × (length s.words ≡ length t.words)
