-- The next of a chain's stores.
use Rattle.std.proofs.Common.{◌≡◌, ℕ, ◌+◌, ◌<◌, Bool, List, [], ◌∷◌, ◌++◌, length, take, if◌then◌else◌, slice_index_or, refl, sym, ap, ◌∙◌, arith, inl, inr}
use Rattle.std.proofs.lemmas.Bool.{cases_lt}
use Rattle.std.proofs.lemmas.List.{length_push, take_all, take-append-le, take-take, get_or_push, get_or-take}
use Rattle.vd_model.specs.declared.chain.Piece.{Piece}
use Rattle.vd_model.specs.Chains.{needs}
use Rattle.vd_ring.specs.declared.frame.Frame.{Frame}
use Rattle.vd_ring.specs.declared.frame.Put.{Put}
use Rattle.vd_ring.specs.Frames.{borrowed}
use Rattle.vd_split_ring.specs.SplitWords.{IsLawful, put}

pub borrowed_needs : (f : Frame) (c : List Piece) → IsLawful f → borrowed f c ≡ needs f.features c
borrowed_needs f c l = ap (λ (b : Bool). if b then 1 else needs f.features c) l.split

-- ---- the first of a list, and one more

abbrev at : List Put → ℕ → Put
at ps k = slice_index_or ps k (put 0 0)

pub record IsNext (ps : List Put) (s : Put) (pl : List Put) : Type 0 where
  pub left : length ps < length pl
  pub before : ps ≡ take (length ps) pl
  pub is : s ≡ slice_index_or pl (length ps) (put 0 0)

pub is_next : (ps : List Put) (s : Put) (pl : List Put) → ps ++ s ∷ [] ≡ take (length (ps ++ s ∷ [])) pl → IsNext ps s pl
is_next ps s pl e =
    let k : ℕ = length ps in
    let longer : length (ps ++ s ∷ []) ≡ k + 1 = length_push ps s in
    let both : ps ++ s ∷ [] ≡ take (k + 1) pl = e ∙ ap (λ (n : ℕ). take n pl) longer in
    record {
      left = elim (cases_lt k (length pl)) [
        | inl h ↦ h
        | inr h ↦ absurd (omega (
          arith,
          ap (λ (l : List Put). length l) both,
          ap (λ (l : List Put). length l) (take_all (k + 1) pl (omega arith)),
        ))
      ];
      before = sym (take-append-le k ps (s ∷ []) (omega arith) ∙ take_all k ps (omega arith)) ∙ ap (take k) both
          ∙ take-take k (k + 1) pl (omega arith);
      is = sym (get_or_push ps s (put 0 0) k refl) ∙ ap (λ (l : List Put). at l k) both ∙ get_or-take (k + 1) pl k (put 0 0) (omega arith);
    }
