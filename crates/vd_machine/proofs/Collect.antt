-- Reading each element of a list, one after the other, until one can't be read.
use Rattle.std.proofs.Common.{◌≡◌, ℕ, ◌+◌, ◌<◌, List, [], ◌∷◌, ◌++◌, length, get_or, drop, map, Option, Some, None, option_map, refl, ap, ◌∙◌, append_assoc, append-nil}
use Rattle.std.proofs.lemmas.List.{drop_more}
use Rattle.vd_text.specs.Grammar.{all_some}

-- what was found, and what is found in the rest
abbrev pub after : {A : Type 0} → List A → Option (List A) → Option (List A)
after found o = option_map (λ xs. found ++ xs) o

after_more : {A : Type 0} (found : List A) (x : A) (o : Option (List A))
    → after found (option_map (λ xs. x ∷ xs) o) ≡ after (found ++ x ∷ []) o
after_more found x None = refl
after_more found x (Some xs) = rw append_assoc refl

pub after_none : {A : Type 0} (o : Option (List A)) → after [] o ≡ o
after_none None = refl
after_none (Some xs) = refl

module _ {V A : Type 0} (f : V → Option A) (vs : List V) where
  abbrev pub read_rest : ℕ → Option (List A)
  read_rest i = all_some (map f (drop i vs))

  at_index : (i : ℕ) (d : V) → i < length vs → read_rest i ≡ all_some (f (get_or vs i d) ∷ map f (drop (i + 1) vs))
  at_index i d h = ap (λ l. all_some (map f l)) (drop_more vs i d h)

  pub read_more : (found : List A) (i : ℕ) (d : V) (x : A) → i < length vs → f (get_or vs i d) ≡ Some x
      → after found (read_rest i) ≡ after (found ++ x ∷ []) (read_rest (i + 1))
  read_more found i d x h e = ap (after found) (at_index i d h ∙ ap (λ o. all_some (o ∷ map f (drop (i + 1) vs))) e)
      ∙ after_more found x (read_rest (i + 1))

  pub read_stop : (found : List A) (i : ℕ) (d : V) → i < length vs → f (get_or vs i d) ≡ None → after found (read_rest i) ≡ None
  read_stop found i d h e = ap (after found) (at_index i d h ∙ ap (λ o. all_some (o ∷ map f (drop (i + 1) vs))) e)

  pub read_end : (found : List A) (i : ℕ) → drop i vs ≡ [] → after found (read_rest i) ≡ Some found
  read_end found i e = ap (λ l. after found (all_some (map f l))) e ∙ ap Some (append-nil found)

map_twice : {V W A : Type 0} (p : W → A) (g : V → W) (vs : List V) → map (λ v. p (g v)) vs ≡ map p (map g vs)
map_twice p g [] = refl
map_twice p g (v ∷ vs) = ap (λ l. p (g v) ∷ l) (map_twice p g vs)

-- nothing was found yet
pub read_start : {V W A : Type 0} (p : W → Option A) (g : V → W) (vs : List V)
    → after [] (read_rest (λ v. p (g v)) vs 0) ≡ all_some (map p (map g vs))
read_start p g vs = after_none (all_some (map (λ v. p (g v)) vs)) ∙ ap all_some (map_twice p g vs)
