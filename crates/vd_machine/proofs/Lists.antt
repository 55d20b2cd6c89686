-- The items of an array as a list.
use Rattle.std.proofs.Common.{◌≡◌, ℕ, List, [], ◌∷◌, map, refl, ap, sym, ◌∙◌, String, Global, Bool, ◌&&◌, string_bytes, count_by, cond, ◌+◌}
use Rattle.std.proofs.lemmas.List.Sums.{sum_by-cons}
use Rattle.std.specs.List.{list_all}
use Rattle.std.proofs.lemmas.List.Folds.{list_all-map}
use Rattle.toml.specs.declared.value.Value.{Value}
use Rattle.toml.specs.View.{view, items_view, members_view}
use Rattle.toml.specs.Data.{Data}
use Rattle.vd_machine.specs.Lookup.{list_of, names_of}

pub list_of-items : (vs : List Value) → list_of (items_view vs) ≡ map view vs
list_of-items [] = refl
list_of-items (v ∷ vs) = ap (λ ds. view v ∷ ds) (list_of-items vs)

-- a test of each key, as the map has them
pub all_names : (p : List ℕ → Bool) (es : List (String Global × Value))
    → list_all p (names_of (members_view es)) ≡ list_all (λ k. p (string_bytes k)) (map (λ e. e.0) es)
all_names p [] = refl
all_names p (e ∷ es) = ap (λ b. p (string_bytes e.0) && b) (all_names p es)

-- a test of each item, as the slice has them
pub all_viewed : (p : Data → Bool) (vs : List Value) (ds : List Data) → map view vs ≡ ds → list_all (λ v. p (view v)) vs ≡ list_all p ds
all_viewed p vs ds e = sym (list_all-map p view vs) ∙ ap (list_all p) e

-- a count of each item, as the slice has them
pub count_viewed : (p : Data → Bool) (vs : List Value) → count_by (λ v. p (view v)) vs ≡ count_by p (map view vs)
count_viewed p [] = refl
count_viewed p (v ∷ vs) = sum_by-cons (λ (w : Value). cond (p (view w)) 1 0) v vs
    ∙ ap (λ n. cond (p (view v)) 1 0 + n) (count_viewed p vs)
    ∙ sym (sum_by-cons (λ d. cond (p d) 1 0) (view v) (map view vs))
