-- The only lane of a floor.
use Rattle.std.proofs.Common.{◌≡◌, Bool, true, false, Option, Some, None, List, [], ◌∷◌, length, set, slice_get, refl, ap, ◌∙◌, arith}
use Rattle.std.specs.Prelude.{is_none, not}
use Rattle.std.specs.List.{list_all}
use Rattle.vd_play.specs.declared.floor.Lane.{Lane}
use Rattle.vd_play.specs.Alone.{is_alone}
use Rattle.vd_play.proofs.Lists.{some_same}

none_of : {A : Type 0} (o : Option A) → is_none o ≡ true → o ≡ None
none_of None is = refl
none_of (Some x) is = absurd (cc)

pub not_of : (a b : Bool) → not a ≡ b → a ≡ not b
not_of true b is = ap not is
not_of false b is = ap not is

module _ {L D E : Type 0} where
  pub alone_one : (lanes : List (Lane L D E)) → is_alone lanes ≡ true → length lanes ≡ 1
  alone_one [] is = absurd (cc)
  alone_one (l ∷ []) is = refl
  alone_one (l ∷ (m ∷ ls)) is = absurd (cc)

  pub alone_pass : (lanes : List (Lane L D E)) (l : Lane L D E) → is_alone lanes ≡ true → slice_get lanes 0 ≡ Some l → l.relaying ≡ None
  alone_pass [] l is at = absurd (cc)
  alone_pass (x ∷ []) l is at = ap (λ (y : Lane L D E). y.relaying) (some_same l x (Some x) at refl) ∙ none_of x.relaying is
  alone_pass (x ∷ (m ∷ ls)) l is at = absurd (cc)

  pub alone_of : (lanes : List (Lane L D E)) (l : Lane L D E) → length lanes ≡ 1 → slice_get lanes 0 ≡ Some l
      → is_none l.relaying ≡ is_alone lanes
  alone_of [] l one at = absurd (omega (arith, one))
  alone_of (x ∷ []) l one at = ap (λ (y : Lane L D E). is_none y.relaying) (some_same l x (Some x) at refl)
  alone_of (x ∷ (m ∷ ls)) l one at = absurd (omega (arith, one))

  pub not_alone : (lanes : List (Lane L D E)) → (length lanes ≡ 1 → ⊥) → false ≡ is_alone lanes
  not_alone [] n = refl
  not_alone (x ∷ []) n = absurd (n refl)
  not_alone (x ∷ (m ∷ ls)) n = refl

-- what holds of the one that is written holds of all
pub all_one : {A : Type 0} (p : A → Bool) (xs : List A) (x : A) → length xs ≡ 1 → p x ≡ true → list_all p (set xs 0 x) ≡ true
all_one p [] x one h = absurd (omega (arith, one))
all_one p (y ∷ []) x one h = grind arith
all_one p (y ∷ (z ∷ xs)) x one h = absurd (omega (arith, one))
