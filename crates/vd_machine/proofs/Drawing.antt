-- Things drawn in turn: what is left to draw, and what all of them keep.
use Rattle.std.proofs.Common.{◌≡◌, ℕ, zero, suc, ◌+◌, ◌-◌, ◌*◌, ◌<◌, ◌≤◌, Bool, true, ◌&&◌, List, [], ◌∷◌, ◌++◌, length, refl, ap, sym, ◌∙◌, subst, arith, append_assoc, append-nil, suc-mul, zero-mul}
use Rattle.std.specs.List.{list_all, sum_by}
use Rattle.std.proofs.lemmas.List.Sums.{sum_by-cons}
use Rattle.vd_machine.specs.Draws.{several}

-- what is drawn already, and what is left of it
pub record IsLeft {A : Type 0} (one : ℕ → A × ℕ) (n x left y : ℕ) (found : List A) : Type 0 where
  pub items : found ++ (several one left y).0 ≡ (several one n x).0
  pub next : (several one left y).1 ≡ (several one n x).1

pub left_first : {A : Type 0} (one : ℕ → A × ℕ) (n x left y : ℕ) → left ≡ n → y ≡ x → IsLeft one n x left y []
left_first one n x left y all same = rw (all, same) (record { items = refl; next = refl })

-- one more is drawn
step : {A : Type 0} (one : ℕ → A × ℕ) (n x m y : ℕ) (found : List A) → IsLeft one n x (suc m) y found
    → IsLeft one n x m (one y).1 (found ++ (one y).0 ∷ [])
unfolding several
step one n x m y found h = record {
  items = append_assoc found ((one y).0 ∷ []) (several one m (one y).1).0 ∙ h.items;
  next = h.next;
}

pub left_less : {A : Type 0} (one : ℕ → A × ℕ) (n x left y : ℕ) (found : List A) (a : A) (z m : ℕ) → left ≡ m + 1 → a ≡ (one y).0
    → z ≡ (one y).1 → IsLeft one n x left y found → IsLeft one n x m z (found ++ a ∷ [])
left_less one n x left y found a z m less is next h =
    let more : left ≡ suc m = omega arith in
    let moved = step one n x m y found (subst (λ (k : ℕ). IsLeft one n x k y found) more h) in
    subst (λ (k : ℕ). IsLeft one n x m k (found ++ a ∷ [])) (sym next)
    (subst (λ (b : _). IsLeft one n x m (one y).1 (found ++ b ∷ [])) (sym is) moved)

-- nothing is left

pub record AreDrawn {A : Type 0} (one : ℕ → A × ℕ) (n x y : ℕ) (found : List A) : Type 0 where
  pub items : found ≡ (several one n x).0
  pub next : y ≡ (several one n x).1

end : {A : Type 0} (one : ℕ → A × ℕ) (n x y : ℕ) (found : List A) → IsLeft one n x zero y found → AreDrawn one n x y found
unfolding several
end one n x y found h = record { items = sym (append-nil found) ∙ h.items; next = h.next }

pub left_none : {A : Type 0} (one : ℕ → A × ℕ) (n x left y : ℕ) (found : List A) → left ≡ 0 → IsLeft one n x left y found
    → AreDrawn one n x y found
left_none one n x left y found none h = end one n x y found (rw none at h)

-- all pass a test where each does that is drawn
pub all_drawn : {A : Type 0} (one : ℕ → A × ℕ) (p : A → Bool) → ((x : ℕ) → p (one x).0 ≡ true) → (n x : ℕ)
    → list_all p (several one n x).0 ≡ true
unfolding several
all_drawn one p each zero x = refl
all_drawn one p each (suc n) x = rw (each x) (all_drawn one p each n (one x).1)

pub so_many : {A : Type 0} (one : ℕ → A × ℕ) (n x : ℕ) → length (several one n x).0 ≡ n
unfolding several
so_many one zero x = refl
so_many one (suc n) x = ap suc (so_many one n (one x).1)

-- no more than so much each
pub sum_at_most : {A : Type 0} (one : ℕ → A × ℕ) (f : A → ℕ) (most : ℕ) → ((x : ℕ) → f (one x).0 ≤ most) → (n x : ℕ)
    → sum_by f (several one n x).0 ≤ n * most
unfolding several
sum_at_most one f most each zero x = omega arith
sum_at_most one f most each (suc n) x =
    let sum = sum_by-cons f (one x).0 (several one n (one x).1).0 in
    let rest = sum_at_most one f most each n (one x).1 in
    let all = suc-mul n most in
    omega (arith, sum, rest, all, each x)

-- the same each
pub sum_of_same : {A : Type 0} (one : ℕ → A × ℕ) (f : A → ℕ) (same : ℕ) → ((x : ℕ) → f (one x).0 ≡ same) → (n x : ℕ)
    → sum_by f (several one n x).0 ≡ n * same
unfolding several
sum_of_same one f same each zero x = sym (zero-mul same)
sum_of_same one f same each (suc n) x =
    let sum = sum_by-cons f (one x).0 (several one n (one x).1).0 in
    let rest = sum_of_same one f same each n (one x).1 in
    let all = suc-mul n same in
    omega (arith, sum, rest, all, each x)
