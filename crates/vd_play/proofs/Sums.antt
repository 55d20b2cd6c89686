-- Sums over the parties of a bench.
use Rattle.std.proofs.Common.{◌≡◌, ℕ, zero, suc, ◌+◌, ◌*◌, ◌≤◌, Some, List, [], ◌∷◌, length, set, slice_get, refl, ap, arith}
use Rattle.std.specs.List.{sum_by, All}
use Rattle.std.proofs.lemmas.List.Sums.{sum_by-cons}
use Rattle.std.proofs.lemmas.List.Elements.{All-head, All-tail}
use Rattle.vd_play.proofs.Lists.{some_same}

-- one element is written
pub sum_set : {A : Type 0} (f : A → ℕ) (xs : List A) (i : ℕ) (x y : A) → slice_get xs i ≡ Some x
    → sum_by f (set xs i y) + f x ≡ sum_by f xs + f y
sum_set f [] i x y is = absurd (cc)
sum_set f (z ∷ xs) zero x y is = let e : z ≡ x = some_same z x (Some z) refl is in
    omega (arith, sum_by-cons f z xs, sum_by-cons f y xs, ap f e)
sum_set f (z ∷ xs) (suc i) x y is = omega (arith, sum_by-cons f z xs, sum_by-cons f z (set xs i y), sum_set f xs i x y is)

pub sum_none : {A : Type 0} (f : A → ℕ) (xs : List A) → All (λ x. f x ≡ 0) xs → sum_by f xs ≡ 0
sum_none f [] all = refl
sum_none f (x ∷ xs) all = omega (
  arith,
  sum_by-cons f x xs,
  All-head (λ y. f y ≡ 0) x xs all,
  sum_none f xs (All-tail (λ y. f y ≡ 0) x xs all),
)

none_at : {A : Type 0} (f : A → ℕ) (xs : List A) → ((q : ℕ) (x : A) → slice_get xs q ≡ Some x → f x ≡ 0) → sum_by f xs ≡ 0
none_at f [] each = refl
none_at f (x ∷ xs) each = omega (arith, sum_by-cons f x xs, each 0 x refl, none_at f xs (λ q y at. each (suc q) y at))

-- the parties of each of the first places have at most what stands there, and the others nothing
pub sums_low : {A B C D : Type 0} (h : A → ℕ) (f : B → ℕ) (g : C → ℕ) (e : D → ℕ) (ls : List A) (bs : List B) (xs : List C) (ys : List D)
    → length ls ≤ length bs → length ls ≤ length xs → length ys ≡ length ls
    → ((q : ℕ) (a : A) (b : B) (x : C) (y : D) → slice_get ls q ≡ Some a → slice_get bs q ≡ Some b → slice_get xs q ≡ Some x
    → slice_get ys q ≡ Some y → f b + g x + e y ≤ h a)
    → ((q : ℕ) (b : B) → length ls ≤ q → slice_get bs q ≡ Some b → f b ≡ 0)
    → ((q : ℕ) (x : C) → length ls ≤ q → slice_get xs q ≡ Some x → g x ≡ 0)
    → sum_by f bs + sum_by g xs + sum_by e ys ≤ sum_by h ls
sums_low h f g e [] bs xs [] p q r each none_b none_x =
    omega (arith, none_at f bs (λ k b at. none_b k b (omega arith) at), none_at g xs (λ k x at. none_x k x (omega arith) at))
sums_low h f g e [] bs xs (y ∷ ys) p q r each none_b none_x = absurd (omega (arith, r))
sums_low h f g e (a ∷ ls) bs xs [] p q r each none_b none_x = absurd (omega (arith, r))
sums_low h f g e (a ∷ ls) [] xs (y ∷ ys) p q r each none_b none_x = absurd (omega arith)
sums_low h f g e (a ∷ ls) (b ∷ bs) [] (y ∷ ys) p q r each none_b none_x = absurd (omega arith)
sums_low h f g e (a ∷ ls) (b ∷ bs) (x ∷ xs) (y ∷ ys) p q r each none_b none_x =
    omega (
      arith,
      sum_by-cons h a ls,
      sum_by-cons f b bs,
      sum_by-cons g x xs,
      sum_by-cons e y ys,
      each 0 a b x y refl refl refl refl,
      sums_low h f g e ls bs xs ys (omega arith) (omega arith) (omega (arith, r))
          (λ k a' b' x' y' ha hb hx hy. each (suc k) a' b' x' y' ha hb hx hy)
          (λ k b' le at. none_b (suc k) b' (omega arith) at) (λ k x' le at. none_x (suc k) x' (omega arith) at),
    )

-- the same more for each
pub sum_more : {A : Type 0} (f : A → ℕ) (c : ℕ) (xs : List A) → sum_by (λ x. 1024 * (f x + c)) xs ≡ 1024 * (sum_by f xs + length xs * c)
sum_more f c [] = omega arith
sum_more f c (x ∷ xs) = omega (
  arith,
  sum_by-cons (λ y. 1024 * (f y + c)) x xs,
  sum_by-cons f x xs,
  sum_more f c xs,
  Rattle.std.proofs.Math.Nat.suc-mul (length xs) c,
)
