-- Sums over lists of numbers, the first of a cut list, and that a chain with room finds free places.
use Rattle.std.proofs.Common.{◌≡◌, ℕ, zero, suc, ◌+◌, ◌≤◌, Bool, true, false, List, [], ◌∷◌, length, map, take, if◌then◌else◌, refl, sym, ◌∙◌, ap, arith}
use Rattle.std.specs.List.{sum_by}
use Rattle.std.proofs.lemmas.List.{take-take}
use Rattle.std.proofs.lemmas.List.Sums.{sum_by-cons}
use Rattle.vd_model.specs.declared.chain.Piece.{Piece}
use Rattle.vd_model.specs.Chains.{needs}
use Rattle.vd_ring.specs.declared.frame.Frame.{Frame}
use Rattle.vd_ring.specs.declared.driver.DriverDone.{DriverDone}
use Rattle.vd_ring.specs.Frames.{Fits, borrowed}
use Rattle.vd_ring.specs.Places.{Places}
use Rattle.vd_ring.specs.History.{occurs, first, free, chain, open_at, open_size}
use Rattle.vd_ring.proofs.Counts.{one_same}
use Rattle.vd_ring.proofs.HeldPlaces.{open_below, chain_fits}

pub first_take : (m : ℕ) (xs : List ℕ) → 1 ≤ m → first (take m xs) ≡ first xs
first_take zero xs some = absurd (omega arith)
first_take (suc m) [] some = refl
first_take (suc m) (x ∷ xs) some = refl

pub take_take : {X : Type 0} (i m : ℕ) (xs : List X) → i ≤ m → take i (take m xs) ≡ take i xs
take_take i m xs low = take-take i m xs low

pub sum_map : {X Y : Type 0} (f : Y → ℕ) (h : X → Y) (xs : List X) → sum_by f (map h xs) ≡ sum_by (λ x. f (h x)) xs
sum_map f h [] = refl
sum_map {X} f h (x ∷ xs) = sum_by-cons f (h x) (map h xs) ∙ ap (λ n. f (h x) + n) (sum_map f h xs)
    ∙ sym (sum_by-cons (λ (y : X). f (h y)) x xs)

-- a sum of terms none of which is greater
pub sum_le : (f g : ℕ → ℕ) (xs : List ℕ) → ((k : ℕ) → 1 ≤ occurs k xs → f k ≤ g k) → sum_by f xs ≤ sum_by g xs
sum_le f g [] h = omega arith
sum_le f g (x ∷ xs) h = omega (
  arith,
  sum_by-cons f x xs,
  sum_by-cons g x xs,
  h x (omega (arith, one_same x x refl)),
  sum_le f g xs (λ k some. h k (omega arith)),
)

-- a chain borrows no more than it needs
pub borrowed_le : (f : Frame) (c : List Piece) → Fits f c → borrowed f c ≤ needs f.features c
borrowed_le f c fits = at f.packed f.features.indirect
  where
    at : (x y : Bool) → (if x then 1 else (if y then 1 else length c)) ≤ (if y then 1 else length c)
    at true true = omega arith
    at true false = omega (arith, fits.chain.0)
    at false y = omega arith

-- a chain that has room finds as many free as it borrows
pub room_free : (f : Frame) (o : List DriverDone) (c : List Piece) → Places f o → Fits f c → open_size f o + needs f.features c ≤ f.size
    → borrowed f c ≤ length (free f o)
room_free f o c ok fits room =
    omega (
      arith,
      borrowed_le f c fits,
      ok.sizes,
      sum_le (λ k. borrowed f (chain o k)) (λ k. needs f.features (chain o k)) (open_at o)
          (λ k some. borrowed_le f (chain o k) (chain_fits f o k ok (open_below f o k ok some))),
    )
