-- Each place that is free or was held is one of the ring's: this holds of the driver's acts alone.
use Rattle.std.proofs.Common.{◌≡◌, ℕ, ◌<◌, ◌≤◌, List, [], ◌∷◌, ◌++◌, length, take, refl, ap, subst, arith, inl, inr}
use Rattle.std.proofs.lemmas.Bool.{cases_lt, cases_eq}
use Rattle.std.proofs.lemmas.List.{get_or_append_left, get_or_push, get_or_past, length_push}
use Rattle.vd_ring.specs.declared.frame.Frame.{Frame}
use Rattle.vd_ring.specs.declared.frame.Used.{Used}
use Rattle.vd_ring.specs.declared.driver.DriverDone.{DriverDone}
use Rattle.vd_ring.specs.declared.driver.DriverDone.TheVariants.{Offer, Collect, StoreCommand, LoadAck}
use Rattle.vd_ring.specs.Frames.{borrowed}
use Rattle.vd_ring.specs.History.{held, free, places, head, next_head, places_at, places_back, first, occurs}
use Rattle.vd_ring.proofs.Counts.{one_same, one_above, occurs-append, occurs_parts, occurs_upto}

pub record Inside (f : Frame) (o : List DriverDone) : Type 0 where
  pub free : (q : ℕ) → 1 ≤ occurs q (held f o).0 → q < f.size
  pub places : (k q : ℕ) → 1 ≤ occurs q (places_at (held f o).1 k) → q < f.size

back_inside : (n : ℕ) (pl : List (List ℕ)) (us : List Used) (q : ℕ) → ((k r : ℕ) → 1 ≤ occurs r (places_at pl k) → r < n)
    → 1 ≤ occurs q (places_back pl us) → q < n
back_inside n pl [] q h a = absurd (omega arith)
back_inside n pl (u ∷ us) q h a = elim (cases_lt 0 (occurs q (places_at pl u.number))) [
  | inl b ↦ h u.number q b
  | inr b ↦ back_inside n pl us q h (omega (arith, occurs-append q (places_at pl u.number) (places_back pl us)))
]

pub inside : (f : Frame) (o : List DriverDone) → Inside f o
inside f [] = record {
  free = λ q a. elim (cases_lt q f.size) [ inl h ↦ h | inr h ↦ absurd (omega (arith, occurs_upto q f.size, one_above q f.size h)) ];
  places = λ k q a. absurd (omega arith);
}
inside f (Offer c ∷ o) = let i = inside f o in record {
  free = λ q a. i.free q (omega (arith, occurs_parts q (borrowed f c) (held f o).0));
  places = λ k q a. elim (cases_lt k (length (held f o).1)) [
    | inl h ↦ i.places k q (subst (λ ps. 1 ≤ occurs q ps)
        (get_or_append_left (held f o).1 (take (borrowed f c) (held f o).0 ∷ []) [] k h) a)
    | inr h ↦ elim (cases_eq (length (held f o).1) k) [
      | inl e ↦ i.free q (omega (
        arith,
        occurs_parts q (borrowed f c) (held f o).0,
        ap (occurs q) (get_or_push (held f o).1 (take (borrowed f c) (held f o).0) [] k e),
      ))
      | inr ne ↦ absurd (omega (
        arith,
        ap (occurs q) (get_or_past ((held f o).1 ++ take (borrowed f c) (held f o).0 ∷ []) k [] (past k h ne)),
      ))
    ]
  ];
}
  where
    past : (k : ℕ) → length (held f o).1 ≤ k → (length (held f o).1 ≡ k → ⊥)
        → length ((held f o).1 ++ take (borrowed f c) (held f o).0 ∷ []) ≤ k
    past k h ne = elim (cases_lt (length (held f o).1) k)
        [ inl a ↦ omega (arith, length_push (held f o).1 (take (borrowed f c) (held f o).0)) | inr a ↦ absurd (ne (omega arith)) ]
inside f (Collect us ∷ o) = let i = inside f o in record {
  free = λ q a. elim (cases_lt 0 (occurs q (held f o).0)) [
    | inl h ↦ i.free q h
    | inr h ↦ back_inside f.size (held f o).1 us q i.places (omega (arith, occurs-append q (held f o).0 (places_back (held f o).1 us)))
  ];
  places = i.places;
}
inside f (StoreCommand h j x ∷ o) = let i = inside f o in record { free = i.free; places = i.places }
inside f (LoadAck k x ∷ o) = let i = inside f o in record { free = i.free; places = i.places }

first_inside : (n : ℕ) (xs : List ℕ) → 0 < n → ((q : ℕ) → 1 ≤ occurs q xs → q < n) → first xs < n
first_inside n [] pos h = pos
first_inside n (x ∷ xs) pos h = h x (omega (arith, one_same x x refl))

-- a head is one of the ring's places
pub head_low : (f : Frame) (o : List DriverDone) (k : ℕ) → 0 < f.size → head f o k < f.size
head_low f o k pos = first_inside f.size (places f o k) pos (λ q a. (inside f o).places k q a)

pub next_low : (f : Frame) (o : List DriverDone) → 0 < f.size → next_head f o < f.size
next_low f o pos = first_inside f.size (free f o) pos (λ q a. (inside f o).free q a)
