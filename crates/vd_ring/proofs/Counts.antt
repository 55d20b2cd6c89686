-- How often a number stands in a list, and sums over lists of numbers.
use Rattle.std.proofs.Common.{◌≡◌, ℕ, zero, suc, ◌+◌, ◌<◌, ◌≤◌, ◌==◌, Bool, true, false, List, [], ◌∷◌, ◌++◌, length, take, drop, if◌then◌else◌, nat_lt, slice_index, slice_index_or, refl, sym, ap, ◌∙◌, arith, inl, inr}
use Rattle.std.specs.List.{Contains, sum_by}
use Rattle.std.proofs.lemmas.Bool.{cases_eq, cases_lt, eq-eqb, ne_eqb, lt-ltb, le-ltb}
use Rattle.std.proofs.lemmas.List.{length-append, take-append-drop}
use Rattle.std.proofs.lemmas.List.Sums.{sum_by-cons}
use Rattle.vd_ring.specs.History.{occurs, without, upto, with_head, first}

abbrev pub one : Bool → ℕ
one b = if b then 1 else 0

pub one_same : (x k : ℕ) → x ≡ k → one (x == k) ≡ 1
one_same x k e = ap one (eq-eqb x k e)

pub one_other : (x k : ℕ) → (x ≡ k → ⊥) → one (x == k) ≡ 0
one_other x k e = ap one (ne_eqb x k e)

pub one_small : (b : Bool) → one b ≤ 1
one_small true = omega arith
one_small false = omega arith

pub one_below : (k n : ℕ) → k < n → one (nat_lt k n) ≡ 1
one_below k n h = ap one (lt-ltb k n h)

pub one_above : (k n : ℕ) → n ≤ k → one (nat_lt k n) ≡ 0
one_above k n h = ap one (le-ltb k n h)

pub one_more : (k n : ℕ) → one (nat_lt k (n + 1)) ≡ one (nat_lt k n) + one (n == k)
one_more k n = elim (cases_lt k n) [
  | inl h ↦ omega (arith, one_below k n h, one_below k (n + 1) (omega arith), one_other n k (λ e. omega arith))
  | inr h ↦ elim (cases_eq n k) [
    | inl e ↦ omega (arith, one_above k n h, one_below k (n + 1) (omega arith), one_same n k e)
    | inr ne ↦ omega (
      arith,
      one_above k n h,
      one_above k (n + 1) (elim (cases_lt n k) [ inl a ↦ omega arith | inr b ↦ absurd (ne (omega arith)) ]),
      one_other n k ne,
    )
  ]
]

pub occurs-append : (k : ℕ) (xs ys : List ℕ) → occurs k (xs ++ ys) ≡ occurs k xs + occurs k ys
occurs-append k [] ys = omega arith
occurs-append k (x ∷ xs) ys = omega (arith, occurs-append k xs ys)

pub occurs_push : (k : ℕ) (xs : List ℕ) (y : ℕ) → occurs k (xs ++ y ∷ []) ≡ occurs k xs + one (y == k)
occurs_push k xs y = omega (arith, occurs-append k xs (y ∷ []))

pub occurs_parts : (k n : ℕ) (xs : List ℕ) → occurs k (take n xs) + occurs k (drop n xs) ≡ occurs k xs
occurs_parts k n xs = sym (occurs-append k (take n xs) (drop n xs)) ∙ ap (occurs k) (take-append-drop n xs)

pub occurs_from : (k : ℕ) (xs : List ℕ) → Contains xs k → 1 ≤ occurs k xs
occurs_from k [] h = absurd (omega arith)
occurs_from k (x ∷ xs) (zero, below, is) = omega (arith, one_same x k is)
occurs_from k (x ∷ xs) (suc i, below, is) = omega (arith, occurs_from k xs (i, omega arith, is))

pub Contains_from : (k : ℕ) (xs : List ℕ) → 1 ≤ occurs k xs → Contains xs k
Contains_from k [] h = absurd (omega arith)
Contains_from k (x ∷ xs) h = elim (cases_eq x k) [
  | inl e ↦ (0, omega arith, e)
  | inr ne ↦ (let r = Contains_from k xs (omega (arith, one_other x k ne)) in (suc r.0, omega arith, r.2))
]

pub sum_without : (f : ℕ → ℕ) (k : ℕ) (xs : List ℕ) → 1 ≤ occurs k xs → sum_by f (without k xs) + f k ≡ sum_by f xs
sum_without f k [] h = absurd (omega arith)
sum_without f k (x ∷ xs) h = elim (cases_eq x k) [
  | inl e ↦ rw (eq-eqb x k e) (omega (arith, sum_by-cons f x xs, ap f e))
  | inr ne ↦ rw (ne_eqb x k ne) (omega (
    arith,
    sum_by-cons f x xs,
    sum_by-cons f x (without k xs),
    sum_without f k xs (omega (arith, one_other x k ne)),
  ))
]

pub length_without : (k : ℕ) (xs : List ℕ) → 1 ≤ occurs k xs → length (without k xs) + 1 ≡ length xs
length_without k [] h = absurd (omega arith)
length_without k (x ∷ xs) h = elim (cases_eq x k) [
  | inl e ↦ rw (eq-eqb x k e) (omega arith)
  | inr ne ↦ rw (ne_eqb x k ne) (omega (arith, length_without k xs (omega (arith, one_other x k ne))))
]

pub occurs_without : (j k : ℕ) (xs : List ℕ) → 1 ≤ occurs k xs → occurs j (without k xs) + one (k == j) ≡ occurs j xs
occurs_without j k [] h = absurd (omega arith)
occurs_without j k (x ∷ xs) h = elim (cases_eq x k) [
  | inl e ↦ rw (eq-eqb x k e) (omega (arith, ap (λ y. one (y == j)) e))
  | inr ne ↦ rw (ne_eqb x k ne) (omega (arith, occurs_without j k xs (omega (arith, one_other x k ne))))
]

-- a list within another has no greater sum
pub sum_within : (f : ℕ → ℕ) (xs ys : List ℕ) → ((k : ℕ) → occurs k xs ≤ occurs k ys) → sum_by f xs ≤ sum_by f ys
sum_within f [] ys h = omega arith
sum_within f (x ∷ xs) ys h =
    let here : 1 ≤ occurs x ys = omega (arith, h x, one_same x x refl) in
    let rest = sum_within f xs (without x ys) (λ k. omega (arith, h k, occurs_without k x ys here)) in
    omega (arith, rest, sum_without f x ys here, sum_by-cons f x xs)

pub sum_same : (f g : ℕ → ℕ) (xs : List ℕ) → ((k : ℕ) → 1 ≤ occurs k xs → f k ≡ g k) → sum_by f xs ≡ sum_by g xs
sum_same f g [] h = refl
sum_same f g (x ∷ xs) h = omega (
  arith,
  sum_by-cons f x xs,
  sum_by-cons g x xs,
  h x (omega (arith, one_same x x refl)),
  sum_same f g xs (λ k a. h k (omega arith)),
)

-- each is at least one
pub sum_at_least : (f : ℕ → ℕ) (xs : List ℕ) → ((k : ℕ) → 1 ≤ occurs k xs → 1 ≤ f k) → length xs ≤ sum_by f xs
sum_at_least f [] h = omega arith
sum_at_least f (x ∷ xs) h = omega (
  arith,
  sum_by-cons f x xs,
  h x (omega (arith, one_same x x refl)),
  sum_at_least f xs (λ k a. h k (omega arith)),
)

-- one of them, and two of them, are at most the sum
pub sum_one : (f : ℕ → ℕ) (k : ℕ) (xs : List ℕ) → 1 ≤ occurs k xs → f k ≤ sum_by f xs
sum_one f k xs h = omega (arith, sum_without f k xs h)

pub sum_two : (f : ℕ → ℕ) (j k : ℕ) (xs : List ℕ) → 1 ≤ occurs j xs → 1 ≤ occurs k xs → (j ≡ k → ⊥) → f j + f k ≤ sum_by f xs
sum_two f j k xs a b ne = omega (
  arith,
  sum_without f j xs a,
  sum_one f k (without j xs) (omega (arith, occurs_without k j xs a, one_other j k ne)),
)

pub length_upto : (n : ℕ) → length (upto n) ≡ n
length_upto zero = refl
length_upto (suc n) = omega (arith, length-append (upto n) (n ∷ []), length_upto n)

pub occurs_upto : (p n : ℕ) → occurs p (upto n) ≡ one (nat_lt p n)
occurs_upto p zero = sym (one_above p 0 (omega arith))
occurs_upto p (suc n) = omega (
  arith,
  occurs_push p (upto n) n,
  occurs_upto p n,
  ap (λ m. one (nat_lt p m)) (let e : n + 1 ≡ suc n = omega arith in e),
  one_more p n,
)

pub with_head_is : (head : ℕ → ℕ) (xs : List ℕ) (h k : ℕ) → head k ≡ h → 1 ≤ occurs k xs
    → ((j : ℕ) → 1 ≤ occurs j xs → head j ≡ h → j ≡ k) → with_head head xs h ≡ k
with_head_is head [] h k is here only = absurd (omega arith)
with_head_is head (x ∷ xs) h k is here only = elim (cases_eq (head x) h) [
  | inl e ↦ rw (eq-eqb (head x) h e) (only x (omega (arith, one_same x x refl)) e)
  | inr ne ↦ rw (ne_eqb (head x) h ne)
      (with_head_is head xs h k is (elim (cases_eq x k) [
        | inl e ↦ absurd (ne (ap head e ∙ is))
        | inr nx ↦ omega (
          arith,
          one_other x k nx,
        )
      ]) (λ j a. only j (omega arith)))
]

pub first_occurs : (xs : List ℕ) → 1 ≤ length xs → 1 ≤ occurs (first xs) xs
first_occurs [] h = absurd (omega arith)
first_occurs (x ∷ xs) h = omega (arith, one_same x x refl)

-- a number at a place stands once more than before it
pub occurs_before : (xs : List ℕ) (m k : ℕ) → m < length xs → slice_index xs m ≡ k → occurs k (take m xs) + 1 ≤ occurs k xs
occurs_before [] m k h e = absurd (omega arith)
occurs_before (x ∷ xs) zero k h e = omega (arith, one_same x k e)
occurs_before (x ∷ xs) (suc m) k h e = omega (arith, occurs_before xs m k (omega arith) e)

pub occurs_some : (k : ℕ) (xs : List ℕ) → 1 ≤ occurs k xs → 1 ≤ length xs
occurs_some k [] h = absurd (omega arith)
occurs_some k (x ∷ xs) h = omega arith

pub occurs_at : (xs : List ℕ) (k d : ℕ) → k < length xs → 1 ≤ occurs (slice_index_or xs k d) xs
occurs_at [] k d h = absurd (omega arith)
occurs_at (x ∷ xs) zero d h = omega (arith, one_same x x refl)
occurs_at (x ∷ xs) (suc k) d h = omega (arith, occurs_at xs k d (omega arith))

-- where all numbers below m stand in a list, there is room for no more others than it is longer
pub occurs_rest : (m j : ℕ) (xs : List ℕ) → m ≤ j → ((k : ℕ) → k < m → 1 ≤ occurs k xs) → occurs j xs + m ≤ length xs
occurs_rest zero j [] h all = omega arith
occurs_rest zero j (x ∷ xs) h all = omega (arith, occurs_rest zero j xs h (λ k a. absurd (omega arith)), one_small (x == j))
occurs_rest (suc m) j xs h all =
    let here : 1 ≤ occurs m xs = all m (omega arith) in
    let rest = occurs_rest m j (without m xs) (omega arith)
    (λ k a. omega (arith, all k (omega arith), occurs_without k m xs here, one_other m k (λ e. omega arith))) in
    omega (arith, rest, length_without m xs here, occurs_without j m xs here, one_other m j (λ e. omega arith))
