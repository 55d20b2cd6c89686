-- Each place is free or held by one open chain: what an offer and a collect do to it, and what follows.
use Rattle.std.proofs.Common.{◌≡◌, ℕ, ◌+◌, ◌<◌, ◌≤◌, Bool, true, false, List, [], ◌∷◌, ◌++◌, length, take, if◌then◌else◌, nat_lt, refl, sym, ap, ◌∙◌, subst, arith, inl, inr}
use Rattle.std.specs.List.{All, Contains, sum_by}
use Rattle.std.proofs.lemmas.Bool.{cases_eq, cases_lt}
use Rattle.std.proofs.lemmas.List.{length-append, length-drop, length-take-le, length_push, get_or_append_left, get_or_push, map-append, append-nil}
use Rattle.std.proofs.lemmas.List.Sums.{sum_by_push}
use Rattle.std.proofs.lemmas.List.Elements.{All-push}
use Rattle.vd_model.specs.declared.chain.Piece.{Piece}
use Rattle.vd_ring.specs.declared.frame.Frame.{Frame}
use Rattle.vd_ring.specs.declared.frame.Used.{Used}
use Rattle.vd_ring.specs.declared.driver.DriverDone.{DriverDone}
use Rattle.vd_ring.specs.declared.driver.DriverDone.TheVariants.{Offer, Collect}
use Rattle.vd_ring.specs.Frames.{Fits, borrowed, limit}
use Rattle.vd_ring.specs.History.{offers, collects, open_at, held, free, places, head, chain, numbers, occurs, places_at}
use Rattle.vd_ring.specs.Places.{Places}
use Rattle.vd_ring.proofs.Counts.{one, one_more, one_small, one_above, occurs-append, occurs_push, occurs_parts, sum_without, length_without, occurs_without, sum_same, sum_one, sum_two, sum_at_least, first_occurs}

pub open_below : (f : Frame) (o : List DriverDone) (k : ℕ) → Places f o → 1 ≤ occurs k (open_at o) → k < length (offers o)
open_below f o k p h = elim (cases_lt k (length (offers o))) [
  | inl a ↦ a
  | inr a ↦ absurd (omega (arith, p.is_open k, one_above k (length (offers o)) a))
]

pub borrowed_some : (f : Frame) (c : List Piece) → Fits f c → 1 ≤ borrowed f c
borrowed_some f c h = some f.packed f.features.indirect (length c) h.chain.0
  where
    some : (packed b : Bool) (n : ℕ) → 0 < n → 1 ≤ (if packed then 1 else if b then 1 else n)
    some true b n h = omega arith
    some false true n h = omega arith
    some false false n h = h

pub chain_fits : (f : Frame) (o : List DriverDone) (k : ℕ) → Places f o → k < length (offers o) → Fits f (chain o k)
chain_fits f o k p h = p.fits k [] h

-- as many chains are open as there are places, at most
pub few_open : (f : Frame) (o : List DriverDone) → Places f o → length (open_at o) + length (free f o) ≤ f.size
few_open f o p =
    omega (
      arith,
      p.sizes,
      sum_at_least (λ k. borrowed f (chain o k)) (open_at o)
          (λ k a. borrowed_some f (chain o k) (chain_fits f o k p (open_below f o k p a))),
    )

pub places_before : (f : Frame) (o : List DriverDone) (c : List Piece) (k : ℕ) → Places f o → k < length (offers o)
    → places f (Offer c ∷ o) k ≡ places f o k
places_before f o c k p h = get_or_append_left (held f o).1 (take (borrowed f c) (free f o) ∷ []) [] k (omega (arith, p.listed))

pub places_new : (f : Frame) (o : List DriverDone) (c : List Piece) → Places f o
    → places f (Offer c ∷ o) (length (offers o)) ≡ take (borrowed f c) (free f o)
places_new f o c p = get_or_push (held f o).1 (take (borrowed f c) (free f o)) [] (length (offers o)) p.listed

pub chain_before : (o : List DriverDone) (c : List Piece) (k : ℕ) → k < length (offers o) → chain (Offer c ∷ o) k ≡ chain o k
chain_before o c k h = get_or_append_left (offers o) (c ∷ []) [] k h

pub chain_new : (o : List DriverDone) (c : List Piece) → chain (Offer c ∷ o) (length (offers o)) ≡ c
chain_new o c = get_or_push (offers o) c [] (length (offers o)) refl

-- a sum over the open chains after an offer
offered_sum : (f : Frame) (o : List DriverDone) (c : List Piece) (g h : ℕ → ℕ) → Places f o
    → ((k : ℕ) → k < length (offers o) → h k ≡ g k) → sum_by h (open_at (Offer c ∷ o)) ≡ sum_by g (open_at o) + h (length (offers o))
offered_sum f o c g h p same =
    omega (arith, sum_by_push h (open_at o) (length (offers o)), sum_same h g (open_at o) (λ k a. same k (open_below f o k p a)))

pub offer_places : (f : Frame) (o : List DriverDone) (c : List Piece) → Places f o → Fits f c → borrowed f c ≤ length (free f o)
    → length (offers o) < limit f → Places f (Offer c ∷ o)
offer_places f o c p fits room below =
    let m : ℕ = length (offers o) in
    let len : length (take (borrowed f c) (free f o)) ≡ borrowed f c = length-take-le (borrowed f c) (free f o) room in
    let longer : length (offers o ++ c ∷ []) ≡ m + 1 = length_push (offers o) c in
    record {
      once = λ q.
          omega (
            arith,
            p.once q,
            occurs_parts q (borrowed f c) (free f o),
            ap (occurs q) (places_new f o c p),
            offered_sum f o c (λ k. occurs q (places f o k)) (λ k. occurs q (places f (Offer c ∷ o) k)) p
                (λ k h. ap (occurs q) (places_before f o c k p h)),
          );
      sizes =
          omega (
            arith,
            p.sizes,
            length-drop (borrowed f c) (free f o),
            room,
            ap (borrowed f) (chain_new o c),
            offered_sum f o c (λ k. borrowed f (chain o k)) (λ k. borrowed f (chain (Offer c ∷ o) k)) p
                (λ k h. ap (borrowed f) (chain_before o c k h)),
          );
      as_many = λ k inside. elim (cases_eq m k) [
        | inl e ↦ subst (λ (j : ℕ). length (places f (Offer c ∷ o) j) ≡ borrowed f (chain (Offer c ∷ o) j)) e
            (ap length (places_new f o c p) ∙ len ∙ ap (borrowed f) (sym (chain_new o c)))
        | inr ne ↦ (let h : k < m = elim (cases_lt k m) [ inl a ↦ a | inr a ↦ absurd (ne (omega arith)) ] in
            ap length (places_before f o c k p h) ∙ p.as_many k h ∙ ap (borrowed f) (sym (chain_before o c k h)))
      ];
      listed = omega (arith, p.listed, length_push (held f o).1 (take (borrowed f c) (free f o)));
      is_open = λ k. omega (arith, p.is_open k, occurs_push k (open_at o) m, one_more k m, ap (λ j. one (nat_lt k j)) longer);
      count = omega (arith, p.count, length_push (open_at o) m);
      fits = All-push (Fits f) (offers o) c p.fits fits;
      limited = omega (arith, below);
    }

pub numbers_push : (us : List Used) (u : Used) (k : ℕ) → occurs k (numbers (us ++ u ∷ [])) ≡ occurs k (numbers us)
    + one (Rattle.std.specs.Prelude.◌==◌ u.number k)
numbers_push us u k = ap (occurs k) (map-append (λ (v : Used). v.number) us (u ∷ [])) ∙ occurs_push k (numbers us) u.number

pub collect_places : (f : Frame) (o : List DriverDone) (u : Used) → Places f o → 1 ≤ occurs u.number (open_at o)
    → Places f (Collect (u ∷ []) ∷ o)
collect_places f o u p here =
    let m : ℕ = length (offers o) in
    let k : ℕ = u.number in
    let back : places_at (held f o).1 k ++ [] ≡ places f o k = append-nil (places f o k) in
    record {
      once = λ q.
          omega (
            arith,
            p.once q,
            occurs-append q (free f o) (places_at (held f o).1 k ++ []),
            ap (occurs q) back,
            sum_without (λ j. occurs q (places f o j)) k (open_at o) here,
          );
      sizes =
          omega (
            arith,
            p.sizes,
            length-append (free f o) (places_at (held f o).1 k ++ []),
            ap length back,
            p.as_many k (open_below f o k p here),
            sum_without (λ j. borrowed f (chain o j)) k (open_at o) here,
          );
      as_many = p.as_many;
      listed = p.listed;
      is_open = λ j. omega (arith, p.is_open j, occurs_without j k (open_at o) here, numbers_push (collects o) u j);
      count = omega (arith, p.count, length_without k (open_at o) here, length_push (collects o) u);
      fits = p.fits;
      limited = p.limited;
    }

-- ---- what follows

pub free_apart : (f : Frame) (o : List DriverDone) (k q : ℕ) → Places f o → 1 ≤ occurs k (open_at o) → 1 ≤ occurs q (free f o)
    → occurs q (places f o k) ≡ 0
free_apart f o k q p a b = omega (arith, p.once q, one_small (nat_lt q f.size), sum_one (λ j. occurs q (places f o j)) k (open_at o) a)

pub free_once : (f : Frame) (o : List DriverDone) (q : ℕ) → Places f o → occurs q (free f o) ≤ 1
free_once f o q p = omega (arith, p.once q, one_small (nat_lt q f.size))

pub free_inside : (f : Frame) (o : List DriverDone) (q : ℕ) → Places f o → 1 ≤ occurs q (free f o) → q < f.size
free_inside f o q p a = elim (cases_lt q f.size) [ inl h ↦ h | inr h ↦ absurd (omega (arith, p.once q, one_above q f.size h)) ]

pub places_once : (f : Frame) (o : List DriverDone) (k q : ℕ) → Places f o → 1 ≤ occurs k (open_at o) → occurs q (places f o k) ≤ 1
places_once f o k q p a = omega (arith, p.once q, one_small (nat_lt q f.size), sum_one (λ j. occurs q (places f o j)) k (open_at o) a)

pub places_inside : (f : Frame) (o : List DriverDone) (k q : ℕ) → Places f o → 1 ≤ occurs k (open_at o) → 1 ≤ occurs q (places f o k)
    → q < f.size
places_inside f o k q p a b = elim
    (cases_lt q f.size) [
      | inl h ↦ h
      | inr h ↦ absurd
          (omega (arith, p.once q, one_above q f.size h, sum_one (λ j. occurs q (places f o j)) k (open_at o) a))
    ]

pub places_apart : (f : Frame) (o : List DriverDone) (j k q : ℕ) → Places f o → 1 ≤ occurs j (open_at o) → 1 ≤ occurs k (open_at o)
    → 1 ≤ occurs q (places f o j) → 1 ≤ occurs q (places f o k) → j ≡ k
places_apart f o j k q p a b h i = elim (cases_eq j k) [
  | inl e ↦ e
  | inr ne ↦ absurd (omega (arith, p.once q, one_small (nat_lt q f.size), sum_two (λ l. occurs q (places f o l)) j k (open_at o) a b ne))
]

-- the head of an open chain is one of its places, and of no other open chain
pub head_held : (f : Frame) (o : List DriverDone) (k : ℕ) → Places f o → 1 ≤ occurs k (open_at o) → 1 ≤ occurs (head f o k) (places f o k)
head_held f o k p a =
    let below : k < length (offers o) = open_below f o k p a in
    first_occurs (places f o k) (omega (arith, p.as_many k below, borrowed_some f (chain o k) (chain_fits f o k p below)))

pub head_inside : (f : Frame) (o : List DriverDone) (k : ℕ) → Places f o → 1 ≤ occurs k (open_at o) → head f o k < f.size
head_inside f o k p a = places_inside f o k (head f o k) p a (head_held f o k p a)

pub same_head : (f : Frame) (o : List DriverDone) (j k : ℕ) → Places f o → 1 ≤ occurs j (open_at o) → 1 ≤ occurs k (open_at o)
    → head f o j ≡ head f o k → j ≡ k
same_head f o j k p a b e = places_apart f o j k (head f o j) p a b (head_held f o j p a)
    (subst (λ h. 1 ≤ occurs h (places f o k)) (sym e) (head_held f o k p b))
