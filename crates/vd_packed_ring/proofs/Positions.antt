-- Sums of descriptors: how the four positions lie to each other.
use Rattle.std.proofs.Common.{append_assoc, append-nil, take_all, ◌≡◌, ℕ, zero, suc, ◌+◌, ◌<◌, ◌≤◌, Bool, true, false, List, [], ◌∷◌, ◌++◌, length, take, drop, nat_lt, if◌then◌else◌, refl, sym, ap, ◌∙◌, arith, inl, inr}
use Rattle.std.specs.List.{sum_by}
use Rattle.std.proofs.lemmas.Bool.{cases_lt, lt-ltb, le-ltb}
use Rattle.std.proofs.lemmas.List.{take_more, length-take-le, take-append-drop, get_or_append_left, get_or-take}
use Rattle.std.proofs.lemmas.List.Sums.{sum_by-append, sum_by-cons, sum_by_push}
use Rattle.vd_model.specs.declared.chain.Piece.{Piece}
use Rattle.vd_model.specs.Chains.{needs}
use Rattle.vd_ring.specs.declared.frame.Frame.{Frame}
use Rattle.vd_ring.specs.declared.frame.Used.{Used}
use Rattle.vd_ring.specs.declared.driver.DriverDone.{DriverDone}
use Rattle.vd_ring.specs.declared.driver.DriverDone.TheVariants.{Offer, Collect}
use Rattle.vd_ring.specs.declared.device.DeviceDone.{DeviceDone}
use Rattle.vd_ring.specs.declared.device.DeviceDone.TheVariants.{Give}
use Rattle.vd_ring.specs.Frames.{Fits, borrowed}
use Rattle.vd_ring.specs.History.{offers, collects, takes, gives, running, running_size, open_at, open_size, free, chain, chain_at, numbers, occurs, upto, used_at}
use Rattle.vd_ring.specs.Places.{Places}
use Rattle.vd_ring.specs.Lists.{Lists}
use Rattle.vd_ring.proofs.Counts.{one_above, occurs-append, occurs_upto, sum_same, sum_within, sum_at_least, sum_one}
use Rattle.vd_ring.proofs.HeldPlaces.{open_below, chain_fits, chain_before}
use Rattle.vd_ring.proofs.ListSteps.{given_below, number_in}
use Rattle.vd_packed_ring.specs.PackedWords.{IsLawful}
use Rattle.vd_packed_ring.specs.PackedPositions.{offer_position, collect_position, take_position, give_position, start, later}
use Rattle.vd_packed_ring.proofs.Spelled.{borrowed_one}

-- ---- the later of two

pub later_first : (a b : ℕ) → a ≤ later a b
later_first a b = elim (cases_lt a b) [ inl h ↦ rw (lt-ltb a b h) (omega arith) | inr h ↦ rw (le-ltb a b h) (omega arith) ]

pub later_second : (a b : ℕ) → b ≤ later a b
later_second a b = elim (cases_lt a b) [ inl h ↦ rw (lt-ltb a b h) (omega arith) | inr h ↦ rw (le-ltb a b h) h ]

pub later_within : (a b c : ℕ) → a ≤ c → b ≤ c → later a b ≤ c
later_within a b c x y = elim (cases_lt a b) [ inl h ↦ rw (lt-ltb a b h) y | inr h ↦ rw (le-ltb a b h) x ]

-- ---- sums by number

-- a sum over entries is one over their numbers
pub sum_numbers : (g : ℕ → ℕ) (us : List Used) → sum_by (λ u. g u.number) us ≡ sum_by g (numbers us)
sum_numbers g [] = refl
sum_numbers g (u ∷ us) = omega (arith, sum_by-cons (λ (v : Used). g v.number) u us, sum_by-cons g u.number (numbers us), sum_numbers g us)

pub sum_entries : (g h : Used → ℕ) (us : List Used) → ((j : ℕ) → j < length us → g (used_at us j) ≡ h (used_at us j))
    → sum_by g us ≡ sum_by h us
sum_entries g h [] same = refl
sum_entries g h (u ∷ us) same = omega (
  arith,
  sum_by-cons g u us,
  sum_by-cons h u us,
  same 0 (omega arith),
  sum_entries g h us (λ j low. same (suc j) (omega arith)),
)

-- a sum over chains is one over the numbers below their count
pub sum_chains : (g : List Piece → ℕ) (cs more : List (List Piece))
    → sum_by g cs ≡ sum_by (λ k. g (chain_at (cs ++ more) k)) (upto (length cs))
sum_chains g cs more = by_count (length cs) cs more refl
  where
    by_count : (n : ℕ) (cs more : List (List Piece)) → length cs ≡ n → sum_by g cs ≡ sum_by (λ k. g (chain_at (cs ++ more) k)) (upto n)
    by_count zero [] more e = refl
    by_count zero (c ∷ cs) more e = absurd (omega arith)
    by_count (suc n) cs more e =
        let front : List (List Piece) = take n cs in
        let len : length front ≡ n = length-take-le n cs (omega arith) in
        let split : cs ≡ front ++ chain_at cs n ∷ [] = sym (take_all (suc n) cs (omega arith))
        ∙ ap (λ (m : ℕ). take m cs) (let x : suc n ≡ n + 1 = omega arith in x) ∙ take_more cs n [] (omega arith) in
        let here : chain_at (cs ++ more) n ≡ chain_at cs n = get_or_append_left cs more [] n (omega arith) in
        let whole : sum_by g cs ≡ sum_by g front + g (chain_at cs n) = ap (sum_by g) split ∙ sum_by_push g front (chain_at cs n) in
        let before : sum_by g front ≡ sum_by (λ k. g (chain_at (cs ++ more) k)) (upto n) = by_count n front (chain_at cs n ∷ more) len
        ∙ ap (λ (l : List (List Piece)). sum_by (λ k. g (chain_at l k)) (upto n)) (sym (append_assoc front (chain_at cs n ∷ []) more)
        ∙ ap (λ (l : List (List Piece)). l ++ more) (sym split)) in
        omega (arith, whole, before, sum_by_push (λ k. g (chain_at (cs ++ more) k)) (upto n) n, ap g here)

-- two lists of numbers that together have each number below n once
pub sum_parts : (g : ℕ → ℕ) (xs ys : List ℕ) (n : ℕ) → ((k : ℕ) → occurs k xs + occurs k ys ≡ (if nat_lt k n then 1 else 0))
    → sum_by g xs + sum_by g ys ≡ sum_by g (upto n)
sum_parts g xs ys n each =
    let a = sum_within g (xs ++ ys) (upto n) (λ k. omega (arith, each k, occurs-append k xs ys, occurs_upto k n)) in
    let b = sum_within g (upto n) (xs ++ ys) (λ k. omega (arith, each k, occurs-append k xs ys, occurs_upto k n)) in
    omega (arith, a, b, sum_by-append g xs ys)

-- ---- the driver's positions, from its own acts

pub driver_span : (f : Frame) (o : List DriverDone)
    → ((k : ℕ) → occurs k (open_at o) + occurs k (numbers (collects o)) ≡ (if nat_lt k (length (offers o)) then 1 else 0))
    → offer_position f o ≡ collect_position f o + open_size f o
driver_span f o each =
    let g : ℕ → ℕ = λ k. needs f.features (chain o k) in
    let whole : offer_position f o ≡ sum_by g (upto (length (offers o))) = sum_chains (needs f.features) (offers o) []
    ∙ ap (λ (l : List (List Piece)). sum_by (λ k. needs f.features (chain_at l k)) (upto (length (offers o))))
    (append-nil (offers o)) in
    omega (arith, whole, sum_parts g (open_at o) (numbers (collects o)) (length (offers o)) each, sum_numbers g (collects o))

-- the device's, from its own acts
pub device_span : (f : Frame) (s : List DeviceDone)
    → ((k : ℕ) → occurs k (running s) + occurs k (numbers (gives s)) ≡ (if nat_lt k (length (takes s)) then 1 else 0))
    → take_position f s ≡ give_position f s + running_size f s
device_span f s each =
    let g : ℕ → ℕ = λ k. needs f.features (chain_at (takes s) k) in
    let whole : take_position f s ≡ sum_by g (upto (length (takes s))) = sum_chains (needs f.features) (takes s) []
    ∙ ap (λ (l : List (List Piece)). sum_by (λ k. needs f.features (chain_at l k)) (upto (length (takes s)))) (append-nil (takes s)) in
    omega (arith, whole, sum_parts g (running s) (numbers (gives s)) (length (takes s)) each, sum_numbers g (gives s))

-- ---- both

pub needs_some : (f : Frame) (c : List Piece) → Fits f c → 1 ≤ needs f.features c
needs_some f c h = either f.features.indirect (length c) h.chain.0
  where
    either : (b : Bool) (n : ℕ) → 0 < n → 1 ≤ (if b then 1 else n)
    either true n h = omega arith
    either false n h = h

-- a taken chain is the offered one
pub taken_chain : (f : Frame) (o : List DriverDone) (s : List DeviceDone) (k : ℕ) → Lists f o s → k < length (takes s)
    → chain_at (takes s) k ≡ chain o k
taken_chain f o s k l h = ap (λ (cs : List (List Piece)). chain_at cs k) l.taken ∙ get_or-take (length (takes s)) (offers o) k [] h

-- the device's position of what it gave, by the chains offered
pub give_position_is : (f : Frame) (o : List DriverDone) (s : List DeviceDone) → Lists f o s
    → give_position f s ≡ sum_by (λ u. needs f.features (chain o u.number)) (gives s)
give_position_is f o s l = sum_entries (λ u. needs f.features (chain_at (takes s) u.number)) (λ u. needs f.features (chain o u.number))
    (gives s) (λ j h. ap (needs f.features) (taken_chain f o s (used_at (gives s) j).number l (given_below f o s j l h)))

pub take_position_is : (f : Frame) (o : List DriverDone) (s : List DeviceDone) → Lists f o s
    → take_position f s ≡ start f o (length (takes s))
take_position_is f o s l = ap (sum_by (needs f.features)) l.taken

-- the entry collected next begins at the driver's position
pub collect_position_is : (f : Frame) (o : List DriverDone) (s : List DeviceDone) → Lists f o s
    → collect_position f o ≡ sum_by (λ u. needs f.features (chain o u.number)) (take (length (collects o)) (gives s))
collect_position_is f o s l = ap (sum_by (λ (u : Used). needs f.features (chain o u.number))) l.collected

pub record Order (f : Frame) (o : List DriverDone) (s : List DeviceDone) : Type 0 where
  pub collected : collect_position f o ≤ give_position f s
  pub given : give_position f s ≤ take_position f s
  pub taken : take_position f s ≤ offer_position f o
  pub open_span : offer_position f o ≡ collect_position f o + open_size f o
  pub running_span : take_position f s ≡ give_position f s + running_size f s

pub order : (f : Frame) (o : List DriverDone) (s : List DeviceDone) → Places f o → Lists f o s → Order f o s
order f o s p l =
    let g : Used → ℕ = λ u. needs f.features (chain o u.number) in
    let m : ℕ = length (collects o) in
    let parts : sum_by g (take m (gives s)) + sum_by g (drop m (gives s)) ≡ sum_by g (gives s) =
    sym (sum_by-append g (take m (gives s)) (drop m (gives s))) ∙ ap (sum_by g) (take-append-drop m (gives s)) in
    let cut : start f o (length (takes s)) + sum_by (needs f.features) (drop (length (takes s)) (offers o)) ≡ offer_position f o =
    sym (sum_by-append (needs f.features) (take (length (takes s)) (offers o)) (drop (length (takes s)) (offers o)))
    ∙ ap (sum_by (needs f.features)) (take-append-drop (length (takes s)) (offers o)) in
    let span = device_span f s l.given in
    record {
      collected = omega (arith, collect_position_is f o s l, parts, give_position_is f o s l);
      given = omega (arith, span);
      taken = omega (arith, take_position_is f o s l, cut);
      open_span = driver_span f o p.is_open;
      running_span = span;
    }

-- where a chain runs, the device gives below the position at which it takes
pub gives_below : (f : Frame) (s : List DeviceDone) (k : ℕ) → take_position f s ≡ give_position f s + running_size f s
    → 1 ≤ occurs k (running s) → 1 ≤ needs f.features (chain_at (takes s) k) → give_position f s < take_position f s
gives_below f s k span runs some = omega (arith, span, sum_one (λ j. needs f.features (chain_at (takes s) j)) k (running s) runs)

-- where a chain is not taken, its descriptors end at most where those offered do
pub takes_below : (f : Frame) (o : List DriverDone) (k : ℕ) → k < length (offers o)
    → start f o k + needs f.features (chain o k) ≤ offer_position f o
takes_below f o k h =
    let cut : start f o (k + 1) + sum_by (needs f.features) (drop (k + 1) (offers o)) ≡ offer_position f o =
    sym (sum_by-append (needs f.features) (take (k + 1) (offers o)) (drop (k + 1) (offers o)))
    ∙ ap (sum_by (needs f.features)) (take-append-drop (k + 1) (offers o)) in
    let one : start f o (k + 1) ≡ start f o k + needs f.features (chain o k) =
    ap (sum_by (needs f.features)) (take_more (offers o) k [] h) ∙ sum_by_push (needs f.features) (take k (offers o)) (chain o k) in
    omega (arith, cut, one)

-- an id is free wherever there is room
pub free_some : (f : Frame) (o : List DriverDone) (c : List Piece) → IsLawful f → Places f o → Fits f c
    → offer_position f o + needs f.features c ≤ collect_position f o + f.size → 1 ≤ length (free f o)
free_some f o c l p fits room =
    let ones : sum_by (λ k. borrowed f (chain o k)) (open_at o) ≡ sum_by (λ k. 1) (open_at o) =
    sum_same (λ k. borrowed f (chain o k)) (λ k. 1) (open_at o) (λ k a. borrowed_one f (chain o k) l) in
    let count : sum_by (λ (k : ℕ). 1) (open_at o) ≡ length (open_at o) = all_ones (open_at o) in
    let few = sum_at_least (λ k. needs f.features (chain o k)) (open_at o)
    (λ k a. needs_some f (chain o k) (chain_fits f o k p (open_below f o k p a))) in
    omega (arith, ones, count, few, p.sizes, driver_span f o p.is_open, needs_some f c fits)
  where
    all_ones : (xs : List ℕ) → sum_by (λ (k : ℕ). 1) xs ≡ length xs
    all_ones [] = refl
    all_ones (x ∷ xs) = omega (arith, sum_by-cons (λ (k : ℕ). 1) x xs, all_ones xs)

-- ---- what an offer and a collect leave

pub offer_position_offered : (f : Frame) (o : List DriverDone) (c : List Piece) → offer_position f (Offer c ∷ o) ≡ offer_position f o
    + needs f.features c
offer_position_offered f o c = sum_by_push (needs f.features) (offers o) c

pub collected_below : (f : Frame) (o : List DriverDone) (j : ℕ) → Places f o → j < length (collects o)
    → (used_at (collects o) j).number < length (offers o)
collected_below f o j p h = elim (cases_lt (used_at (collects o) j).number (length (offers o))) [
  | inl a ↦ a
  | inr a ↦ absurd (omega (
    arith,
    p.is_open (used_at (collects o) j).number,
    number_in (collects o) j h,
    one_above (used_at (collects o) j).number (length (offers o)) a,
  ))
]

pub collect_position_offered : (f : Frame) (o : List DriverDone) (c : List Piece) → Places f o
    → collect_position f (Offer c ∷ o) ≡ collect_position f o
collect_position_offered f o c p =
    sum_entries (λ u. needs f.features (chain (Offer c ∷ o) u.number)) (λ u. needs f.features (chain o u.number)) (collects o)
    (λ j h. ap (needs f.features) (chain_before o c (used_at (collects o) j).number (collected_below f o j p h)))

pub collect_position_collected : (f : Frame) (o : List DriverDone) (u : Used)
    → collect_position f (Collect (u ∷ []) ∷ o) ≡ collect_position f o + needs f.features (chain o u.number)
collect_position_collected f o u = sum_by_push (λ (v : Used). needs f.features (chain o v.number)) (collects o) u

-- what a give leaves
pub give_position_given : (f : Frame) (s : List DeviceDone) (u : Used) → give_position f (Give (u ∷ []) ∷ s) ≡ give_position f s
    + needs f.features (chain_at (takes s) u.number)
give_position_given f s u = sum_by_push (λ (v : Used). needs f.features (chain_at (takes s) v.number)) (gives s) u
