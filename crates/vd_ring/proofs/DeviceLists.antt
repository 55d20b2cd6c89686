-- What a device's acts do to what it has taken, runs and gave.
use Rattle.std.proofs.Common.{◌≡◌, ◌≢◌, ℕ, ◌+◌, ◌<◌, ◌≤◌, Bool, true, List, [], ◌∷◌, ◌++◌, length, take, Some, if◌then◌else◌, nat_lt, slice_index, refl, sym, ap, ◌∙◌, subst, arith, inl, inr}
use Rattle.std.specs.List.{sum_by}
use Rattle.std.proofs.lemmas.Bool.{cases_eq, cases_lt, eq-eqb, ne_eqb}
use Rattle.std.proofs.lemmas.List.{length_push, length-map, take_more, take-append-le, take-take, length-take-le, get_or_append_left, get_or_push, get_or-take}
use Rattle.std.proofs.lemmas.List.Sums.{sum_by_push}
use Rattle.vd_model.specs.declared.chain.Piece.{Piece}
use Rattle.vd_model.specs.Chains.{needs}
use Rattle.vd_ring.specs.declared.frame.Frame.{Frame}
use Rattle.vd_ring.specs.declared.frame.Used.{Used}
use Rattle.vd_ring.specs.declared.driver.DriverDone.{DriverDone}
use Rattle.vd_ring.specs.declared.device.DeviceDone.{DeviceDone}
use Rattle.vd_ring.specs.declared.device.DeviceDone.TheVariants.{Take, Give, Rest, StoreAck, LoadCommand}
use Rattle.vd_ring.specs.History.{offers, collects, takes, gives, heads, running, running_size, open_at, open_size, head, taken_head, chain, chain_at, numbers, occurs, used_at, last_used, entry, IsWhole}
use Rattle.vd_ring.specs.Places.{Places}
use Rattle.vd_ring.specs.Lists.{Lists, IsGive, entry_at}
use Rattle.vd_ring.proofs.Counts.{one, one_same, one_other, one_below, one_above, one_small, one_more, occurs_push, occurs_without, length_without, occurs_rest, sum_same, sum_within}
use Rattle.vd_ring.proofs.HeldPlaces.{few_open, head_inside, same_head, numbers_push}
use Rattle.vd_ring.proofs.ListSteps.{collected_given, entry_next}

-- ---- what runs

-- a chain offered and not given is open
pub not_given_open : (f : Frame) (o : List DriverDone) (s : List DeviceDone) (k : ℕ) → Places f o → Lists f o s → k < length (offers o)
    → occurs k (numbers (gives s)) ≡ 0 → 1 ≤ occurs k (open_at o)
not_given_open f o s k p l below none = omega (arith, p.is_open k, one_below k (length (offers o)) below, collected_given f o s k l)

pub running_below : (f : Frame) (o : List DriverDone) (s : List DeviceDone) (k : ℕ) → Lists f o s → 1 ≤ occurs k (running s)
    → (k < length (takes s)) × (occurs k (numbers (gives s)) ≡ 0)
running_below f o s k l a = elim (cases_lt k (length (takes s))) [
  | inl h ↦ (h, omega (arith, l.given k, one_below k (length (takes s)) h))
  | inr h ↦ absurd (omega (arith, l.given k, one_above k (length (takes s)) h))
]

pub running_open : (f : Frame) (o : List DriverDone) (s : List DeviceDone) (k : ℕ) → Places f o → Lists f o s → 1 ≤ occurs k (running s)
    → 1 ≤ occurs k (open_at o)
running_open f o s k p l a = let b = running_below f o s k l a in not_given_open f o s k p l (omega (arith, l.some, b.0)) b.1

-- the chain taken next is open
pub next_taken_open : (f : Frame) (o : List DriverDone) (s : List DeviceDone) → Places f o → Lists f o s
    → length (takes s) < length (offers o) → 1 ≤ occurs (length (takes s)) (open_at o)
next_taken_open f o s p l below =
    not_given_open f o s (length (takes s)) p l below
    (omega (arith, l.given (length (takes s)), one_above (length (takes s)) (length (takes s)) (omega arith)))

-- not more are collected than taken, and no more are offered past those than there are places
pub counts : (f : Frame) (o : List DriverDone) (s : List DeviceDone) → Places f o → Lists f o s
    → (length (collects o) ≤ length (takes s)) × (length (offers o) ≤ length (takes s) + f.size)
counts f o s p l = (omega (arith, l.fewer, l.count), omega (arith, l.fewer, l.count, p.count, few_open f o p))

-- where a chain runs, fewer entries are given past those collected than places
pub give_room : (f : Frame) (o : List DriverDone) (s : List DeviceDone) (k : ℕ) → Places f o → Lists f o s → 1 ≤ occurs k (running s)
    → length (gives s) < length (collects o) + f.size
give_room f o s k p l a = omega (arith, some k (running s) a, l.count, l.some, p.count, few_open f o p)
  where
    some : (j : ℕ) (xs : List ℕ) → 1 ≤ occurs j xs → 1 ≤ length xs
    some j [] h = absurd (omega arith)
    some j (x ∷ xs) h = omega arith

-- the head of a running chain is a place, and of no other running chain
pub running_head : (f : Frame) (o : List DriverDone) (s : List DeviceDone) (k : ℕ) → Places f o → Lists f o s → 1 ≤ occurs k (running s)
    → (taken_head s k ≡ head f o k) × (taken_head s k < f.size)
running_head f o s k p l a =
    let is : taken_head s k ≡ head f o k = l.heads k (running_below f o s k l a).0 in
    (is, subst (λ (h : ℕ). h < f.size) (sym is) (head_inside f o k p (running_open f o s k p l a)))

pub same_taken_head : (f : Frame) (o : List DriverDone) (s : List DeviceDone) (j k : ℕ) → Places f o → Lists f o s
    → 1 ≤ occurs j (running s) → 1 ≤ occurs k (running s) → taken_head s j ≡ taken_head s k → j ≡ k
same_taken_head f o s j k p l a b e =
    same_head f o j k p (running_open f o s j p l a) (running_open f o s k p l b) (sym (running_head f o s j p l a).0 ∙ e
    ∙ (running_head f o s k p l b).0)

-- ---- used entries

-- the entry of a give stands where those before it end, and the others stay
pub entry_new : (s : List DeviceDone) (us : List Used) (j : ℕ) → length (gives s) ≡ j → entry_at (Give us ∷ s) j ≡ Some (last_used us)
entry_new s us j e = ap (λ (b : Bool). if b then Some (last_used us) else entry_at s j) (eq-eqb (length (gives s)) j e)

pub entry_old : (s : List DeviceDone) (us : List Used) (j : ℕ) → length (gives s) ≢ j → entry_at (Give us ∷ s) j ≡ entry_at s j
entry_old s us j e = ap (λ (b : Bool). if b then Some (last_used us) else entry_at s j) (ne_eqb (length (gives s)) j e)

-- ---- what a take leaves

pub lists_taken : (f : Frame) (o : List DriverDone) (s : List DeviceDone) (h : ℕ) → Lists f o s → length (takes s) < length (offers o)
    → h ≡ head f o (length (takes s)) → Lists f o (Take (chain o (length (takes s))) h ∷ s)
lists_taken f o s h l below is =
    let t : ℕ = length (takes s) in let c : List Piece = chain o t in
    let longer : length (takes s ++ c ∷ []) ≡ t + 1 = length_push (takes s) c in
    record {
      taken = ap (λ (cs : List (List Piece)). cs ++ c ∷ []) l.taken
          ∙ (sym (take_more (offers o) t [] below) ∙ ap (λ n. take n (offers o)) (sym longer));
      some = omega arith;
      as_many = omega (arith, length_push (heads s) h, l.as_many);
      heads = λ k a. elim (cases_lt k t) [
        | inl b ↦ get_or_append_left (heads s) (h ∷ []) 0 k (omega (arith, l.as_many)) ∙ l.heads k b
        | inr b ↦ (let e : t ≡ k = omega arith in
            subst (λ j. slice_index (heads s ++ h ∷ []) j ≡ head f o j) e (get_or_push (heads s) h 0 t l.as_many ∙ is))
      ];
      ever = (below, refl, is, l.ever);
      given = λ k. omega (arith, l.given k, occurs_push k (running s) t, one_more k t, ap (λ n. one (nat_lt k n)) longer);
      count = omega (arith, l.count, length_push (running s) t);
      entries = l.entries;
      collected = l.collected;
      fewer = l.fewer;
      cut = l.cut;
      in_order = l.in_order;
    }

-- what runs and one chain more fit in the ring
pub room_left : (f : Frame) (o : List DriverDone) (s : List DeviceDone) → Lists f o s → Places f o
    → length (takes s) < length (offers o) → running_size f s + needs f.features (chain o (length (takes s))) ≤ open_size f o
room_left f o s l p below =
    let t : ℕ = length (takes s) in
    let g : ℕ → ℕ = λ k. needs f.features (chain o k) in
    let same : running_size f s ≡ sum_by g (running s) =
    sum_same (λ k. needs f.features (chain_at (takes s) k)) g (running s)
    (λ k a. ap (λ (cs : List (List Piece)). needs f.features (chain_at cs k)) l.taken
    ∙ ap (needs f.features) (get_or-take t (offers o) k [] (running_below f o s k l a).0)) in
    let here = next_taken_open f o s p l below in
    let within : sum_by g (running s ++ t ∷ []) ≤ sum_by g (open_at o) =
    sum_within g (running s ++ t ∷ []) (open_at o) (λ k. each k here) in
    omega (arith, sum_by_push g (running s) t, same, within)
  where
    each : (k : ℕ) → 1 ≤ occurs (length (takes s)) (open_at o) → occurs k (running s ++ length (takes s) ∷ []) ≤ occurs k (open_at o)
    each k here = elim (cases_eq (length (takes s)) k) [
      | inl e ↦ subst (λ j. occurs j (running s ++ length (takes s) ∷ []) ≤ occurs j (open_at o)) e
          (omega (
            arith,
            occurs_push (length (takes s)) (running s) (length (takes s)),
            one_same (length (takes s)) (length (takes s)) refl,
            l.given (length (takes s)),
            one_above (length (takes s)) (length (takes s)) (omega arith),
            here,
          ))
      | inr ne ↦ elim (cases_lt 0 (occurs k (running s))) [
        | inl a ↦ omega (
          arith,
          occurs_push k (running s) (length (takes s)),
          one_other (length (takes s)) k ne,
          l.given k,
          one_small (nat_lt k (length (takes s))),
          running_open f o s k p l a,
        )
        | inr a ↦ omega (arith, occurs_push k (running s) (length (takes s)), one_other (length (takes s)) k ne)
      ]
    ]

-- ---- what a give leaves

pub lists_given : (f : Frame) (o : List DriverDone) (s : List DeviceDone) (u : Used) → Lists f o s → 1 ≤ occurs u.number (running s)
    → IsGive f s (u ∷ []) → Lists f o (Give (u ∷ []) ∷ s)
lists_given f o s u l runs is =
    let order : f.features.in_order ≡ true → u.number ≡ length (gives s) =
    entry_next f (chain_at (takes s)) (length (gives s)) (u ∷ []) is in
    let g : ℕ = length (gives s) in
    let m : ℕ = length (collects o) in
    let longer : length (gives s ++ u ∷ []) ≡ g + 1 = length_push (gives s) u in
    record {
      taken = l.taken;
      some = l.some;
      as_many = l.as_many;
      heads = l.heads;
      ever = l.ever;
      given = λ k. omega (arith, l.given k, occurs_without k u.number (running s) runs, numbers_push (gives s) u k);
      count = omega (arith, l.count, length_without u.number (running s) runs);
      entries = (is, l.entries);
      collected = l.collected ∙ sym (take-append-le m (gives s) (u ∷ []) l.fewer);
      fewer = omega (arith, l.fewer);
      cut = λ a. elim (cases_eq g m) [
        | inl e ↦ (u, entry_new s (u ∷ []) m e)
        | inr ne ↦ (let h : m < g = omega (arith, l.fewer) in let c = l.cut h in (c.0, entry_old s (u ∷ []) m ne ∙ c.1))
      ];
      in_order = λ on j a. elim (cases_lt j g) [
        | inl b ↦ ap (λ (v : Used). v.number) (get_or_append_left (gives s) (u ∷ []) (entry 0 0) j b) ∙ l.in_order on j b
        | inr b ↦ (let e : g ≡ j = omega arith in
            subst (λ i. (used_at (gives s ++ u ∷ []) i).number ≡ i) e
            (ap (λ (v : Used). v.number) (get_or_push (gives s) u (entry 0 0) g refl) ∙ order on))
      ];
    }

-- ---- what a rest leaves

pub lists_rested : (f : Frame) (o : List DriverDone) (s : List DeviceDone) → Lists f o s → IsWhole s → Lists f o (Rest ∷ s)
lists_rested f o s l is =
    let g : ℕ = length (gives s) in
    let fewer : g ≤ length (takes s) = omega (arith, l.count) in
    let len : length (take g (takes s)) ≡ g = length-take-le g (takes s) fewer in record {
      taken = ap (take g) l.taken ∙ take-take g (length (takes s)) (offers o) fewer ∙ ap (λ n. take n (offers o)) (sym len);
      some = omega (arith, l.some);
      as_many = length-take-le g (heads s) (omega (arith, l.as_many)) ∙ sym len;
      heads = λ k a. get_or-take g (heads s) k 0 (omega arith) ∙ l.heads k (omega arith);
      ever = l.ever;
      given = λ k. elim (cases_lt k g) [
        | inl h ↦ omega (arith, is k h, one_below k g h, ap (λ n. one (nat_lt k n)) len)
        | inr h ↦ omega (
          arith,
          occurs_rest g k (numbers (gives s)) h (λ j b. omega (arith, is j b)),
          length-map (gives s) (λ (u : Used). u.number),
          one_above k g h,
          ap (λ n. one (nat_lt k n)) len,
        )
      ];
      count = omega arith;
      entries = l.entries;
      collected = l.collected;
      fewer = l.fewer;
      cut = l.cut;
      in_order = l.in_order;
    }

-- ---- what the control accesses leave

pub lists_commanded : (f : Frame) (o : List DriverDone) (s : List DeviceDone) (k i x : ℕ) → Lists f o s → Lists f o (LoadCommand k i x ∷ s)
lists_commanded f o s k i x l = record {
  taken = l.taken;
  some = l.some;
  as_many = l.as_many;
  heads = l.heads;
  ever = l.ever;
  given =
      l.given;
  count = l.count;
  entries = l.entries;
  collected = l.collected;
  fewer = l.fewer;
  cut = l.cut;
  in_order = l.in_order;
}

pub lists_acked : (f : Frame) (o : List DriverDone) (s : List DeviceDone) (h x : ℕ) → Lists f o s → Lists f o (StoreAck h x ∷ s)
lists_acked f o s h x l = record {
  taken = l.taken;
  some = l.some;
  as_many = l.as_many;
  heads = l.heads;
  ever = l.ever;
  given = l.given;
  count = l.count;
  entries = l.entries;
  collected = l.collected;
  fewer = l.fewer;
  cut = l.cut;
  in_order = l.in_order;
}

-- ---- the last entry

pub last_push : (us : List Used) (u : Used) → last_used (us ++ u ∷ []) ≡ u
last_push [] u = refl
last_push (v ∷ []) u = refl
last_push (v ∷ w ∷ us) u = last_push (w ∷ us) u
