-- What the two sides' lists keep, and what follows of them. The driver's offers and collects.
use Rattle.std.proofs.Common.{◌≡◌, ℕ, zero, suc, ◌+◌, ◌-◌, ◌<◌, ◌≤◌, ◌&&◌, Bool, not, true, false, List, [], ◌∷◌, ◌++◌, length, take, map, if◌then◌else◌, nat_lt, slice_index, Option, Some, None, refl, sym, ap, ◌∙◌, subst, arith, inl, inr, drop}
use Rattle.std.proofs.lemmas.Bool.{cases_eq, cases_lt, eq-eqb, ne_eqb}
use Rattle.std.proofs.lemmas.List.{length_push, length-map, take_more, take-map, take-append-le, get_or_append_left, get_or_push}
use Rattle.vd_model.specs.declared.chain.Piece.{Piece}
use Rattle.vd_model.specs.Chains.{writable}
use Rattle.vd_ring.specs.declared.frame.Frame.{Frame}
use Rattle.vd_ring.specs.declared.frame.Used.{Used}
use Rattle.vd_ring.specs.declared.driver.DriverDone.{DriverDone}
use Rattle.vd_ring.specs.declared.driver.DriverDone.TheVariants.{Offer, Collect}
use Rattle.vd_ring.specs.declared.device.DeviceDone.{DeviceDone}
use Rattle.vd_ring.specs.declared.device.DeviceDone.TheVariants.{Take, Give, Rest, StoreAck, LoadCommand}
use Rattle.vd_ring.specs.Batches.{IsEntry, MayReturn}
use Rattle.vd_ring.specs.History.{last_used, is_batching, offers, collects, takes, gives, open_at, entry, numbers, occurs, used_at, first, batch, between, upto, chain, held, free}
use Rattle.vd_ring.specs.Places.{Places}
use Rattle.vd_ring.specs.Frames.{borrowed}
use Rattle.vd_ring.specs.Lists.{Lists, AreGives, AreTakes, entry_at, Collects}
use Rattle.vd_ring.proofs.Counts.{one_same, one_below, one_small, one_above, occurs_before, occurs_parts}
use Rattle.vd_ring.proofs.HeldPlaces.{few_open, places_before}

-- ---- used entries

pub same_used : (k l : ℕ) (u : Used) → k ≡ u.number → l ≡ u.len → entry k l ≡ u
same_used k l u a b = ap (λ n. entry n l) a ∙ ap (λ n. entry u.number n) b

pub some_same : {A : Type 0} (a b : A) → Some a ≡ Some b → a ≡ b
some_same {A} a b e = ap take_it e
  where
    take_it : Option A → A
    take_it None = a
    take_it (Some x) = x

-- the entries of chains that an entry skips
abbrev skipped : (ℕ → List Piece) → ℕ → ℕ → List Used
skipped chains from number = map (λ k. entry k (writable (chains k))) (between from number)

none_skipped : (chains : ℕ → List Piece) (n : ℕ) → skipped chains n n ≡ []
none_skipped chains n = let z : n - n ≡ 0 = omega arith in ap (λ m. map (λ k. entry k (writable (chains k))) (map (λ i. n + i) (upto m))) z

-- the batch of one
pub batch_one : (f : Frame) (chains : ℕ → List Piece) (count number len : ℕ) → (f.features.in_order ≡ true → number ≡ count)
    → batch f chains count number len ≡ entry number len ∷ []
batch_one f chains count number len order = ap (λ us. us ++ entry number len ∷ []) (at f.features.in_order f.control order)
  where
    at : (b c : Bool) → (b ≡ true → number ≡ count) → skipped chains (if b && not c then count else number) number ≡ []
    at true false order = ap (λ n. skipped chains n number) (sym (order refl)) ∙ none_skipped chains number
    at true true order = none_skipped chains number
    at false true order = none_skipped chains number
    at false false order = none_skipped chains number

-- ---- what may come next

last_pair : (us : List Used) (u : Used) → last_used (us ++ u ∷ []) ≡ u
last_pair [] u = refl
last_pair (v ∷ []) u = refl
last_pair (v ∷ w ∷ us) u = last_pair (w ∷ us) u

only_one : (count : ℕ) → between count (count + 1) ≡ count ∷ []
only_one count =
    let one : (count + 1) - count ≡ 1 = omega arith in
    let same : count + 0 ≡ count = omega arith in
    ap (λ n. map (λ i. count + i) (upto n)) one ∙ ap (λ (i : ℕ). i ∷ []) same

-- one pair, under IN_ORDER of the first chain not returned, is an entry's
pub single_entry : (f : Frame) (chains : ℕ → List Piece) (count : ℕ) (u : Used) → (f.features.in_order ≡ true → u.number ≡ count)
    → IsEntry f chains count (u ∷ [])
single_entry f chains count u order = record {
  is_batch = sym (batch_one f chains count u.number u.len order);
  in_order = λ on. ap (λ (k : ℕ). k ∷ []) (order on) ∙ sym (only_one count);
  one = refl;
}

pub may_return : (f : Frame) (chains : ℕ → List Piece) (count number : ℕ) → (f.features.in_order ≡ true → number ≡ count)
    → MayReturn f chains count number
may_return f chains count number order =
    λ len. subst (λ (us : List Used). IsEntry f chains count us) (sym (batch_one f chains count number len order))
    (single_entry f chains count (entry number len) order)

-- and the reverse
pub entry_next : (f : Frame) (chains : ℕ → List Piece) (count : ℕ) (us : List Used) → IsEntry f chains count us
    → f.features.in_order ≡ true → (last_used us).number ≡ count
entry_next f chains count [] e on = absurd (let one : 0 ≡ 1 = e.one in omega arith)
entry_next f chains count (u ∷ v ∷ us) e on = absurd (let one : suc (suc (length us)) ≡ 1 = e.one in omega arith)
entry_next f chains count (u ∷ []) e on = ap first (e.in_order on ∙ only_one count)

pub returns_next : (f : Frame) (chains : ℕ → List Piece) (count number : ℕ) → MayReturn f chains count number
    → f.features.in_order ≡ true → number ≡ count
returns_next f chains count number may on =
    let us : List Used = batch f chains count number 0 in
    sym (ap (λ (u : Used). u.number) (last_pair (skipped chains (if is_batching f then count else number) number) (entry number 0)))
    ∙ entry_next f chains count us (may 0) on

pub entry_is : (f : Frame) (s : List DeviceDone) (j : ℕ) (u : Used) → AreGives f s → entry_at s j ≡ Some u
    → (j < length (gives s)) × (used_at (gives s) j ≡ u)
entry_is f [] j u a is = absurd cc
entry_is f (Take c h ∷ s) j u a is = entry_is f s j u a is
entry_is f (Rest ∷ s) j u a is = entry_is f s j u a is
entry_is f (StoreAck h x ∷ s) j u a is = entry_is f s j u a is
entry_is f (LoadCommand k i x ∷ s) j u a is = entry_is f s j u a is
entry_is f (Give [] ∷ s) j u a is = absurd (let one : 0 ≡ 1 = a.0.one in omega arith)
entry_is f (Give (v ∷ w ∷ us) ∷ s) j u a is = absurd (let one : suc (suc (length us)) ≡ 1 = a.0.one in omega arith)
entry_is f (Give (v ∷ []) ∷ s) j u a is = elim (cases_eq (length (gives s)) j) [
  | inl e ↦ (
      let given : v ≡ u = some_same v u (ap (λ (b : Bool). if b then Some v else entry_at s j) (sym (eq-eqb (length (gives s)) j e))
      ∙ is) in
      (omega (arith, length_push (gives s) v), get_or_push (gives s) v (entry 0 0) j e ∙ given)
      )
  | inr ne ↦ (
      let old = entry_is f s j u a.1 (ap (λ (b : Bool). if b then Some v else entry_at s j) (sym (ne_eqb (length (gives s)) j ne)) ∙ is) in
      (omega (arith, length_push (gives s) v, old.0), get_or_append_left (gives s) (v ∷ []) (entry 0 0) j old.0 ∙ old.1)
      )
]

pub entry_each : (f : Frame) (s : List DeviceDone) (j : ℕ) → AreGives f s → j < length (gives s) → (u : Used) × (entry_at s j ≡ Some u)
entry_each f [] j a h = absurd (omega arith)
entry_each f (Take c g ∷ s) j a h = entry_each f s j a h
entry_each f (Rest ∷ s) j a h = entry_each f s j a h
entry_each f (StoreAck g x ∷ s) j a h = entry_each f s j a h
entry_each f (LoadCommand k i x ∷ s) j a h = entry_each f s j a h
entry_each f (Give [] ∷ s) j a h = absurd (let one : 0 ≡ 1 = a.0.one in omega arith)
entry_each f (Give (v ∷ w ∷ us) ∷ s) j a h = absurd (let one : suc (suc (length us)) ≡ 1 = a.0.one in omega arith)
entry_each f (Give (v ∷ []) ∷ s) j a h = elim (cases_eq (length (gives s)) j) [
  | inl e ↦ (v, ap (λ (b : Bool). if b then Some v else entry_at s j) (eq-eqb (length (gives s)) j e))
  | inr ne ↦ (
      let old = entry_each f s j a.1
      (elim (cases_lt j (length (gives s))) [ inl b ↦ b | inr b ↦ absurd (ne (omega (arith, length_push (gives s) v))) ]) in
      (old.0, ap (λ (b : Bool). if b then Some v else entry_at s j) (ne_eqb (length (gives s)) j ne) ∙ old.1)
      )
]

-- ---- what is given

pub number_in : (us : List Used) (j : ℕ) → j < length us → 1 ≤ occurs (used_at us j).number (numbers us)
number_in [] j h = absurd (omega arith)
number_in (u ∷ us) zero h = omega (arith, one_same u.number u.number refl)
number_in (u ∷ us) (suc j) h = omega (arith, number_in us j (omega arith))

pub number_at : (us : List Used) (j : ℕ) → j < length us → slice_index (numbers us) j ≡ (used_at us j).number
number_at [] j h = absurd (omega arith)
number_at (u ∷ us) zero h = refl
number_at (u ∷ us) (suc j) h = number_at us j (omega arith)

pub given_below : (f : Frame) (o : List DriverDone) (s : List DeviceDone) (j : ℕ) → Lists f o s → j < length (gives s)
    → (used_at (gives s) j).number < length (takes s)
given_below f o s j l h = elim (cases_lt (used_at (gives s) j).number (length (takes s))) [
  | inl a ↦ a
  | inr a ↦ absurd (omega (
    arith,
    l.given (used_at (gives s) j).number,
    number_in (gives s) j h,
    one_above (used_at (gives s) j).number (length (takes s)) a,
  ))
]

-- a number collected was given
pub collected_given : (f : Frame) (o : List DriverDone) (s : List DeviceDone) (k : ℕ) → Lists f o s
    → occurs k (numbers (collects o)) ≤ occurs k (numbers (gives s))
collected_given f o s k l =
    let m : ℕ = length (collects o) in
    let same : occurs k (numbers (collects o)) ≡ occurs k (take m (numbers (gives s))) =
    ap (λ (us : List Used). occurs k (numbers us)) l.collected ∙ ap (occurs k) (sym (take-map (λ (u : Used). u.number) m (gives s))) in
    omega (arith, same, occurs_parts k m (numbers (gives s)))

-- the next entry names an open chain
pub next_open : (f : Frame) (o : List DriverDone) (s : List DeviceDone) → Places f o → Lists f o s
    → length (collects o) < length (gives s) → 1 ≤ occurs (used_at (gives s) (length (collects o))).number (open_at o)
next_open f o s p l below =
    let m : ℕ = length (collects o) in let g : List Used = gives s in let k : ℕ = (used_at g m).number in
    let inside : k < length (takes s) = given_below f o s m l below in
    let before : occurs k (numbers (collects o)) ≡ occurs k (take m (numbers g)) =
    ap (λ (us : List Used). occurs k (numbers us)) l.collected ∙ ap (occurs k) (sym (take-map (λ (u : Used). u.number) m g)) in
    let once = occurs_before (numbers g) m k (omega (arith, length-map g (λ (u : Used). u.number))) (number_at g m below) in
    omega (
      arith,
      p.is_open k,
      one_below k (length (offers o)) (omega (arith, l.some)),
      l.given k,
      one_small (nat_lt k (length (takes s))),
      once,
    )

-- counts lie within the ring's size of each other
pub given_within : (f : Frame) (o : List DriverDone) (s : List DeviceDone) → Places f o → Lists f o s
    → (length (gives s) ≤ length (offers o)) × (length (offers o) ≤ length (collects o) + f.size)
given_within f o s p l = (omega (arith, l.count, l.some), omega (arith, p.count, few_open f o p))

-- ---- an offer and a collect

next_pair : (us : List Used) (m : ℕ) → m < length us → take 1 (drop m us) ≡ used_at us m ∷ []
next_pair [] m h = absurd (omega arith)
next_pair (u ∷ us) zero h = refl
next_pair (u ∷ us) (suc m) h = next_pair us m (omega arith)

-- a collect of the next pair
pub collects_next : (f : Frame) (o : List DriverDone) (s : List DeviceDone) (u : Used) (o2 : List DriverDone) → Lists f o s
    → length (collects o) < length (gives s) → used_at (gives s) (length (collects o)) ≡ u → o2 ≡ Collect (u ∷ []) ∷ o
    → Collects f o s o2 u.number u.len
collects_next f o s u o2 l more is did = record {
  more = more;
  entries = u ∷ [];
  is_entry = single_entry f (chain o) (length (collects o)) u (λ on. ap (λ (v : Used). v.number) (sym is)
      ∙ l.in_order on (length (collects o)) more);
  were_given = ap (λ (v : Used). v ∷ []) (sym is) ∙ sym (next_pair (gives s) (length (collects o)) more);
  last = refl;
  collected = did;
}

takes_offered : (cs : List (List Piece)) (ps : List (List ℕ)) (c : List Piece) (p : List ℕ) (s : List DeviceDone)
    → length ps ≡ length cs → AreTakes cs ps s → AreTakes (cs ++ c ∷ []) (ps ++ p ∷ []) s
takes_offered cs ps c p [] n a = tt
takes_offered cs ps c p (Take d h ∷ s) n a = (
  omega (arith, length_push cs c, a.0),
  a.1 ∙ sym (get_or_append_left cs (c ∷ []) [] (length (takes s)) a.0),
  a.2 ∙ ap first (sym (get_or_append_left ps (p ∷ []) [] (length (takes s)) (omega (arith, a.0)))),
  takes_offered cs ps c p s n a.3,
)
takes_offered cs ps c p (Give us ∷ s) n a = takes_offered cs ps c p s n a
takes_offered cs ps c p (Rest ∷ s) n a = takes_offered cs ps c p s n a
takes_offered cs ps c p (StoreAck h x ∷ s) n a = takes_offered cs ps c p s n a
takes_offered cs ps c p (LoadCommand k i x ∷ s) n a = takes_offered cs ps c p s n a

pub lists_offered : (f : Frame) (o : List DriverDone) (c : List Piece) (s : List DeviceDone) → Places f o → Lists f o s
    → Lists f (Offer c ∷ o) s
lists_offered f o c s pl l = record {
  taken = l.taken ∙ sym (take-append-le (length (takes s)) (offers o) (c ∷ []) l.some);
  some = omega (arith, length_push (offers o) c, l.some);
  as_many = l.as_many;
  ever = takes_offered (offers o) ((held f o).1) c (take (borrowed f c) (free f o)) s pl.listed l.ever;
  heads = λ k below. l.heads k below ∙ ap first (sym (places_before f o c k pl (omega (arith, l.some))));
  given = l.given;
  count = l.count;
  entries = l.entries;
  collected = l.collected;
  fewer = l.fewer;
  cut = l.cut;
  in_order = l.in_order;
}

pub lists_collected : (f : Frame) (o : List DriverDone) (s : List DeviceDone) → Lists f o s → length (collects o) < length (gives s)
    → Lists f (Collect (used_at (gives s) (length (collects o)) ∷ []) ∷ o) s
lists_collected f o s l below =
    let m : ℕ = length (collects o) in let u : Used = used_at (gives s) m in
    let longer : length (collects o ++ u ∷ []) ≡ m + 1 = length_push (collects o) u in
    record {
      taken = l.taken;
      some = l.some;
      as_many = l.as_many;
      heads = l.heads;
      ever = l.ever;
      given = l.given;
      count = l.count;
      entries = l.entries;
      collected = ap (λ (us : List Used). us ++ u ∷ []) l.collected
          ∙ (sym (take_more (gives s) m (entry 0 0) below) ∙ ap (λ (n : ℕ). take n (gives s)) (sym longer));
      fewer = omega arith;
      cut = λ h. entry_each f s (length (collects o ++ u ∷ [])) l.entries h;
      in_order = l.in_order;
    }
