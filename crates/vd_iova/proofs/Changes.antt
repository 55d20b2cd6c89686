-- One mapping more, in the list and in both indexes.
use Rattle.std.proofs.Common.{ℕ, ◌≡◌, ◌≤◌, ◌<◌, ◌+◌, ◌⊎◌, inl, inr, List, [], ◌∷◌, Option, Some, None, arith, sym, ◌∙◌, ap, subst, false, cond, nat_lt, nat_eq, refl, map}
use Rattle.std.specs.List.{AllByRecursion}
use Rattle.std.specs.Map.{values_of}
use Rattle.std.specs.Ordering.{nat_cmp}
use Rattle.std.specs.BTreeMap.{is_at, insert_entry}
use Rattle.std.proofs.lemmas.Bool.{both_ways, cases_Bool, cases_lt, cases_order, eqb-true, eq-eqb, ne_eqb, lt-ltb, le-ltb}
use Rattle.std.proofs.lemmas.Bool.Decides.{nat_tests}
use Rattle.vd_model.specs.declared.map.Mapping.{Mapping}
use Rattle.vd_iova.specs.Ranges.{meets, meets_guest, meets_iova}
use Rattle.vd_iova.specs.Trees.{Tree, IsBefore, IsApart, IsWithin, IsKept, placed, added}
use Rattle.vd_iova.specs.Indexes.{IsFresh, Has, IsIndex}
use Rattle.vd_iova.proofs.Members.{of_each, none_passes, meets_from_ends, no_common}
use Rattle.vd_iova.proofs.Keyed.{entry, at_key}

-- the list of mappings under their iovas
pub values-entries : (ms : List Mapping) → values_of (map entry ms) ≡ ms
values-entries [] = refl
values-entries (m ∷ ms) = ap (λ ns. m ∷ ns) (values-entries ms)

-- ranges that do not meet lie apart
pub sides : (a la b lb : ℕ) → 0 < la → 0 < lb → meets a la b lb ≡ false → (a + la ≤ b) ⊎ (b + lb ≤ a)
sides a la b lb some other h = elim (cases_lt a (b + lb)) [
  | inr k ↦ inr k
  | inl k ↦ elim (cases_lt b (a + la)) [ inr l ↦ inl l | inl l ↦ absurd (both_ways (meets a la b lb) h (meets_from_ends a la b lb k l)) ]
]

pub meets-flip : (a la b lb : ℕ) → meets a la b lb ≡ false → meets b lb a la ≡ false
meets-flip a la b lb h = grind (arith, nat_tests)

-- ---- one more

pub has_placed : (m : Mapping) (ms : List Mapping) → Has (placed m ms) m
has_placed m [] = inl refl
has_placed m (n ∷ ns) = elim (cases_Bool (nat_lt m.iova n.iova)) [
  | inl t ↦ rw t (inl refl)
  | inr f ↦ rw f (inr (has_placed m ns))
]

pub has_still : (m : Mapping) (ms : List Mapping) (o : Mapping) → Has ms o → Has (placed m ms) o
has_still m [] o has = absurd has
has_still m (n ∷ ns) o has = elim (cases_Bool (nat_lt m.iova n.iova)) [
  | inl t ↦ rw t (inr has)
  | inr f ↦ rw f (elim has [ inl h ↦ inl h | inr h ↦ inr (has_still m ns o h) ])
]

pub has_either : (m : Mapping) (ms : List Mapping) (o : Mapping) → Has (placed m ms) o → (m ≡ o) ⊎ Has ms o
has_either m [] o (inl h) = inl h
has_either m [] o (inr h) = absurd h
has_either m (n ∷ ns) o has = elim (cases_Bool (nat_lt m.iova n.iova)) [
  | inl t ↦ rw t at has
  | inr f ↦ (let in_rest = rw f at has in elim in_rest [
    | inl h ↦ inr (inl h)
    | inr h ↦ elim (has_either m ns o h) [ inl k ↦ inl k | inr k ↦ inr (inr k) ]
  ])
]

pub all_placed : (P : Mapping → Type 0) (m : Mapping) (ms : List Mapping) → P m → AllByRecursion P ms → AllByRecursion P (placed m ms)
all_placed P m [] one all = (one, tt)
all_placed P m (n ∷ ns) one all = elim (cases_Bool (nat_lt m.iova n.iova)) [
  | inl t ↦ rw t (one, all)
  | inr f ↦ rw f (all.0, all_placed P m ns one all.1)
]

-- what holds of each mapping that the list has
pub all_from_has : (P : Mapping → Type 0) (ms : List Mapping) → ((n : Mapping) → Has ms n → P n) → AllByRecursion P ms
all_from_has P [] each = tt
all_from_has P (n ∷ ns) each = (each n (inl refl), all_from_has P ns (λ o h. each o (inr h)))

-- no mapping is below the first of a list in order
pub first_lowest : (first last : ℕ) (n : Mapping) (ns : List Mapping) → AllByRecursion (IsWithin first last) (n ∷ ns) → IsApart (n ∷ ns)
    → (o : Mapping) → Has (n ∷ ns) o → n.iova ≤ o.iova
first_lowest first last n ns within apart o (inl h) = let e : n.iova ≡ o.iova = ap (λ (y : Mapping). y.iova) h in omega arith
first_lowest first last n ns within apart o (inr h) = let before = of_each (IsBefore n) ns o apart.0 h in omega (arith, before.iova)

pub apart_placed : (first last : ℕ) (m : Mapping) (ms : List Mapping) → IsWithin first last m → AllByRecursion (IsWithin first last) ms
    → IsApart ms
    → ((n : Mapping) → Has ms n → meets_iova m.iova m.size n ≡ false)
    → ((n : Mapping) → Has ms n → meets_guest m.guest m.size n ≡ false) → IsApart (placed m ms)
apart_placed first last m [] mine within apart iovas guests = (tt, tt)
apart_placed first last m (n ∷ ns) mine within apart iovas guests = elim (cases_Bool (nat_lt m.iova n.iova)) [
  | inl t ↦ rw t (
    all_from_has (IsBefore m) (n ∷ ns) (λ o has.
        let low : n.iova ≤ o.iova = first_lowest first last n ns within apart o has in
        let theirs = of_each (IsWithin first last) (n ∷ ns) o within has in
        let below : m.iova < n.iova = grind (arith, nat_tests) in
        record {
          iova = elim (sides m.iova m.size o.iova o.size mine.has_byte theirs.has_byte (iovas o has))
              [ inl h ↦ h | inr h ↦ absurd (omega (arith, theirs.has_byte)) ];
          guest = guests o has;
        }),
    apart,
  )
  | inr f ↦ rw f (
    all_placed (IsBefore n) m ns
        (let above : n.iova ≤ m.iova = grind (arith, nat_tests) in
        record {
          iova = elim (sides m.iova m.size n.iova n.size mine.has_byte within.0.has_byte (iovas n (inl refl)))
              [ inl h ↦ absurd (omega (arith, mine.has_byte)) | inr h ↦ h ];
          guest = meets-flip m.guest m.size n.guest n.size (guests n (inl refl));
        }) apart.0,
    apart_placed first last m ns mine within.1 apart.1 (λ o h. iovas o (inr h)) (λ o h. guests o (inr h)),
  )
]

-- the tree with a fresh mapping is kept
pub kept_added : (t : Tree) (m : Mapping) → IsKept t → IsFresh t m → IsKept (added t m)
kept_added t m kept fresh = record {
  range = kept.range;
  within = all_placed (IsWithin t.first t.last) m t.mappings fresh.within kept.within;
  apart = apart_placed t.first t.last m t.mappings fresh.within kept.within kept.apart
      (λ n h. none_passes (meets_iova m.iova m.size) t.mappings n fresh.iova h)
      (λ n h. none_passes (meets_guest m.guest m.size) t.mappings n fresh.guest h);
}

-- no kept mapping starts where a fresh one does
pub fresh_iova : (t : Tree) (m n : Mapping) → IsKept t → IsFresh t m → Has t.mappings n → n.iova ≡ m.iova → ⊥
fresh_iova t m n kept fresh has e =
    let theirs = of_each (IsWithin t.first t.last) t.mappings n kept.within has in
    no_common m.iova m.size n.iova n.size m.iova (none_passes (meets_iova m.iova m.size) t.mappings n fresh.iova has)
    (omega arith) (omega (arith, fresh.within.has_byte)) (omega arith) (omega (arith, theirs.has_byte))

pub fresh_guest : (t : Tree) (m n : Mapping) → IsKept t → IsFresh t m → Has t.mappings n → n.guest ≡ m.guest → ⊥
fresh_guest t m n kept fresh has e =
    let theirs = of_each (IsWithin t.first t.last) t.mappings n kept.within has in
    no_common m.guest m.size n.guest n.size m.guest (none_passes (meets_guest m.guest m.size) t.mappings n fresh.guest has)
    (omega arith) (omega (arith, fresh.within.has_byte)) (omega arith) (omega (arith, theirs.has_byte))

-- the entries with a mapping under a new iova
pub insert-entries : (m : Mapping) (ms : List Mapping) → ((n : Mapping) → Has ms n → n.iova ≡ m.iova → ⊥)
    → insert_entry nat_cmp (map entry ms) m.iova m ≡ map entry (placed m ms)
insert-entries m [] other = refl
insert-entries m (n ∷ ns) other = elim (cases_order m.iova n.iova) [
  | inl e ↦ absurd (other n (inl refl) (sym e))
  | inr (inl h) ↦ rw (lt-ltb m.iova n.iova h) refl
  | inr (inr h) ↦ (let ge : nat_lt m.iova n.iova ≡ false = le-ltb m.iova n.iova (omega arith) in
      let ne : nat_eq m.iova n.iova ≡ false = ne_eqb m.iova n.iova (λ e. omega arith) in
      rw (ge, ne) (ap (λ es. entry n ∷ es) (insert-entries m ns (λ o k. other o (inr k)))))
]

-- an index with a mapping under a new key
pub index_added : (key : Mapping → ℕ) (was now : ℕ → Option Mapping) (m : Mapping) (ms : List Mapping) → IsIndex key was ms
    → ((q : ℕ) → now q ≡ cond (is_at (nat_cmp (key m)) q) (Some m) (was q)) → ((n : Mapping) → Has ms n → key n ≡ key m → ⊥)
    → IsIndex key now (placed m ms)
index_added key was now m ms index step other = record {
  sound = λ q o e. elim (cases_Bool (nat_eq (key m) q)) [
    | inl t ↦ (let got : Some m ≡ Some o = sym (step q ∙ (rw (at_key (key m) q ∙ t) refl)) ∙ e in
        let same : m ≡ o = cc in
        (subst (Has (placed m ms)) same (has_placed m ms), ap key (sym same) ∙ eqb-true (key m) q t))
    | inr f ↦ (let got : was q ≡ Some o = sym (step q ∙ (rw (at_key (key m) q ∙ f) refl)) ∙ e in
        let rest = index.sound q o got in (has_still m ms o rest.0, rest.1))
  ];
  whole = λ o has. elim (has_either m ms o has) [
    | inl e ↦ step (key o) ∙ (rw (at_key (key m) (key o) ∙ eq-eqb (key m) (key o) (ap key e)) (ap Some e))
    | inr h ↦ step (key o) ∙ (rw (at_key (key m) (key o) ∙ ne_eqb (key m) (key o) (λ e. other o h (sym e))) (index.whole o h))
  ];
}

-- an index that finds the same is an index
pub index_same : (key : Mapping → ℕ) (was now : ℕ → Option Mapping) (ms : List Mapping) → IsIndex key was ms → ((q : ℕ) → now q ≡ was q)
    → IsIndex key now ms
index_same key was now ms index same = record {
  sound = λ q o e. index.sound q o (sym (same q) ∙ e);
  whole = λ o has. same (key o) ∙ index.whole o has;
}

-- a mapping that was put under a new key and taken out again
pub index_undone : (key : Mapping → ℕ) (was put now : ℕ → Option Mapping) (m : Mapping) (ms : List Mapping) → IsIndex key was ms
    → ((q : ℕ) → put q ≡ cond (is_at (nat_cmp (key m)) q) (Some m) (was q))
    → ((q : ℕ) → now q ≡ cond (is_at (nat_cmp (key m)) q) None (put q))
    → ((n : Mapping) → Has ms n → key n ≡ key m → ⊥) → IsIndex key now ms
index_undone key was put now m ms index step back other = index_same key was now ms index (λ q. elim (cases_Bool (nat_eq (key m) q)) [
  | inl t ↦ (let gone : now q ≡ None = back q ∙ (rw (at_key (key m) q ∙ t) refl) in
      gone ∙ sym (absent q (was q) refl (sym (eqb-true (key m) q t))))
  | inr f ↦ back q ∙ (rw (at_key (key m) q ∙ f) (step q ∙ (rw (at_key (key m) q ∙ f) refl)))
])
  where
    absent : (q : ℕ) (o : Option Mapping) → was q ≡ o → q ≡ key m → was q ≡ None
    absent q None e at = e
    absent q (Some n) e at = let it = index.sound q n e in absurd (other n it.0 (it.1 ∙ at))
