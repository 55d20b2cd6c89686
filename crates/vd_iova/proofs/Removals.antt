-- One mapping less, in the list and in both indexes.
use Rattle.std.proofs.Common.{ℕ, ◌≡◌, ◌<◌, not, inl, inr, List, [], ◌∷◌, Option, Some, None, arith, sym, ◌∙◌, ap, subst, false, true, cond, Bool, nat_eq, refl, find, map, filter}
use Rattle.std.specs.List.{AllByRecursion}
use Rattle.std.specs.Map.{lookup, remove_entry}
use Rattle.std.specs.Ordering.{nat_cmp}
use Rattle.std.specs.BTreeMap.{is_at}
use Rattle.std.proofs.lemmas.Bool.{both_ways, cases_Bool, eqb-true, eq-eqb, ne_eqb}
use Rattle.std.proofs.lemmas.Bool.Decides.{nat_tests}
use Rattle.vd_model.specs.declared.map.Mapping.{Mapping}
use Rattle.vd_iova.specs.Trees.{Tree, IsBefore, IsApart, IsWithin, IsKept, starts, without}
use Rattle.vd_iova.specs.Indexes.{Has, IsIndex}
use Rattle.vd_iova.proofs.Members.{of_each, same_guest, same_iova}
use Rattle.vd_iova.proofs.Keyed.{entry, at_key}
use Rattle.vd_iova.proofs.Changes.{all_from_has}

-- what a look-up under an iova finds is the mapping that starts there
pub lookup-entries : (k : ℕ) (ms : List Mapping) → lookup (is_at (nat_cmp k)) (map entry ms) ≡ find (starts k) ms
lookup-entries k [] = refl
lookup-entries k (n ∷ ns) = rw (at_key k n.iova, lookup-entries k ns) refl

-- a filter that each passes keeps all
pub filter_all : (p : Mapping → Bool) (ms : List Mapping) → ((n : Mapping) → Has ms n → p n ≡ true) → filter p ms ≡ ms
filter_all p [] each = refl
filter_all p (n ∷ ns) each = rw (each n (inl refl)) (ap (λ os. n ∷ os) (filter_all p ns (λ o h. each o (inr h))))

pub has_filter : (p : Mapping → Bool) (ms : List Mapping) (m : Mapping) → Has (filter p ms) m → Has ms m × (p m ≡ true)
has_filter p [] m has = absurd has
has_filter p (n ∷ ns) m has = elim (cases_Bool (p n)) [
  | inl t ↦ (let kept = rw t at has in elim kept [
    | inl h ↦ (inl h, subst (λ (y : Mapping). p y ≡ true) h t)
    | inr h ↦ (let rest = has_filter p ns m h in (inr rest.0, rest.1))
  ])
  | inr f ↦ (let rest = has_filter p ns m (rw f at has) in (inr rest.0, rest.1))
]

pub filter_has : (p : Mapping → Bool) (ms : List Mapping) (m : Mapping) → Has ms m → p m ≡ true → Has (filter p ms) m
filter_has p [] m has passes = absurd has
filter_has p (n ∷ ns) m has passes = elim (cases_Bool (p n)) [
  | inl t ↦ rw t (elim has [ inl h ↦ inl h | inr h ↦ inr (filter_has p ns m h passes) ])
  | inr f ↦ rw f (elim has [ inl h ↦ absurd (both_ways (p n) f (ap p h ∙ passes)) | inr h ↦ filter_has p ns m h passes ])
]

pub all_filter : (P : Mapping → Type 0) (p : Mapping → Bool) (ms : List Mapping) → AllByRecursion P ms → AllByRecursion P (filter p ms)
all_filter P p ms all = all_from_has P (filter p ms) (λ n h. of_each P ms n all (has_filter p ms n h).0)

pub apart_filter : (p : Mapping → Bool) (ms : List Mapping) → IsApart ms → IsApart (filter p ms)
apart_filter p [] apart = tt
apart_filter p (n ∷ ns) apart = elim (cases_Bool (p n)) [
  | inl t ↦ rw t (all_filter (IsBefore n) p ns apart.0, apart_filter p ns apart.1)
  | inr f ↦ rw f (apart_filter p ns apart.1)
]

-- the mapping does not start at an iova
abbrev pub elsewhere : ℕ → Mapping → Bool
elsewhere k m = not (starts k m)

pub elsewhere_from : (k : ℕ) (m : Mapping) → (k ≡ m.iova → ⊥) → elsewhere k m ≡ true
elsewhere_from k m h = ap not (ne_eqb k m.iova h)

pub not_elsewhere : (k : ℕ) (m : Mapping) → elsewhere k m ≡ true → k ≡ m.iova → ⊥
not_elsewhere k m h e = grind (arith, nat_tests)

-- the tree without a mapping is kept
pub kept_without : (t : Tree) (k : ℕ) → IsKept t → IsKept (without t k)
kept_without t k kept = record {
  range = kept.range;
  within = all_filter (IsWithin t.first t.last) (elsewhere k) t.mappings kept.within;
  apart = apart_filter (elsewhere k) t.mappings kept.apart;
}

-- the entries without the one under an iova
pub remove-entries : (first last k : ℕ) (ms : List Mapping) → AllByRecursion (IsWithin first last) ms → IsApart ms
    → remove_entry (is_at (nat_cmp k)) (map entry ms) ≡ map entry (filter (elsewhere k) ms)
remove-entries first last k [] within apart = refl
remove-entries first last k (n ∷ ns) within apart = elim (cases_Bool (nat_eq k n.iova)) [
  | inl t ↦ (let here : is_at (nat_cmp k) n.iova ≡ true = at_key k n.iova ∙ t in
      let others = filter_all (elsewhere k) ns (λ o h. elsewhere_from k o (λ e.
      let before = of_each (IsBefore n) ns o apart.0 h in
      let byte : 0 < n.size = within.0.has_byte in
      let at : k ≡ n.iova = eqb-true k n.iova t in
      omega (arith, before.iova))) in
      rw (here, t) (ap (map entry) (sym others)))
  | inr f ↦ (let there : is_at (nat_cmp k) n.iova ≡ false = at_key k n.iova ∙ f in
      rw (there, f) (ap (λ es. entry n ∷ es) (remove-entries first last k ns within.1 apart.1)))
]

-- an index without a mapping
pub index_removed : (key : Mapping → ℕ) (was now : ℕ → Option Mapping) (m : Mapping) (ms : List Mapping) → IsIndex key was ms → Has ms m
    → ((q : ℕ) → now q ≡ cond (is_at (nat_cmp (key m)) q) None (was q)) → ((n : Mapping) → Has ms n → key n ≡ key m → n ≡ m)
    → ((n : Mapping) → Has ms n → n.iova ≡ m.iova → n ≡ m)
    → IsIndex key now (filter (elsewhere m.iova) ms)
index_removed key was now m ms index has step same_key same_start = record {
  sound = λ q o e. elim (cases_Bool (nat_eq (key m) q)) [
    | inl t ↦ (let gone : None ≡ Some o = sym (step q ∙ (rw (at_key (key m) q ∙ t) refl)) ∙ e in cc)
    | inr f ↦ (let got : was q ≡ Some o = sym (step q ∙ (rw (at_key (key m) q ∙ f) refl)) ∙ e in
        let rest = index.sound q o got in (
          filter_has (elsewhere m.iova) ms o rest.0
              (elsewhere_from m.iova o (λ s. both_ways (nat_eq (key m) q) f
              (eq-eqb (key m) q (sym (ap key (same_start o rest.0 (sym s))) ∙ rest.1)))),
          rest.1,
        ))
  ];
  whole = λ o h.
      let rest = has_filter (elsewhere m.iova) ms o h in
      step (key o) ∙ (rw (at_key (key m) (key o)
      ∙ ne_eqb (key m) (key o) (λ e. not_elsewhere m.iova o rest.1 (sym (ap (λ (y : Mapping). y.iova) (same_key o rest.0 (sym e))))))
      (index.whole o rest.0));
}

-- two kept mappings that start at one address are the same
pub same_start_iova : (t : Tree) (m n : Mapping) → IsKept t → Has t.mappings m → Has t.mappings n → n.iova ≡ m.iova → n ≡ m
same_start_iova t m n kept h k e =
    let mine = of_each (IsWithin t.first t.last) t.mappings m kept.within h in
    let theirs = of_each (IsWithin t.first t.last) t.mappings n kept.within k in
    same_iova t.mappings n m m.iova kept.apart k h (omega arith) (omega (arith, theirs.has_byte)) (omega arith)
    (omega (arith, mine.has_byte))

pub same_start_guest : (t : Tree) (m n : Mapping) → IsKept t → Has t.mappings m → Has t.mappings n → n.guest ≡ m.guest → n ≡ m
same_start_guest t m n kept h k e =
    let mine = of_each (IsWithin t.first t.last) t.mappings m kept.within h in
    let theirs = of_each (IsWithin t.first t.last) t.mappings n kept.within k in
    same_guest t.mappings n m m.guest kept.apart k h (omega arith) (omega (arith, theirs.has_byte)) (omega arith)
    (omega (arith, mine.has_byte))
