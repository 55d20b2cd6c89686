-- The first of the mappings, in order of iova, that a range meets.
use Rattle.std.proofs.Common.{ℕ, ◌≡◌, ◌≤◌, ◌<◌, ◌+◌, ◌-◌, ◌||◌, inl, inr, List, [], ◌∷◌, Option, Some, None, arith, sym, ◌∙◌, ap, subst, false, true, Bool, nat_le, refl, find, IfSome}
use Rattle.std.specs.List.{All, AllByRecursion}
use Rattle.std.specs.Map.{lookup}
use Rattle.std.specs.Ordering.{nat_cmp}
use Rattle.std.specs.BTreeMap.{BTreeMap, get, is_at}
use Rattle.std.specs.BTreeMap.Range.{IsEntryInRange, entries_between, range_contains}
use Rattle.std.specs.declared.ops.Bound.TheVariants.{Included, Excluded}
use Rattle.std.proofs.lemmas.List.Elements.{All-tail}
use Rattle.std.proofs.lemmas.Map.Keys.{le_from_not_gt}
use Rattle.std.proofs.lemmas.Map.Entries.{lookup-filter-keys}
use Rattle.std.proofs.lemmas.Bool.Decides.{nat_tests}
use Rattle.std.proofs.lemmas.Bool.{both_ways, cases_Bool, cases_lt, or_cases, leb-true, leb-false, eqb-true}
use Rattle.vd_model.specs.declared.map.Mapping.{Mapping}
use Rattle.vd_model.specs.Maps.{holds_guest, holds_iova}
use Rattle.vd_iova.specs.Ranges.{meets_guest, meets_iova}
use Rattle.vd_iova.specs.Trees.{Tree, IsBefore, IsApart, IsWithin, IsKept}
use Rattle.vd_iova.specs.Indexes.{Has, IsIndex, IsGreatest, IsFirst, lower_of}
use Rattle.vd_iova.proofs.Members.{of_each, found, find_none, none_passes, same_iova, ends_from_meets, meets_from_ends}
use Rattle.vd_iova.proofs.Translations.{IsSingle, single_guest, only_holds, holds, floor_holds, floor_fails, ends_from_holds, holds_from_ends}
use Rattle.vd_iova.proofs.Changes.{first_lowest}
use Rattle.vd_iova.proofs.Keyed.{at_key}
use Rattle.vd_iova.proofs.Floors.{lt_from_less}

-- what is found has the lowest iova of those that pass
pub found_lowest : (first last : ℕ) (p : Mapping → Bool) (ms : List Mapping) (m n : Mapping) → AllByRecursion (IsWithin first last) ms
    → IsApart ms
    → find p ms ≡ Some m → Has ms n → p n ≡ true → m.iova ≤ n.iova
found_lowest first last p [] m n within apart e has passes = absurd has
found_lowest first last p (o ∷ os) m n within apart e has passes = elim (cases_Bool (p o)) [
  | inl t ↦ (let got : Some o ≡ Some m = rw t at e in
      let same : o ≡ m = cc in
      subst (λ (y : Mapping). y.iova ≤ n.iova) same (first_lowest first last o os within apart n has))
  | inr f ↦ found_lowest first last p os m n within.1 apart.1 (rw f at e)
      (elim has [ inl h ↦ absurd (both_ways (p o) f (ap p h ∙ passes)) | inr h ↦ h ]) passes
]

-- the one with the lowest iova of those that pass is found
pub find_lowest : (first last : ℕ) (p : Mapping → Bool) (ms : List Mapping) (m : Mapping) → AllByRecursion (IsWithin first last) ms
    → IsApart ms
    → Has ms m → p m ≡ true → ((n : Mapping) → Has ms n → p n ≡ true → m.iova ≤ n.iova) → find p ms ≡ Some m
find_lowest first last p [] m within apart has passes low = absurd has
find_lowest first last p (o ∷ os) m within apart has passes low = elim (cases_Bool (p o)) [
  | inl t ↦ rw t (elim has [
    | inl h ↦ ap Some h
    | inr h ↦ (let before : IsBefore o m = of_each (IsBefore o) os m apart.0 h in
        absurd (omega (arith, before.iova, within.0.has_byte, low o (inl refl) t)))
  ])
  | inr f ↦ rw f (find_lowest first last p os m within.1 apart.1
      (elim has [ inl h ↦ absurd (both_ways (p o) f (ap p h ∙ passes)) | inr h ↦ h ]) passes (λ n k. low n (inr k)))
]

-- ---- the mapping at an address

pub at_found : (start : Mapping → ℕ) (ms : List Mapping) (addr : ℕ) (m : Mapping) → IsSingle start ms → IsGreatest start addr ms m
    → addr - start m < m.size
    → find (holds start addr 1) ms ≡ Some m
at_found start ms addr m single floor inside = floor_holds start ms addr 1 m single (omega arith) floor (omega (arith, floor.below))

pub at_missed : (start : Mapping → ℕ) (ms : List Mapping) (addr : ℕ) (m : Mapping) → IsSingle start ms → IsGreatest start addr ms m
    → m.size ≤ addr - start m
    → find (holds start addr 1) ms ≡ None
at_missed start ms addr m single floor past =
    floor_fails start ms addr 1 m single (omega arith) floor (omega (arith, floor.below, single.has_byte m floor.has))

-- ---- a range of iovas

-- the mapping that holds the first iova is the first that the range meets
pub iova_met_at : (t : Tree) (iova size : ℕ) (m : Mapping) → IsKept t → 0 < size → find (holds_iova iova 1) t.mappings ≡ Some m
    → find (meets_iova iova size) t.mappings ≡ Some m
iova_met_at t iova size m kept some e =
    let is = found (holds_iova iova 1) t.mappings m e in
    let ends = ends_from_holds m.iova m.size iova 1 is.1 in
    find_lowest t.first t.last (meets_iova iova size) t.mappings m kept.within kept.apart is.0
    (meets_from_ends iova size m.iova m.size (omega arith) (omega arith))
    (λ n has met.
    let theirs = ends_from_meets iova size n.iova n.size met in
    elim (cases_lt n.iova m.iova) [
      | inr h ↦ h
      | inl h ↦ (let same : n ≡ m = same_iova t.mappings n m m.iova kept.apart has is.0 (omega arith) (omega arith) (omega arith)
          (omega arith) in
          let at : n.iova ≡ m.iova = ap (λ (y : Mapping). y.iova) same in omega arith)
    ])

-- else it is the first that starts in the range
pub iova_met_after : (t : Tree) (iova size : ℕ) (o : Option Mapping) → IsKept t → 0 < size → find (holds_iova iova 1) t.mappings ≡ None
    → IsFirst (λ m. m.iova) iova (iova + size) t.mappings o → find (meets_iova iova size) t.mappings ≡ o
iova_met_after t iova size None kept some none first =
    find_none (meets_iova iova size) t.mappings (λ n has. elim (cases_Bool (meets_iova iova size n)) [
      | inr f ↦ f
      | inl met ↦ (let theirs = ends_from_meets iova size n.iova n.size met in
          elim (cases_lt iova n.iova) [
            | inl h ↦ absurd (omega (arith, first n has (omega arith)))
            | inr h ↦ absurd (both_ways (holds_iova iova 1 n) (none_passes (holds_iova iova 1) t.mappings n none has)
                (holds_from_ends n.iova n.size iova 1 h (omega arith)))
          ])
    ])
iova_met_after t iova size (Some m) kept some none first =
    let mine = of_each (IsWithin t.first t.last) t.mappings m kept.within first.has in
    find_lowest t.first t.last (meets_iova iova size) t.mappings m kept.within kept.apart first.has
    (meets_from_ends iova size m.iova m.size (omega (arith, first.from, mine.has_byte)) first.below)
    (λ n has met.
    let theirs = ends_from_meets iova size n.iova n.size met in
    elim (cases_lt iova n.iova) [
      | inl h ↦ first.lowest n has (omega arith) theirs.1
      | inr h ↦ absurd (both_ways (holds_iova iova 1 n) (none_passes (holds_iova iova 1) t.mappings n none has)
          (holds_from_ends n.iova n.size iova 1 h (omega arith)))
    ])

-- ---- either of two tests

or_left : (a b : Bool) → a ≡ true → (a || b) ≡ true
or_left true b e = refl
or_left false b e = absurd cc

or_right : (a b : Bool) → b ≡ true → (a || b) ≡ true
or_right true b e = refl
or_right false b e = e

-- the first that passes one of two tests, from the first that passes each
pub find_either : (t : Tree) (p q : Mapping → Bool) (g : Mapping) (o : Option Mapping) → IsKept t → find p t.mappings ≡ Some g
    → find q t.mappings ≡ o
    → find (λ k. p k || q k) t.mappings ≡ Some (lower_of o g)
find_either t p q g None kept e f =
    let is = found p t.mappings g e in
    find_lowest t.first t.last (λ k. p k || q k) t.mappings g kept.within kept.apart is.0 (or_left (p g) (q g) is.1) (λ n has passes.
    elim (or_cases (p n) (q n) passes) [
      | inl h ↦ found_lowest t.first t.last p t.mappings g n kept.within kept.apart e has h
      | inr h ↦ absurd (both_ways (q n) (none_passes q t.mappings n f has) h)
    ])
find_either t p q g (Some k) kept e f =
    let is = found p t.mappings g e in
    let its = found q t.mappings k f in
    elim (cases_Bool (nat_le k.iova g.iova)) [
      | inl low ↦ (let le : k.iova ≤ g.iova = leb-true k.iova g.iova low in
          rw low (find_lowest t.first t.last (λ k. p k || q k) t.mappings k kept.within kept.apart its.0 (or_right (p k) (q k) its.1)
          (λ n has passes.
          elim (or_cases (p n) (q n) passes) [
            | inl h ↦ omega (arith, found_lowest t.first t.last p t.mappings g n kept.within kept.apart e has h)
            | inr h ↦ found_lowest t.first t.last q t.mappings k n kept.within kept.apart f has h
          ])))
      | inr high ↦ (let gt : g.iova < k.iova = leb-false k.iova g.iova high in
          rw high (find_lowest t.first t.last (λ k. p k || q k) t.mappings g kept.within kept.apart is.0 (or_left (p g) (q g) is.1)
          (λ n has passes.
          elim (or_cases (p n) (q n) passes) [
            | inl h ↦ found_lowest t.first t.last p t.mappings g n kept.within kept.apart e has h
            | inr h ↦ omega (arith, found_lowest t.first t.last q t.mappings k n kept.within kept.apart f has h)
          ])))
    ]

-- where none passes the first test
pub find_second : (p q : Mapping → Bool) (ms : List Mapping) → find p ms ≡ None → find (λ k. p k || q k) ms ≡ find q ms
find_second p q [] e = refl
find_second p q (n ∷ ns) e = elim (cases_Bool (p n)) [
  | inl t ↦ (let no = rw t at e in cc)
  | inr f ↦ rw (f, find_second p q ns (rw f at e)) refl
]

-- ---- a range of guest addresses

-- the one with the lowest iova of a first and those of a list
abbrev pub lowest_of : Option Mapping → List (ℕ × Mapping) → Option Mapping
lowest_of o [] = o
lowest_of o (e ∷ es) = lowest_of (Some (lower_of o e.1)) es

-- there is one, and its iova is not above x
abbrev pub IsAtMost : ℕ → Option Mapping → Type 0
IsAtMost x None = ⊥
IsAtMost x (Some m) = m.iova ≤ x

lower_first : (x : ℕ) (o : Option Mapping) (m : Mapping) → IsAtMost x o → IsAtMost x (Some (lower_of o m))
lower_first x None m low = absurd low
lower_first x (Some k) m low = elim (cases_Bool (nat_le k.iova m.iova)) [
  | inl t ↦ rw t low
  | inr f ↦ (let gt : m.iova < k.iova = leb-false k.iova m.iova f in rw f (omega arith))
]

lower_second : (o : Option Mapping) (m : Mapping) → IsAtMost m.iova (Some (lower_of o m))
lower_second None m = omega arith
lower_second (Some k) m = elim (cases_Bool (nat_le k.iova m.iova)) [
  | inl t ↦ rw t (leb-true k.iova m.iova t)
  | inr f ↦ rw f (omega arith)
]

lower_either : (P : Mapping → Type 0) (o : Option Mapping) (m : Mapping) → IfSome o P → P m → P (lower_of o m)
lower_either P None m h k = k
lower_either P (Some n) m h k = elim (cases_Bool (nat_le n.iova m.iova)) [ inl t ↦ rw t h | inr f ↦ rw f k ]

-- what holds of the first and of each of the list
lowest_of-holds : (P : Mapping → Type 0) (o : Option Mapping) (es : List (ℕ × Mapping)) → IfSome o P → AllByRecursion (λ e. P e.1) es
    → IfSome (lowest_of o es) P
lowest_of-holds P o [] h all = h
lowest_of-holds P o (e ∷ es) h all = lowest_of-holds P (Some (lower_of o e.1)) es (lower_either P o e.1 h all.0) all.1

lowest_of-first : (x : ℕ) (o : Option Mapping) (es : List (ℕ × Mapping)) → IsAtMost x o → IsAtMost x (lowest_of o es)
lowest_of-first x o [] low = low
lowest_of-first x o (e ∷ es) low = lowest_of-first x (Some (lower_of o e.1)) es (lower_first x o e.1 low)

lowest_of-each : (test : ℕ → Bool) (n : Mapping) (o : Option Mapping) (es : List (ℕ × Mapping)) → lookup test es ≡ Some n
    → IsAtMost n.iova (lowest_of o es)
lowest_of-each test n o [] e = cc
lowest_of-each test n o (f ∷ fs) e = elim (cases_Bool (test f.0)) [
  | inl t ↦ (let got : Some f.1 ≡ Some n = rw t at e in
      let same : f.1 ≡ n = cc in
      lowest_of-first n.iova (Some (lower_of o f.1)) fs
      (subst (λ (y : Mapping). IsAtMost y.iova (Some (lower_of o f.1))) same (lower_second o f.1)))
  | inr other ↦ lowest_of-each test n (Some (lower_of o f.1)) fs (rw other at e)
]

-- what is left of a range: each entry is of the index and in the range, and each of the index in the range is there
pub record IsRange (start end : ℕ) (found : ℕ → Option Mapping) (es : List (ℕ × Mapping)) : Type 0 where
  pub each : AllByRecursion (λ e. (start ≤ e.0) × (e.0 < end) × (found e.0 ≡ Some e.1)) es
  pub all : (q : ℕ) → start ≤ q → q < end → lookup (is_at (nat_cmp q)) es ≡ found q

met_each : (t : Tree) (guest size : ℕ) (get : ℕ → Option Mapping) (es : List (ℕ × Mapping)) → IsKept t
    → IsIndex (λ m. m.guest) get t.mappings
    → AllByRecursion (λ e. (guest ≤ e.0) × (e.0 < guest + size) × (get e.0 ≡ Some e.1)) es
    → AllByRecursion (λ e. Has t.mappings e.1 × (meets_guest guest size e.1 ≡ true)) es
met_each t guest size get [] kept index each = tt
met_each t guest size get (e ∷ es) kept index each =
    let it = index.sound e.0 e.1 each.0.2 in
    let mine = of_each (IsWithin t.first t.last) t.mappings e.1 kept.within it.0 in
    let low : guest ≤ e.0 = each.0.0 in
    let high : e.0 < guest + size = each.0.1 in (
      (it.0, meets_from_ends guest size e.1.guest e.1.size (omega (arith, it.1, mine.has_byte)) (omega (arith, it.1))),
      met_each t guest size get es kept index each.1,
    )

-- a mapping that meets the range is at most as low as the answer
met_bound : (t : Tree) (guest size : ℕ) (get : ℕ → Option Mapping) (o : Option Mapping) (es : List (ℕ × Mapping)) (n : Mapping)
    → IsKept t → IsIndex (λ m. m.guest) get t.mappings
    → find (holds_guest guest 1) t.mappings ≡ o → IsRange guest (guest + size) get es → Has t.mappings n
    → meets_guest guest size n ≡ true → IsAtMost n.iova (lowest_of o es)
met_bound t guest size get o es n kept index at range has met =
    let ends = ends_from_meets guest size n.guest n.size met in
    elim (cases_lt guest n.guest) [
      | inl h ↦ lowest_of-each (is_at (nat_cmp n.guest)) n o es (range.all n.guest (omega arith) ends.1 ∙ index.whole n has)
      | inr h ↦ (let single = single_guest t.first t.last t.mappings kept.apart kept.within in
          let here : o ≡ Some n = sym at ∙ only_holds (λ m. m.guest) t.mappings guest 1 n single (omega arith) has
          (holds_from_ends n.guest n.size guest 1 h (omega arith)) in
          lowest_of-first n.iova o es (subst (IsAtMost n.iova) (sym here) (omega arith)))
    ]

met_answer : (t : Tree) (guest size : ℕ) (r : Option Mapping) → IsKept t
    → IfSome r (λ m. Has t.mappings m × (meets_guest guest size m ≡ true))
    → ((n : Mapping) → Has t.mappings n → meets_guest guest size n ≡ true → IsAtMost n.iova r)
    → find (meets_guest guest size) t.mappings ≡ r
met_answer t guest size None kept is bound =
    find_none (meets_guest guest size) t.mappings (λ n has. elim (cases_Bool (meets_guest guest size n)) [
      | inr f ↦ f
      | inl met ↦ absurd (bound n has met)
    ])
met_answer t guest size (Some m) kept is bound =
    find_lowest t.first t.last (meets_guest guest size) t.mappings m kept.within kept.apart is.0 is.1 bound

-- the lowest of the mapping at the range's start and those that start in the range
pub guest_met : (t : Tree) (guest size : ℕ) (get : ℕ → Option Mapping) (o : Option Mapping) (es : List (ℕ × Mapping)) → IsKept t
    → IsIndex (λ m. m.guest) get t.mappings → 0 < size
    → find (holds_guest guest 1) t.mappings ≡ o → IsRange guest (guest + size) get es
    → find (meets_guest guest size) t.mappings ≡ lowest_of o es
guest_met t guest size get o es kept index some at range =
    met_answer t guest size (lowest_of o es) kept
    (lowest_of-holds (λ m. Has t.mappings m × (meets_guest guest size m ≡ true)) o es (start o at)
    (met_each t guest size get es kept index range.each))
    (λ n has met. met_bound t guest size get o es n kept index at range has met)
  where
    start : (o : Option Mapping) → find (holds_guest guest 1) t.mappings ≡ o
        → IfSome o (λ m. Has t.mappings m × (meets_guest guest size m ≡ true))
    start None e = tt
    start (Some m) e =
        let is = found (holds_guest guest 1) t.mappings m e in
        let ends = ends_from_holds m.guest m.size guest 1 is.1 in
        (is.0, meets_from_ends guest size m.guest m.size (omega arith) (omega arith))

entry_each : (start end : ℕ) (index : BTreeMap ℕ Mapping) (es : List (ℕ × Mapping))
    → All (IsEntryInRange nat_cmp (Included start) (Excluded end) index) es
    → AllByRecursion (λ e. (start ≤ e.0) × (e.0 < end) × (get nat_cmp index e.0 ≡ Some e.1)) es
entry_each start end index [] all = tt
entry_each start end index (e ∷ es) all =
    let first : IsEntryInRange nat_cmp (Included start) (Excluded end) index e = all 0 e (omega arith) in (
      (le_from_not_gt start e.0 first.0.0, lt_from_less e.0 end first.0.1, first.1),
      entry_each start end index es (All-tail (IsEntryInRange nat_cmp (Included start) (Excluded end) index) e es all),
    )

in_range : (start end q : ℕ) → start ≤ q → q < end → range_contains nat_cmp (Included start) (Excluded end) q ≡ true
in_range start end q from below = grind (arith, nat_tests)

-- what `range` gives of an index
pub range_is : (start end : ℕ) (index : BTreeMap ℕ Mapping) (es : List (ℕ × Mapping))
    → All (IsEntryInRange nat_cmp (Included start) (Excluded end) index) es
    → es ≡ entries_between nat_cmp (Included start) (Excluded end) index.entries → IsRange start end (get nat_cmp index) es
range_is start end index es all e = record {
  each = entry_each start end index es all;
  all = λ q from below. ap (lookup (is_at (nat_cmp q))) e
      ∙ lookup-filter-keys (is_at (nat_cmp q)) (range_contains nat_cmp (Included start) (Excluded end)) true
      (λ k at. let same : q ≡ k = eqb-true q k (sym (at_key q k) ∙ at) in
      subst (λ (v : ℕ). range_contains nat_cmp (Included start) (Excluded end) v ≡ true) same (in_range start end q from below))
      index.entries;
}

-- when nothing is left
pub lowest_end : (o : Option Mapping) (es : List (ℕ × Mapping)) → es ≡ [] → o ≡ lowest_of o es
lowest_end o es e = rw e refl
