-- The walk over the mappings in order of iova stops at the lowest hole.
use Rattle.std.proofs.Common.{ℕ, zero, suc, ◌≡◌, ◌≤◌, ◌<◌, ◌+◌, ◌-◌, ◌*◌, ◌/◌, ◌%◌, ◌&&◌, ◌||◌, not, inl, inr, List, [], ◌∷◌, Option, Some, None, arith, sym, ◌∙◌, ap, subst, false, true, cond, Bool, nat_le, refl}
use Rattle.std.specs.List.{AllByRecursion, list_any}
use Rattle.std.specs.Option.{option_map}
use Rattle.std.proofs.lemmas.Bool.{cases_Bool, cases_lt, leb-true, leb-false, le-leb, lt-leb, and_left, and_right, and_from, and_parts}
use Rattle.vd_model.specs.declared.map.Mapping.{Mapping}
use Rattle.vd_iova.specs.Ranges.{meets_iova}
use Rattle.vd_iova.specs.Trees.{Tree, IsBefore, IsApart, IsWithin, IsKept}
use Rattle.vd_iova.specs.Holes.{is_free, hole, least, IsLowestHole, HasNoHole}
use Rattle.vd_iova.specs.Indexes.{page_end, Has}
use Rattle.vd_iova.proofs.Members.{of_each, apart_from_ends, meets_from_ends}

-- ---- multiples of a page

pub page_end-aligned : (x : ℕ) → page_end x % 4096 ≡ 0
page_end-aligned x = omega arith

pub page_end-above : (x : ℕ) → x ≤ page_end x
page_end-above x = omega arith

pub page_end-mono : (x y : ℕ) → x ≤ y → page_end x ≤ page_end y
page_end-mono x y h = omega arith

-- a multiple below the end of a page is below the address
pub below_page_end : (x y : ℕ) → y % 4096 ≡ 0 → y < page_end x → y < x
below_page_end x y aligned h = omega arith

-- ---- the walk

-- from `at` on, before the first mapping that leaves room, or past the last
abbrev pub walk : ℕ → ℕ → ℕ → List Mapping → Option ℕ
walk last size at [] = cond (nat_le size (last + 1 - at)) (Some at) None
walk last size at (m ∷ ms) = cond (nat_le size (m.iova - at)) (Some at) (walk last size (page_end (m.iova + m.size)) ms)

-- the bytes end within the range, and meet none of the mappings
abbrev pub fits : ℕ → ℕ → List Mapping → ℕ → Bool
fits last size ms y = nat_le (y + size) (last + 1) && not (list_any (meets_iova y size) ms)

-- the least multiple of a page from `at` on from which the bytes fit
pub record IsWalked (last size at : ℕ) (ms : List Mapping) (x : ℕ) : Type 0 where
  pub from : at ≤ x
  pub aligned : x % 4096 ≡ 0
  pub fit : fits last size ms x ≡ true
  pub least : (y : ℕ) → y % 4096 ≡ 0 → at ≤ y → y < x → fits last size ms y ≡ false

abbrev pub Walks : ℕ → ℕ → ℕ → List Mapping → Option ℕ → Type 0
Walks last size at ms None = (y : ℕ) → y % 4096 ≡ 0 → at ≤ y → fits last size ms y ≡ false
Walks last size at ms (Some x) = IsWalked last size at ms x

-- a list of which none passes
pub none_any : (p : Mapping → Bool) (ms : List Mapping) → ((n : Mapping) → Has ms n → p n ≡ false) → list_any p ms ≡ false
none_any p [] each = refl
none_any p (n ∷ ns) each = rw (each n (inl refl), none_any p ns (λ o h. each o (inr h))) refl

-- with a mapping more in the way
fits_not : (last size y : ℕ) (m : Mapping) (ms : List Mapping) → fits last size ms y ≡ false → fits last size (m ∷ ms) y ≡ false
fits_not last size y m ms h = by (nat_le (y + size) (last + 1)) (meets_iova y size m) (list_any (meets_iova y size) ms) h
  where
    by : (a b c : Bool) → (a && not c) ≡ false → (a && not (b || c)) ≡ false
    by false b c e = refl
    by true true c e = refl
    by true false c e = e

fits_met : (last size y : ℕ) (m : Mapping) (ms : List Mapping) → meets_iova y size m ≡ true → fits last size (m ∷ ms) y ≡ false
fits_met last size y m ms h = rw h (and_right (nat_le (y + size) (last + 1)) false refl)

fits_past : (last size x : ℕ) (m : Mapping) (ms : List Mapping) → fits last size ms x ≡ true → meets_iova x size m ≡ false
    → fits last size (m ∷ ms) x ≡ true
fits_past last size x m ms h apart = rw apart h

-- what holds past the first mapping holds of all, where the bytes do not fit before it
later : (last size s at : ℕ) (m : Mapping) (ms : List Mapping) (o : Option ℕ) → at ≡ page_end s → s ≤ m.iova → 0 < size → 0 < m.size
    → m.iova - at < size
    → Walks last size (page_end (m.iova + m.size)) ms o → Walks last size at (m ∷ ms) o
later last size s at m ms None e below some byte short rest = λ y aligned from. elim (cases_lt y (page_end (m.iova + m.size))) [
  | inl h ↦ (let inside : y < m.iova + m.size = below_page_end (m.iova + m.size) y aligned h in
      fits_met last size y m ms (meets_from_ends y size m.iova m.size inside (omega arith)))
  | inr h ↦ fits_not last size y m ms (rest y aligned h)
]
later last size s at m ms (Some x) e below some byte short rest =
    let up : at ≤ page_end (m.iova + m.size) = rw e (page_end-mono s (m.iova + m.size) (omega arith)) in
    record {
      from = omega (arith, rest.from);
      aligned = rest.aligned;
      fit = fits_past last size x m ms rest.fit
          (apart_from_ends x size m.iova m.size (inl (omega (arith, rest.from, page_end-above (m.iova + m.size)))));
      least = λ y aligned from lower. elim (cases_lt y (page_end (m.iova + m.size))) [
        | inl h ↦ (let inside : y < m.iova + m.size = below_page_end (m.iova + m.size) y aligned h in
            fits_met last size y m ms (meets_from_ends y size m.iova m.size inside (omega arith)))
        | inr h ↦ fits_not last size y m ms (rest.least y aligned h lower)
      ];
    }

pub walked : (first last size s at : ℕ) (ms : List Mapping) → 0 < size → at ≡ page_end s → AllByRecursion (IsWithin first last) ms
    → IsApart ms
    → ((n : Mapping) → Has ms n → s ≤ n.iova) → Walks last size at ms (walk last size at ms)
walked first last size s at [] some e within apart below = elim (cases_Bool (nat_le size (last + 1 - at))) [
  | inl t ↦ (let room : size ≤ last + 1 - at = leb-true size (last + 1 - at) t in
      rw t (record {
        from = omega arith;
        aligned = rw e (page_end-aligned s);
        fit = and_from (nat_le (at + size) (last + 1)) true (le-leb (at + size) (last + 1) (omega arith)) refl;
        least = λ y aligned from lower. absurd (omega arith);
      }))
  | inr f ↦ (let short : last + 1 - at < size = leb-false size (last + 1 - at) f in
      rw f (λ y aligned from. and_left (nat_le (y + size) (last + 1)) true (lt-leb (y + size) (last + 1) (omega arith))))
]
walked first last size s at (m ∷ ms) some e within apart below = elim (cases_Bool (nat_le size (m.iova - at))) [
  | inl t ↦ (let room : size ≤ m.iova - at = leb-true size (m.iova - at) t in
      let mine : m.iova + m.size ≤ last + 1 = within.0.ends in
      rw t (record {
        from = omega arith;
        aligned = rw e (page_end-aligned s);
        fit = and_from (nat_le (at + size) (last + 1)) (not (list_any (meets_iova at size) (m ∷ ms)))
            (le-leb (at + size) (last + 1) (omega arith))
            (ap not (none_any (meets_iova at size) (m ∷ ms) (λ n has. apart_from_ends at size n.iova n.size (inr (omega (
              arith,
              elim has as (λ v. m.iova ≤ n.iova) [
                | inl h ↦ (let same : m.iova ≡ n.iova = ap (λ (y : Mapping). y.iova) h in omega arith)
                | inr h ↦ (let before = of_each (IsBefore m) ms n apart.0 h in omega (arith, before.iova))
              ],
            ))))));
        least = λ y aligned from lower. absurd (omega arith);
      }))
  | inr f ↦ (let short : m.iova - at < size = leb-false size (m.iova - at) f in
      rw f (later last size s at m ms (walk last size (page_end (m.iova + m.size)) ms) e (below m (inl refl)) some within.0.has_byte short
      (walked first last size (m.iova + m.size) (page_end (m.iova + m.size)) ms some refl within.1 apart.1 (λ n h. let before =
      of_each (IsBefore m) ms n apart.0 h in before.iova))))
]

-- where the walk stops
pub walk_stops : (last size at : ℕ) (rest : List Mapping) (m : Mapping) (ms : List Mapping) → rest ≡ m ∷ ms → size ≤ m.iova - at
    → walk last size at rest ≡ Some at
walk_stops last size at rest m ms e room = rw e (rw (le-leb size (m.iova - at) room) refl)

pub walk_ends : (last size at : ℕ) (rest : List Mapping) → rest ≡ [] → size ≤ last + 1 - at → walk last size at rest ≡ Some at
walk_ends last size at rest e room = rw e (rw (le-leb size (last + 1 - at) room) refl)

pub walk_fails : (last size at : ℕ) (rest : List Mapping) → rest ≡ [] → last + 1 - at < size → walk last size at rest ≡ None
walk_fails last size at rest e short = rw e (rw (lt-leb size (last + 1 - at) short) refl)

-- ---- the tree's hole

-- what the walk over a whole tree answers
abbrev pub Answers : Tree → ℕ → Option ℕ → Type 0
Answers t size None = HasNoHole t size
Answers t size (Some x) = IsLowestHole t size x

not_free : (t : Tree) (size y : ℕ) → (page_end t.first ≤ y → fits t.last size t.mappings y ≡ false) → y % 4096 ≡ 0
    → is_free t size y ≡ false
not_free t size y h aligned = elim (cases_lt y (page_end t.first)) [
  | inl k ↦ and_left (nat_le t.first y) (fits t.last size t.mappings y) (lt-leb t.first y (below_page_end t.first y aligned k))
  | inr k ↦ and_right (nat_le t.first y) (fits t.last size t.mappings y) (h k)
]

answers_from : (t : Tree) (size : ℕ) (o : Option ℕ) → Walks t.last size (page_end t.first) t.mappings o → Answers t size o
answers_from t size None h = λ y aligned. not_free t size y (h y aligned) aligned
answers_from t size (Some x) h = record {
  aligned = h.aligned;
  free = and_from (nat_le t.first x) (fits t.last size t.mappings x) (le-leb t.first x (omega (arith, h.from, page_end-above t.first)))
      h.fit;
  lowest = λ y aligned lower. not_free t size y (λ from. h.least y aligned from lower) aligned;
}

pub walk_answers : (t : Tree) (size : ℕ) → 0 < size → IsKept t → Answers t size (walk t.last size (page_end t.first) t.mappings)
walk_answers t size some kept = answers_from t size (walk t.last size (page_end t.first) t.mappings)
    (walked t.first t.last size t.first (page_end t.first) t.mappings some refl kept.within kept.apart
    (λ n h. (of_each (IsWithin t.first t.last) t.mappings n kept.within h).begins))

-- the same where the walk is known by what is left of it
pub answered : (t : Tree) (size at : ℕ) (rest : List Mapping) (o : Option ℕ) → 0 < size → IsKept t
    → walk t.last size at rest ≡ walk t.last size (page_end t.first) t.mappings → walk t.last size at rest ≡ o → Answers t size o
answered t size at rest o some kept same is = subst (Answers t size) (sym same ∙ is) (walk_answers t size some kept)

-- ---- the hole as the least multiple

least-none : (p : ℕ → Bool) (n : ℕ) → ((k : ℕ) → k < n → p k ≡ false) → least p n ≡ None
unfolding least
least-none p zero none = refl
least-none p (suc n) none = rw (least-none p n (λ k h. none k (omega arith)), none n (omega arith)) refl

least-some : (p : ℕ → Bool) (n k : ℕ) → k < n → p k ≡ true → ((j : ℕ) → j < k → p j ≡ false) → least p n ≡ Some k
unfolding least
least-some p zero k below passes none = absurd (omega arith)
least-some p (suc n) k below passes none = elim (cases_lt k n) [
  | inl h ↦ rw (least-some p n k h passes none) refl
  | inr h ↦ (let e : n ≡ k = omega arith in
      rw (least-none p n (λ j l. none j (omega arith))) (subst (λ (v : ℕ). cond (p v) (Some v) None ≡ Some k) (sym e) (rw passes refl)))
]

pub hole_from : (t : Tree) (size : ℕ) (o : Option ℕ) → 0 < size → Answers t size o → hole t size ≡ o
unfolding hole
hole_from t size None some none =
    ap (option_map (λ k. 4096 * k)) (least-none (λ k. is_free t size (4096 * k)) (t.last / 4096 + 1) (λ k h. none (4096 * k) (omega arith)))
hole_from t size (Some x) some is =
    let whole : 4096 * (x / 4096) ≡ x = omega (arith, is.aligned) in
    let ends = leb-true (x + size) (t.last + 1)
    (and_parts (nat_le (x + size) (t.last + 1)) (not (list_any (meets_iova x size) t.mappings))
    (and_parts (nat_le t.first x) (fits t.last size t.mappings x) is.free).1).0 in
    ap (option_map (λ k. 4096 * k)) (least-some (λ k. is_free t size (4096 * k)) (t.last / 4096 + 1) (x / 4096) (omega arith)
    (subst (λ (v : ℕ). is_free t size v ≡ true) (sym whole) is.free)
    (λ j h. is.lowest (4096 * j) (omega arith) (omega arith)))
    ∙ ap Some whole
