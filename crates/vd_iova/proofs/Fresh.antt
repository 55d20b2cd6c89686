-- When a mapping is fresh.
use Rattle.std.proofs.Common.{ℕ, ◌≡◌, ◌≤◌, ◌<◌, ◌+◌, ◌^◌, ◌||◌, not, inl, inr, List, [], ◌∷◌, None, false, Bool, nat_le, refl, find}
use Rattle.std.specs.List.{list_any}
use Rattle.std.proofs.lemmas.Bool.{cases_Bool, leb-true, and_parts, not-true}
use Rattle.vd_model.specs.declared.map.Mapping.{Mapping}
use Rattle.vd_iova.specs.Ranges.{meets_guest, meets_iova}
use Rattle.vd_iova.specs.Trees.{Tree}
use Rattle.vd_iova.specs.Holes.{IsLowestHole}
use Rattle.vd_iova.specs.Indexes.{IsFresh}
use Rattle.vd_iova.proofs.Holes.{fits}

-- none is found where none passes
find_from_any : (p : Mapping → Bool) (ms : List Mapping) → list_any p ms ≡ false → find p ms ≡ None
find_from_any p [] h = refl
find_from_any p (n ∷ ns) h = elim (cases_Bool (p n)) [
  | inl t ↦ (let is = rw t at h in cc)
  | inr f ↦ rw f (find_from_any p ns (rw f at h))
]

-- none is found by either of two tests
pub find_neither : (p q : Mapping → Bool) (ms : List Mapping) → find (λ k. p k || q k) ms ≡ None → (find p ms ≡ None) × (find q ms ≡ None)
find_neither p q [] e = (refl, refl)
find_neither p q (n ∷ ns) e = elim (cases_Bool (p n)) [
  | inl t ↦ (let none = rw t at e in cc)
  | inr f ↦ elim (cases_Bool (q n)) [
    | inl t ↦ (let none = rw (f, t) at e in cc)
    | inr g ↦ (let rest = find_neither p q ns (rw (f, g) at e) in (rw f rest.0, rw g rest.1))
  ]
]

-- a mapping at the lowest hole
pub fresh_at_hole : (t : Tree) (size guest iova : ℕ) → IsLowestHole t size iova → 0 < size → guest + size ≤ 2 ^ 63
    → find (meets_guest guest size) t.mappings ≡ None
    → IsFresh t (record { iova = iova; size = size; guest = guest })
fresh_at_hole t size guest iova lowest some below none =
    let low = and_parts (nat_le t.first iova) (fits t.last size t.mappings iova) lowest.free in
    let high = and_parts (nat_le (iova + size) (t.last + 1)) (not (list_any (meets_iova iova size) t.mappings)) low.1 in
    record {
      within = record {
        has_byte = some;
        begins = leb-true t.first iova low.0;
        ends = leb-true (iova + size) (t.last + 1) high.0;
        guest_ends = below;
      };
      iova = find_from_any (meets_iova iova size) t.mappings (not-true (list_any (meets_iova iova size) t.mappings) high.1);
      guest = none;
    }

-- a mapping in the range that no kept one meets
pub fresh_at : (t : Tree) (m : Mapping) → 0 < m.size → t.first ≤ m.iova → m.iova + m.size ≤ t.last + 1 → m.guest + m.size ≤ 2 ^ 63
    → find (λ k. meets_guest m.guest m.size k || meets_iova m.iova m.size k) t.mappings ≡ None → IsFresh t m
fresh_at t m some low high below none =
    let both = find_neither (meets_guest m.guest m.size) (meets_iova m.iova m.size) t.mappings none in
    record {
      within = record { has_byte = some; begins = low; ends = high; guest_ends = below };
      iova = both.1;
      guest = both.0;
    }
