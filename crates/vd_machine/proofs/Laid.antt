-- Regions that have no address in common are mapped in turn: none of them meets one that was mapped before it.
use Rattle.std.proofs.Common.{◌≡◌, ℕ, ◌+◌, ◌<◌, ◌≤◌, Bool, true, false, ◌&&◌, ◌||◌, nat_le, nat_lt, List, [], ◌∷◌, length, map, drop, get_or, ◌⊎◌, inl, inr, Option, Some, None, option_map, is_none, is_some, find, refl, ap, sym, subst, ◌∙◌, arith}
use Rattle.std.specs.List.{list_all}
use Rattle.std.proofs.lemmas.Bool.{and_parts, leb-true, false≢true}
use Rattle.std.proofs.lemmas.List.{drop_more}
use Rattle.vd_model.specs.declared.map.Mapping.{Mapping}
use Rattle.vd_iova.specs.Holes.{laid, range_at}
use Rattle.vd_iova.specs.Indexes.{Has}
use Rattle.vd_iova.specs.Ranges.{meets_guest}
use Rattle.vd_iova.specs.Trees.{Tree, added, placed}
use Rattle.vd_iova.proofs.Changes.{has_either}
use Rattle.vd_iova.proofs.Members.{apart_from_ends, find_none, none_passes}
use Rattle.vd_machine.specs.Iovas.{are_laid}
use Rattle.vd_machine.specs.Regions.{is_region, are_apart, all_apart, are_regions}
use Rattle.vd_machine.proofs.Facts.{region_parts}
use Rattle.vd_machine.specs.declared.regions.Region.{Region}

-- none of the mappings has one of the region's addresses
abbrev pub is_unmet : List Mapping → Region → Bool
is_unmet ms r = is_none (find (meets_guest r.addr r.size) ms)

none_is : {A : Type 0} (o : Option A) → is_none o ≡ true → o ≡ None
none_is None h = refl
none_is (Some x) h = absurd (false≢true h)

-- the region where it is mapped
abbrev pub at_iova : Region → ℕ → Mapping
at_iova r iova = range_at (r.addr, r.size) iova

either : (a b : Bool) → (a || b) ≡ true → (a ≡ true) ⊎ (b ≡ true)
either true b h = inl refl
either false b h = inr h

apart_ends : (r s : Region) → are_apart r s ≡ true → (r.addr + r.size ≤ s.addr) ⊎ (s.addr + s.size ≤ r.addr)
apart_ends r s h = elim (either (nat_le (r.addr + r.size) s.addr) (nat_le (s.addr + s.size) r.addr) h) [
  | inl first ↦ inl (leb-true (r.addr + r.size) s.addr first)
  | inr second ↦ inr (leb-true (s.addr + s.size) r.addr second)
]

apart_unmet : (r s : Region) (iova : ℕ) → are_apart r s ≡ true → meets_guest s.addr s.size (at_iova r iova) ≡ false
apart_unmet r s iova h = apart_from_ends s.addr s.size r.addr r.size (apart_ends r s h)

unmet_placed : (ms : List Mapping) (m : Mapping) (s : Region) → meets_guest s.addr s.size m ≡ false → is_unmet ms s ≡ true
    → is_unmet (placed m ms) s ≡ true
unmet_placed ms m s other h =
    ap is_none (find_none (meets_guest s.addr s.size) (placed m ms) each)
  where
    each : (n : Mapping) → Has (placed m ms) n → meets_guest s.addr s.size n ≡ false
    each n has = elim (has_either m ms n has) [
      | inl same ↦ subst (λ k. meets_guest s.addr s.size k ≡ false) same other
      | inr before ↦ none_passes (meets_guest s.addr s.size) ms n (none_is (find (meets_guest s.addr s.size) ms) h) before
    ]

-- what met no mapping meets none where a region apart from it is mapped too
pub unmet_more : (ms : List Mapping) (r : Region) (iova : ℕ) (rs : List Region) → list_all (are_apart r) rs ≡ true
    → list_all (is_unmet ms) rs ≡ true → list_all (is_unmet (placed (at_iova r iova) ms)) rs ≡ true
unmet_more ms r iova [] apart h = refl
unmet_more ms r iova (s ∷ rs) apart h =
    let here = and_parts (are_apart r s) (list_all (are_apart r) rs) apart in
    let was = and_parts (is_unmet ms s) (list_all (is_unmet ms) rs) h in
    rw (unmet_placed ms (at_iova r iova) s (apart_unmet r s iova here.0) was.0) (unmet_more ms r iova rs here.1 was.1)

pub unmet_first : (rs : List Region) → list_all (is_unmet []) rs ≡ true
unmet_first [] = refl
unmet_first (r ∷ rs) = unmet_first rs

-- ---- one region more

abbrev pub ranges : List Region → List (ℕ × ℕ)
ranges rs = map (λ (r : Region). (r.addr, r.size)) rs

-- the regions that are not mapped yet are lawful, apart and met by no mapping, and whether all are laid out is whether these are
pub record IsMidway (w : Bool) (t : Tree) (rs : List Region) : Type 0 where
  pub laid : is_some (laid (ranges rs) t) ≡ w
  pub each : list_all is_region rs ≡ true
  pub apart : all_apart rs ≡ true
  pub unmet : list_all (is_unmet t.mappings) rs ≡ true

is_some_map : {A B : Type 0} (f : A → B) (o : Option A) → is_some (option_map f o) ≡ is_some o
is_some_map f None = refl
is_some_map f (Some x) = refl

module _ (w : Bool) (t : Tree) (r : Region) (rs : List Region) (h : IsMidway w t (r ∷ rs)) where
  pub first_has_bytes : r.size ≡ 0 → ⊥
  first_has_bytes e =
      let lawful = and_parts (is_region r) (list_all is_region rs) h.each in
      let sized = and_parts (nat_le 1 r.size && nat_lt r.size 0x8000_0000_0000_0000) (nat_le (r.addr + r.size) 0x8000_0000_0000_0000)
      lawful.0 in
      let some = leb-true 1 r.size (and_parts (nat_le 1 r.size) (nat_lt r.size 0x8000_0000_0000_0000) sized.0).0 in
      omega arith

  pub first_is_unmet : (m : Mapping) → find (meets_guest r.addr r.size) t.mappings ≡ Some m → ⊥
  first_is_unmet m e =
      let unmet = and_parts (is_unmet t.mappings r) (list_all (is_unmet t.mappings) rs) h.unmet in
      let none = none_is (find (meets_guest r.addr r.size) t.mappings) unmet.0 in
      let both : None ≡ Some m = sym none ∙ e in
      absurd (cc)

  pub first_has_no_hole : laid ((r.addr, r.size) ∷ ranges rs) t ≡ None → false ≡ w
  first_has_no_hole e = ap is_some (sym e) ∙ h.laid

  pub first_is_mapped : (iova : ℕ) (new : Tree) → new ≡ added t (at_iova r iova)
      → laid ((r.addr, r.size) ∷ ranges rs) t ≡ option_map (λ ms. at_iova r iova ∷ ms) (laid (ranges rs) new) → IsMidway w new rs
  first_is_mapped iova new is e =
      let parts = and_parts (list_all (are_apart r) rs) (all_apart rs) h.apart in record {
        laid = sym (is_some_map (λ ms. at_iova r iova ∷ ms) (laid (ranges rs) new)) ∙ ap is_some (sym e) ∙ h.laid;
        each = (and_parts (is_region r) (list_all is_region rs) h.each).1;
        apart = parts.1;
        unmet = subst (λ (u : Tree). list_all (is_unmet u.mappings) rs ≡ true) (sym is)
            (unmet_more t.mappings r iova rs parts.0 (and_parts (is_unmet t.mappings r) (list_all (is_unmet t.mappings) rs) h.unmet).1);
      }

pub midway_first : (w : Bool) (t : Tree) (rs : List Region) (i : ℕ) → i < length rs → IsMidway w t (drop i rs)
    → IsMidway w t (get_or rs i (record { addr = 0; size = 0 }) ∷ drop (i + 1) rs)
midway_first w t rs i below h = subst (IsMidway w t) (drop_more rs i (record { addr = 0; size = 0 }) below) h

pub midway_start : (first last : ℕ) (t : Tree) (rs : List Region) → t ≡ record { first = first; last = last; mappings = [] }
    → are_regions rs ≡ true → IsMidway (are_laid first last rs) t rs
midway_start first last t rs is h =
    let parts = region_parts rs h in
    subst (λ (u : Tree). IsMidway (are_laid first last rs) u rs) (sym is) (record {
      laid = refl;
      each = parts.1;
      apart = parts.2;
      unmet = unmet_first rs;
    })
