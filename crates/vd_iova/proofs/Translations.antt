-- The mapping that holds a range, found by the greatest start that is not above it, and that `to` and `back` undo each other.
use Rattle.std.proofs.Common.{ℕ, ◌≡◌, ◌≤◌, ◌<◌, ◌+◌, ◌-◌, ◌&&◌, inl, inr, List, Option, Some, None, arith, ◌∙◌, ap, true, Bool, nat_le, refl, find}
use Rattle.std.specs.List.{AllByRecursion}
use Rattle.std.specs.Option.{option_map}
use Rattle.std.proofs.lemmas.Bool.{cases_Bool}
use Rattle.std.proofs.lemmas.Bool.Decides.{nat_tests}
use Rattle.vd_model.specs.declared.map.Mapping.{Mapping}
use Rattle.vd_model.specs.Maps.{to, back, holds_guest, holds_iova}
use Rattle.vd_iova.specs.Trees.{Tree, IsKept, IsApart, IsWithin}
use Rattle.vd_iova.specs.Indexes.{Has, IsGreatest, AllAbove}
use Rattle.vd_iova.proofs.Members.{find_only, find_none, found, same_guest, same_iova, of_each}

-- the mapping's range from its start on holds a whole range
abbrev pub holds : (Mapping → ℕ) → ℕ → ℕ → Mapping → Bool
holds start addr len m = nat_le (start m) addr && nat_le (addr + len) (start m + m.size)

-- mappings of which no two have an address in common, each of a byte or more
pub record IsSingle (start : Mapping → ℕ) (ms : List Mapping) : Type 0 where
  pub same : (m n : Mapping) (x : ℕ) → Has ms m → Has ms n → start m ≤ x → x < start m + m.size → start n ≤ x → x < start n + n.size → m ≡ n
  pub has_byte : (m : Mapping) → Has ms m → 0 < m.size

pub single_guest : (first last : ℕ) (ms : List Mapping) → IsApart ms → AllByRecursion (IsWithin first last) ms → IsSingle (λ m. m.guest) ms
single_guest first last ms apart within = record {
  same = λ m n x h k p q r s. same_guest ms m n x apart h k p q r s;
  has_byte = λ m h. (of_each (IsWithin first last) ms m within h).has_byte;
}

pub single_iova : (first last : ℕ) (ms : List Mapping) → IsApart ms → AllByRecursion (IsWithin first last) ms → IsSingle (λ m. m.iova) ms
single_iova first last ms apart within = record {
  same = λ m n x h k p q r s. same_iova ms m n x apart h k p q r s;
  has_byte = λ m h. (of_each (IsWithin first last) ms m within h).has_byte;
}

pub ends_from_holds : (s size addr len : ℕ) → (nat_le s addr && nat_le (addr + len) (s + size)) ≡ true
    → (s ≤ addr) × (addr + len ≤ s + size)
ends_from_holds s size addr len h = grind (arith, nat_tests)

pub holds_from_ends : (s size addr len : ℕ) → s ≤ addr → addr + len ≤ s + size → (nat_le s addr && nat_le (addr + len) (s + size)) ≡ true
holds_from_ends s size addr len h k = grind (arith, nat_tests)

-- a mapping that holds a range is the only one
pub only_holds : (start : Mapping → ℕ) (ms : List Mapping) (addr len : ℕ) (m : Mapping) → IsSingle start ms → 0 < len → Has ms m
    → holds start addr len m ≡ true → find (holds start addr len) ms ≡ Some m
only_holds start ms addr len m single some has h =
    let mine = ends_from_holds (start m) m.size addr len h in
    find_only (holds start addr len) ms m has h (λ n k t.
    let theirs = ends_from_holds (start n) n.size addr len t in
    single.same n m addr k has theirs.0 (omega arith) mine.0 (omega arith))

-- the mapping with the greatest start that is not above the range holds it
pub floor_holds : (start : Mapping → ℕ) (ms : List Mapping) (addr len : ℕ) (m : Mapping) → IsSingle start ms → 0 < len
    → IsGreatest start addr ms m
    → addr + len ≤ start m + m.size → find (holds start addr len) ms ≡ Some m
floor_holds start ms addr len m single some floor fits =
    only_holds start ms addr len m single some floor.has (holds_from_ends (start m) m.size addr len floor.below fits)

-- where that one does not hold it, none does
pub floor_fails : (start : Mapping → ℕ) (ms : List Mapping) (addr len : ℕ) (m : Mapping) → IsSingle start ms → 0 < len
    → IsGreatest start addr ms m
    → start m + m.size < addr + len → find (holds start addr len) ms ≡ None
floor_fails start ms addr len m single some floor short = find_none (holds start addr len) ms (λ n has.
    elim (cases_Bool (holds start addr len n)) [
      | inr f ↦ f
      | inl t ↦ (
          let theirs = ends_from_holds (start n) n.size addr len t in
          let least : start n ≤ start m = floor.greatest n has theirs.0 in
          let byte : 0 < m.size = single.has_byte m floor.has in
          let same : n ≡ m = single.same n m (start m) has floor.has least (omega (arith, floor.below)) (omega arith) (omega arith) in
          let start_is : start n ≡ start m = ap start same in
          let size_is : n.size ≡ m.size = ap (λ (y : Mapping). y.size) same in
          absurd (omega arith))
    ])

-- where none starts at the range or below, none holds it
pub above_fails : (start : Mapping → ℕ) (ms : List Mapping) (addr len : ℕ) → AllAbove start addr ms → find (holds start addr len) ms ≡ None
above_fails start ms addr len above = find_none (holds start addr len) ms (λ n has.
    elim (cases_Bool (holds start addr len n)) [
      | inr f ↦ f
      | inl t ↦ absurd (omega (arith, above n has, (ends_from_holds (start n) n.size addr len t).0))
    ])

-- what a found mapping gives
map_some : {A B : Type 0} (f : A → B) (o : Option A) (y : B) → option_map f o ≡ Some y → (x : A) × (o ≡ Some x) × (f x ≡ y)
map_some f None y e = cc
map_some f (Some x) y e = (x, refl, cc)

-- `back` undoes `to`
pub back_undoes : (ms : List Mapping) (addr len iova : ℕ) → IsSingle (λ m. m.iova) ms → 0 < len → to ms addr len ≡ Some iova
    → back ms iova len ≡ Some addr
back_undoes ms addr len iova single some e =
    let got = map_some (λ (m : Mapping). m.iova + (addr - m.guest)) (find (holds_guest addr len) ms) iova e in
    let m : Mapping = got.0 in
    let is = found (holds_guest addr len) ms m got.1 in
    let ends = ends_from_holds m.guest m.size addr len is.1 in
    let at : m.iova + (addr - m.guest) ≡ iova = got.2 in
    let here = only_holds (λ m. m.iova) ms iova len m single some is.0
    (holds_from_ends m.iova m.size iova len (omega arith) (omega arith)) in
    ap (option_map (λ (m : Mapping). m.guest + (iova - m.iova))) here ∙ ap Some (omega arith)

-- `to` undoes `back`
pub to_undoes : (ms : List Mapping) (iova len addr : ℕ) → IsSingle (λ m. m.guest) ms → 0 < len → back ms iova len ≡ Some addr
    → to ms addr len ≡ Some iova
to_undoes ms iova len addr single some e =
    let got = map_some (λ (m : Mapping). m.guest + (iova - m.iova)) (find (holds_iova iova len) ms) addr e in
    let m : Mapping = got.0 in
    let is = found (holds_iova iova len) ms m got.1 in
    let ends = ends_from_holds m.iova m.size iova len is.1 in
    let at : m.guest + (iova - m.iova) ≡ addr = got.2 in
    let here = only_holds (λ m. m.guest) ms addr len m single some is.0
    (holds_from_ends m.guest m.size addr len (omega arith) (omega arith)) in
    ap (option_map (λ (m : Mapping). m.iova + (addr - m.guest))) here ∙ ap Some (omega arith)

-- what `to` gives where the greatest mapping that is not above the range holds it
pub to_some : (t : Tree) (addr len offset : ℕ) (m : Mapping) → IsKept t → 0 < len → IsGreatest (λ n. n.guest) addr t.mappings m
    → offset ≡ addr - m.guest → offset + len ≤ m.size → to t.mappings addr len ≡ Some (m.iova + offset)
to_some t addr len offset m kept some floor e fits =
    ap (option_map (λ (n : Mapping). n.iova + (addr - n.guest)))
    (floor_holds (λ n. n.guest) t.mappings addr len m (single_guest t.first t.last t.mappings kept.apart kept.within) some floor
    (omega (arith, floor.below)))
    ∙ ap Some (omega arith)

pub to_none : (t : Tree) (addr len offset : ℕ) (m : Mapping) → IsKept t → 0 < len → IsGreatest (λ n. n.guest) addr t.mappings m
    → offset ≡ addr - m.guest → m.size < offset + len → to t.mappings addr len ≡ None
to_none t addr len offset m kept some floor e short =
    ap (option_map (λ (n : Mapping). n.iova + (addr - n.guest)))
    (floor_fails (λ n. n.guest) t.mappings addr len m (single_guest t.first t.last t.mappings kept.apart kept.within) some floor
    (omega (arith, floor.below)))

pub to_above : (t : Tree) (addr len : ℕ) → AllAbove (λ n. n.guest) addr t.mappings → to t.mappings addr len ≡ None
to_above t addr len above =
    ap (option_map (λ (n : Mapping). n.iova + (addr - n.guest))) (above_fails (λ n. n.guest) t.mappings addr len above)

-- the same of `back`
pub back_some : (t : Tree) (iova len offset : ℕ) (m : Mapping) → IsKept t → 0 < len → IsGreatest (λ n. n.iova) iova t.mappings m
    → offset ≡ iova - m.iova → offset + len ≤ m.size → back t.mappings iova len ≡ Some (m.guest + offset)
back_some t iova len offset m kept some floor e fits =
    ap (option_map (λ (n : Mapping). n.guest + (iova - n.iova)))
    (floor_holds (λ n. n.iova) t.mappings iova len m (single_iova t.first t.last t.mappings kept.apart kept.within) some floor
    (omega (arith, floor.below)))
    ∙ ap Some (omega arith)

pub back_none : (t : Tree) (iova len offset : ℕ) (m : Mapping) → IsKept t → 0 < len → IsGreatest (λ n. n.iova) iova t.mappings m
    → offset ≡ iova - m.iova → m.size < offset + len → back t.mappings iova len ≡ None
back_none t iova len offset m kept some floor e short =
    ap (option_map (λ (n : Mapping). n.guest + (iova - n.iova)))
    (floor_fails (λ n. n.iova) t.mappings iova len m (single_iova t.first t.last t.mappings kept.apart kept.within) some floor
    (omega (arith, floor.below)))

pub back_above : (t : Tree) (iova len : ℕ) → AllAbove (λ n. n.iova) iova t.mappings → back t.mappings iova len ≡ None
back_above t iova len above =
    ap (option_map (λ (n : Mapping). n.guest + (iova - n.iova))) (above_fails (λ n. n.iova) t.mappings iova len above)

-- over the mappings of a tree each undoes the other
pub back_undoes_to : (t : Tree) (addr len iova : ℕ) → IsKept t → 0 < len → to t.mappings addr len ≡ Some iova
    → back t.mappings iova len ≡ Some addr
back_undoes_to t addr len iova kept some e =
    back_undoes t.mappings addr len iova (single_iova t.first t.last t.mappings kept.apart kept.within) some e

pub to_undoes_back : (t : Tree) (iova len addr : ℕ) → IsKept t → 0 < len → back t.mappings iova len ≡ Some addr
    → to t.mappings addr len ≡ Some iova
to_undoes_back t iova len addr kept some e =
    to_undoes t.mappings iova len addr (single_guest t.first t.last t.mappings kept.apart kept.within) some e
