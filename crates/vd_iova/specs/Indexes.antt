-- What the code of the tree keeps and passes on: two indexes of its mappings, by iova and by guest address.
use Rattle.std.specs.Prelude.{◌≡◌, ℕ, ◌+◌, ◌*◌, ◌/◌, ◌<◌, ◌≤◌, ◌⊎◌, if◌then◌else◌, nat_le, List, [], ◌∷◌, map, find, Option, Some, None}
use Rattle.std.specs.Ordering.{nat_cmp}
use Rattle.std.specs.BTreeMap.{BTreeMap, get, values}
use Rattle.vd_model.specs.declared.map.Mapping.{Mapping}
use Rattle.vd_iova.specs.Ranges.{meets_guest, meets_iova}
use Rattle.vd_iova.specs.Trees.{Tree, IsKept, IsWithin}

-- the list has the mapping
abbrev pub Has : List Mapping → Mapping → Type 0
Has [] m = ⊥
Has (n ∷ ns) m = (n ≡ m) ⊎ Has ns m

-- an index finds the mappings of a list by a key, and nothing else
pub record IsIndex (key : Mapping → ℕ) (found : ℕ → Option Mapping) (ms : List Mapping) : Type 0 where
  pub sound : (q : ℕ) (m : Mapping) → found q ≡ Some m → Has ms m × (key m ≡ q)
  pub whole : (m : Mapping) → Has ms m → found (key m) ≡ Some m

-- the mapping has the greatest key that is not above `at`
pub record IsGreatest (key : Mapping → ℕ) (at : ℕ) (ms : List Mapping) (m : Mapping) : Type 0 where
  pub has : Has ms m
  pub below : key m ≤ at
  pub greatest : (n : Mapping) → Has ms n → key n ≤ at → key n ≤ key m

-- no key is `at` or below
abbrev pub AllAbove : (Mapping → ℕ) → ℕ → List Mapping → Type 0
AllAbove key at ms = (n : Mapping) → Has ms n → at < key n

-- the mapping with the greatest key that is not above `at`, if there is one
abbrev pub IsFloor : (Mapping → ℕ) → ℕ → List Mapping → Option Mapping → Type 0
IsFloor key at ms None = AllAbove key at ms
IsFloor key at ms (Some m) = IsGreatest key at ms m

-- the mapping has the lowest key from `start` on, and below `end`
pub record IsLeast (key : Mapping → ℕ) (start end : ℕ) (ms : List Mapping) (m : Mapping) : Type 0 where
  pub has : Has ms m
  pub from : start ≤ key m
  pub below : key m < end
  pub lowest : (n : Mapping) → Has ms n → start ≤ key n → key n < end → key m ≤ key n

-- no key is from `start` on and below `end`
abbrev pub AllOutside : (Mapping → ℕ) → ℕ → ℕ → List Mapping → Type 0
AllOutside key start end ms = (n : Mapping) → Has ms n → start ≤ key n → end ≤ key n

-- the mapping with the lowest key from `start` on and below `end`, if there is one
abbrev pub IsFirst : (Mapping → ℕ) → ℕ → ℕ → List Mapping → Option Mapping → Type 0
IsFirst key start end ms None = AllOutside key start end ms
IsFirst key start end ms (Some m) = IsLeast key start end ms m

-- the one with the lower iova
abbrev pub lower_of : Option Mapping → Mapping → Mapping
lower_of None m = m
lower_of (Some k) m = if nat_le k.iova m.iova then k else m

-- the tree that the two indexes stand for
abbrev pub tree_of : ℕ → ℕ → BTreeMap ℕ Mapping → Tree
tree_of first last by_iova = record { first = first; last = last; mappings = values by_iova }

-- both indexes hold the same mappings, which a tree keeps
pub record IsIndexed (first last : ℕ) (by_iova by_guest : BTreeMap ℕ Mapping) : Type 0 where
  pub keyed : by_iova.entries ≡ map (λ (m : Mapping). (m.iova, m)) (values by_iova)
  pub kept : IsKept (tree_of first last by_iova)
  pub guest : IsIndex (λ m. m.guest) (get nat_cmp by_guest) (values by_iova)

-- the lowest multiple of 4,096 that is not below an address
abbrev pub page_end : ℕ → ℕ
page_end x = (x + 4095) / 4096 * 4096

-- a mapping that a tree may keep beside its others
pub record IsFresh (t : Tree) (m : Mapping) : Type 0 where
  pub within : IsWithin t.first t.last m
  pub iova : find (meets_iova m.iova m.size) t.mappings ≡ None
  pub guest : find (meets_guest m.guest m.size) t.mappings ≡ None
