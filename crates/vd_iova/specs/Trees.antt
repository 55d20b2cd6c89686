-- An address tree as its range and its mappings in order of iova.
use Rattle.std.specs.Prelude.{◌≡◌, ℕ, ◌+◌, ◌^◌, ◌<◌, ◌≤◌, Bool, false, not, ◌&&◌, if◌then◌else◌, nat_lt, nat_le, nat_eq, List, [], ◌∷◌, find, filter, None}
use Rattle.std.specs.List.{AllByRecursion}
use Rattle.vd_model.specs.declared.map.Mapping.{Mapping}
use Rattle.vd_iova.specs.Ranges.{meets_guest, meets_either}

-- the first and the last iova of a tree, and its mappings in order of iova
pub record Tree : Type 0 where
  pub first : ℕ
  pub last : ℕ
  pub mappings : List Mapping

-- the mapping has a byte, lies in the tree's range, and its guest range ends at 2^63 at most
pub record IsWithin (first last : ℕ) (m : Mapping) : Type 0 where
  pub has_byte : 0 < m.size
  pub begins : first ≤ m.iova
  pub ends : m.iova + m.size ≤ last + 1
  pub guest_ends : m.guest + m.size ≤ 2 ^ 63

-- the first mapping ends before the second begins, and their guest ranges do not meet
pub record IsBefore (m n : Mapping) : Type 0 where
  pub iova : m.iova + m.size ≤ n.iova
  pub guest : meets_guest m.guest m.size n ≡ false

-- mappings in order of iova, without overlaps of iovas or guest addresses
abbrev pub IsApart : List Mapping → Type 0
IsApart [] = Unit {0}
IsApart (m ∷ ms) = AllByRecursion (IsBefore m) ms × IsApart ms

-- what every tree keeps: its range ends below 2^63, its mappings lie in it, in order and without overlaps
pub record IsKept (t : Tree) : Type 0 where
  pub range : (t.first ≤ t.last) × (t.last < 2 ^ 63)
  pub within : AllByRecursion (IsWithin t.first t.last) t.mappings
  pub apart : IsApart t.mappings

-- a range has a byte, and no kept mapping has one of its guest addresses
abbrev pub IsUnmapped : Tree → ℕ → ℕ → Type 0
IsUnmapped t size guest = (0 < size) × (find (meets_guest guest size) t.mappings ≡ None)

-- a mapping has a byte, and no kept one has one of its guest addresses or iovas
abbrev pub IsUnmappedAt : Tree → Mapping → Type 0
IsUnmappedAt t m = (0 < m.size) × (find (meets_either m) t.mappings ≡ None)

-- the mapping's iova range lies in the tree's
abbrev pub lies_within : Tree → Mapping → Bool
lies_within t m = nat_le t.first m.iova && nat_le (m.iova + m.size) (t.last + 1)

-- mappings in order of iova with one more in its place
abbrev pub placed : Mapping → List Mapping → List Mapping
placed m [] = m ∷ []
placed m (n ∷ ns) = if nat_lt m.iova n.iova then m ∷ n ∷ ns else n ∷ placed m ns

-- the tree with one mapping more
abbrev pub added : Tree → Mapping → Tree
added t m = record t { mappings = placed m t.mappings }

-- the tree with mappings added in turn
abbrev pub added_all : List Mapping → Tree → Tree
added_all [] t = t
added_all (m ∷ ms) t = added_all ms (added t m)

-- the mapping starts at an iova
abbrev pub starts : ℕ → Mapping → Bool
starts iova m = nat_eq iova m.iova

-- the tree without the mapping that starts at an iova
abbrev pub without : Tree → ℕ → Tree
without t iova = record t { mappings = filter (λ m. not (starts iova m)) t.mappings }
