-- Where an address tree has room, and which iovas guest ranges get that are mapped in turn.
use Rattle.std.specs.Prelude.{◌≡◌, ℕ, zero, suc, ◌+◌, ◌*◌, ◌/◌, ◌%◌, ◌<◌, Bool, false, not, ◌&&◌, if◌then◌else◌, nat_le, List, [], ◌∷◌, Option, Some, None, IsTrue}
use Rattle.std.specs.List.{list_any}
use Rattle.std.specs.Option.{option_or, option_map, option_and_then}
use Rattle.vd_model.specs.declared.map.Mapping.{Mapping}
use Rattle.vd_iova.specs.Ranges.{meets_iova}
use Rattle.vd_iova.specs.Trees.{Tree, added}

-- so many bytes from an iova lie in the tree's range, and no mapping holds one of them
abbrev pub is_free : Tree → ℕ → ℕ → Bool
is_free t size iova = nat_le t.first iova && (nat_le (iova + size) (t.last + 1) && not (list_any (meets_iova iova size) t.mappings))

-- the lowest multiple of 4,096 from which so many bytes are free
pub record IsLowestHole (t : Tree) (size iova : ℕ) : Type 0 where
  pub aligned : iova % 4096 ≡ 0
  pub free : IsTrue (is_free t size iova)
  pub lowest : (x : ℕ) → x % 4096 ≡ 0 → x < iova → is_free t size x ≡ false

-- from no multiple of 4,096 are so many bytes free
abbrev pub HasNoHole : Tree → ℕ → Type 0
HasNoHole t size = (x : ℕ) → x % 4096 ≡ 0 → is_free t size x ≡ false

-- the least number below n that passes a test
unfoldable pub least : (ℕ → Bool) → ℕ → Option ℕ
least p zero = None
least p (suc n) = option_or (least p n) (if p n then Some n else None)

-- the lowest multiple of 4,096 from which so many bytes are free, if there is one
unfoldable pub hole : Tree → ℕ → Option ℕ
hole t size = option_map (λ k. 4096 * k) (least (λ k. is_free t size (4096 * k)) (t.last / 4096 + 1))

-- a guest range, its address and its size, mapped at an iova
abbrev pub range_at : ℕ × ℕ → ℕ → Mapping
range_at r x = record { iova = x; size = r.1; guest = r.0 }

-- a guest range mapped at its own address
abbrev pub own : ℕ × ℕ → Mapping
own r = range_at r r.0

-- guest ranges mapped in turn, each at the lowest hole that those before it leave; None where one finds none
abbrev pub laid : List (ℕ × ℕ) → Tree → Option (List Mapping)
laid [] t = Some []
laid (r ∷ rs) t = option_and_then (λ x. option_map (λ ms. range_at r x ∷ ms) (laid rs (added t (range_at r x)))) (hole t r.1)
