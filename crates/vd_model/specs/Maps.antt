-- Where a range of addresses lies in a map, which is a list of mappings.
use Rattle.std.specs.Prelude.{ℕ, ◌+◌, ◌-◌, Bool, ◌&&◌, nat_le, List, find, Option, option_map, is_some}
use Rattle.vd_model.specs.declared.chain.Piece.{Piece}
use Rattle.vd_model.specs.declared.map.Mapping.{Mapping}

-- the mapping's guest range holds the whole range
abbrev pub holds_guest : ℕ → ℕ → Mapping → Bool
holds_guest addr len m = nat_le m.guest addr && nat_le (addr + len) (m.guest + m.size)

-- the mapping's iova range holds the whole range
abbrev pub holds_iova : ℕ → ℕ → Mapping → Bool
holds_iova addr len m = nat_le m.iova addr && nat_le (addr + len) (m.iova + m.size)

-- the iova of a range of guest addresses, where one mapping holds the whole range
abbrev pub to : List Mapping → ℕ → ℕ → Option ℕ
to ms addr len = option_map (λ m. m.iova + (addr - m.guest)) (find (holds_guest addr len) ms)

-- the guest address of a range of iovas, where one mapping holds the whole range
abbrev pub back : List Mapping → ℕ → ℕ → Option ℕ
back ms iova len = option_map (λ m. m.guest + (iova - m.iova)) (find (holds_iova iova len) ms)

-- the piece has a byte at least, and one mapping holds it
abbrev pub lies_in : List Mapping → Piece → Bool
lies_in ms p = nat_le 1 p.len && is_some (to ms p.addr p.len)
