-- The regions of the guest's memory.
use Rattle.std.specs.Prelude.{ℕ, ◌+◌, Bool, true, ◌&&◌, ◌||◌, nat_le, nat_lt, if◌then◌else◌, List, [], ◌∷◌, length, map, codes, Option, Some, None, option_and_then}
use Rattle.std.specs.List.{list_all}
use Rattle.toml.specs.Data.{Data, Members, as_table}
use Rattle.vd_text.specs.Grammar.{all_some}
use Rattle.vd_model.specs.declared.map.TheConstants.Map.{MOST}
use Rattle.vd_machine.specs.Lookup.{natural_at, items_at}
use Rattle.vd_machine.specs.declared.regions.Region.{Region}

-- at least one byte and fewer than 2 ^ 63, and an end of at most 2 ^ 63
abbrev pub is_region : Region → Bool
is_region r = (nat_le 1 r.size && nat_lt r.size 0x8000_0000_0000_0000) && nat_le (r.addr + r.size) 0x8000_0000_0000_0000

-- the two have no address in common
abbrev pub are_apart : Region → Region → Bool
are_apart r s = nat_le (r.addr + r.size) s.addr || nat_le (s.addr + s.size) r.addr

-- no two have an address in common
abbrev pub all_apart : List Region → Bool
all_apart [] = true
all_apart (r ∷ rs) = list_all (are_apart r) rs && all_apart rs

-- no more regions than a map has mappings, each of them lawful, no two that overlap
abbrev pub are_regions : List Region → Bool
are_regions rs = nat_le (length rs) MOST && (list_all is_region rs && all_apart rs)

-- a region of this address and size
abbrev pub region_at : Option ℕ → Option ℕ → Option Region
region_at None size = None
region_at (Some a) None = None
region_at (Some a) (Some n) = Some (record { addr = a; size = n })

-- the region that a table writes, where its address and its size are not negative
abbrev pub region_of : Data → Option Region
region_of d = option_and_then (λ t. region_at (natural_at (codes "addr") t) (natural_at (codes "size") t)) (as_table d)

-- the regions, where they are lawful
abbrev pub if_regions : List Region → Option (List Region)
if_regions rs = if are_regions rs then Some rs else None

-- the regions in file order, where they are lawful
unfoldable pub regions_of : Members → Option (List Region)
regions_of ms = option_and_then if_regions (all_some (map region_of (items_at (codes "regions") ms)))
