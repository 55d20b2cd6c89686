-- Which keys the tables of a machine file have: the file itself, and the tables among the items of `regions` and `switches`.
use Rattle.std.specs.Prelude.{ℕ, Bool, true, ◌&&◌, ◌||◌, List, codes}
use Rattle.std.specs.List.{list_all}
use Rattle.std.specs.Option.{option_map_or}
use Rattle.std.specs.Str.{bytes_eq}
use Rattle.toml.specs.Data.{Data, Members, as_table}
use Rattle.vd_machine.specs.Lookup.{items_at, names_of, has}

-- the keys that the file may have
abbrev pub is_file_key : List ℕ → Bool
is_file_key k = bytes_eq k (codes "layout") || bytes_eq k (codes "size") || bytes_eq k (codes "features")
    || bytes_eq k (codes "window") || bytes_eq k (codes "start") || bytes_eq k (codes "iova_first") || bytes_eq k (codes "iova_last")
    || bytes_eq k (codes "regions") || bytes_eq k (codes "queues") || bytes_eq k (codes "switches")

-- the keys that a region may have
abbrev pub is_region_key : List ℕ → Bool
is_region_key k = bytes_eq k (codes "addr") || bytes_eq k (codes "size")

-- the keys that a switch may have
abbrev pub is_switch_key : List ℕ → Bool
is_switch_key k = bytes_eq k (codes "after") || bytes_eq k (codes "to")

-- whether a value that is a table passes; any other value does
abbrev pub if_table : (Members → Bool) → Data → Bool
if_table p d = option_map_or p (as_table d) true

-- a region has no other key
abbrev pub region_has_known_keys : Members → Bool
region_has_known_keys t = list_all is_region_key (names_of t)

-- nor has a switch
abbrev pub switch_has_known_keys : Members → Bool
switch_has_known_keys t = list_all is_switch_key (names_of t)

-- no table has another key
unfoldable pub known_keys : Members → Bool
known_keys ms = (list_all is_file_key (names_of ms) && list_all (if_table region_has_known_keys) (items_at (codes "regions") ms))
    && list_all (if_table switch_has_known_keys) (items_at (codes "switches") ms)

-- a region has its address and its size
abbrev pub region_is_complete : Members → Bool
region_is_complete t = has (codes "addr") t && has (codes "size") t

-- a switch has its count and its mode
abbrev pub switch_is_complete : Members → Bool
switch_is_complete t = has (codes "after") t && has (codes "to") t

-- the file has the keys that it must have
abbrev pub has_file_keys : Members → Bool
has_file_keys ms = ((has (codes "layout") ms && has (codes "size") ms) && has (codes "regions") ms) && has (codes "queues") ms

-- no required key is missing
unfoldable pub complete : Members → Bool
complete ms = (has_file_keys ms && list_all (if_table region_is_complete) (items_at (codes "regions") ms))
    && list_all (if_table switch_is_complete) (items_at (codes "switches") ms)
