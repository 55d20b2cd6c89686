-- When two ranges of addresses have one in common.
use Rattle.std.specs.Prelude.{ℕ, ◌+◌, Bool, ◌&&◌, ◌||◌, nat_lt}
use Rattle.vd_model.specs.declared.map.Mapping.{Mapping}

-- two ranges of one byte or more, each from its start on, have an address in common
abbrev pub meets : ℕ → ℕ → ℕ → ℕ → Bool
meets a len b size = nat_lt a (b + size) && nat_lt b (a + len)

-- the mapping's guest range meets a range
abbrev pub meets_guest : ℕ → ℕ → Mapping → Bool
meets_guest addr len m = meets addr len m.guest m.size

-- the mapping's iova range meets a range
abbrev pub meets_iova : ℕ → ℕ → Mapping → Bool
meets_iova iova len m = meets iova len m.iova m.size

-- the mapping's guest range or its iova range meets that of another
abbrev pub meets_either : Mapping → Mapping → Bool
meets_either m k = meets_guest m.guest m.size k || meets_iova m.iova m.size k
