-- The range of iovas that shadow rings may use, and where the regions lie in it.
use Rattle.std.specs.Prelude.{ℕ, Bool, ◌&&◌, nat_le, nat_lt, if◌then◌else◌, List, [], map, codes, Option, Some, None, is_some}
use Rattle.toml.specs.Data.{Members}
use Rattle.vd_iova.specs.Holes.{laid}
use Rattle.vd_machine.specs.Lookup.{natural_or}
use Rattle.vd_machine.specs.declared.iovas.Iovas.{Iovas}
use Rattle.vd_machine.specs.declared.iovas.TheConstants.{FIRST_IOVA, LAST_IOVA}
use Rattle.vd_machine.specs.declared.regions.Region.{Region}

-- it ends where it begins or behind, and below 2 ^ 63
abbrev pub is_range : ℕ → ℕ → Bool
is_range first last = nat_le first last && nat_lt last 0x8000_0000_0000_0000

-- the range of this first and this last iova, where it is lawful
abbrev pub if_range : Option ℕ → Option ℕ → Option Iovas
if_range None last = None
if_range (Some a) None = None
if_range (Some a) (Some b) = if is_range a b then Some (record { first = a; last = b }) else None

-- the range of the file, where it is lawful; what is missing has its default
unfoldable pub range_of : Members → Option Iovas
range_of ms = if_range (natural_or FIRST_IOVA (codes "iova_first") ms) (natural_or LAST_IOVA (codes "iova_last") ms)

-- each region in file order finds the lowest hole that those before it leave
abbrev pub are_laid : ℕ → ℕ → List Region → Bool
are_laid first last rs =
    is_some (laid (map (λ (r : Region). (r.addr, r.size)) rs) (record { first = first; last = last; mappings = [] }))
