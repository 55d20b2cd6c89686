-- The messages on the map of a bus: when one is refused, and what it leaves.
use Rattle.std.specs.Prelude.{ℕ, ◌+◌, ◌^◌, Bool, true, not, ◌&&◌, ◌||◌, ◌==◌, nat_lt, if◌then◌else◌, Option, Some, None, List, [], ◌∷◌, ◌++◌, length, filter}
use Rattle.std.specs.List.{list_any}
use Rattle.vd_model.specs.declared.map.Mapping.{Mapping}
use Rattle.vd_iova.specs.Ranges.{meets_iova}
use Rattle.vd_uapi.specs.declared.message.Msg.{Msg}
use Rattle.vd_bus.specs.declared.fault.BusFault.{BusFault}
use Rattle.vd_bus.specs.declared.fault.BusFault.TheVariants.{NotSuspended, BadMessage, BadMap, BadAsid}
use Rattle.vd_bus.specs.Bus.{BusState}
use Rattle.vd_bus.specs.BusStatus.{is_running}

-- an address message's kind, of vhost_types.h: UPDATE maps, INVALIDATE takes out, BATCH_BEGIN and BATCH_END change nothing
abbrev pub update : ℕ
update = 2

abbrev pub invalidate : ℕ
invalidate = 3

abbrev pub is_kind : ℕ → Bool
is_kind kind = (kind == update) || (kind == invalidate) || (kind == 5) || (kind == 6)

abbrev pub mapping_in : Msg → Mapping
mapping_in m = record { iova = m.iova; size = m.size; guest = m.uaddr }

-- the mapping is that of the message's iova and size
abbrev pub is_named : Msg → Mapping → Bool
is_named m k = (k.iova == m.iova) && (k.size == m.size)

-- the range has a byte, lies in the iova range, ends at 2^63 in the guest's memory, meets no iova that is mapped, and there is room
abbrev pub can_map : BusState → Msg → Bool
can_map b m =
    not (m.size == 0) && not (nat_lt m.iova b.first) && not (nat_lt (b.last + 1) (m.iova + m.size)) && not (nat_lt (2 ^ 63)
    (m.uaddr + m.size)) && not (list_any (meets_iova m.iova m.size) b.map) && not (length b.map == 64)

-- an UPDATE may map, and an INVALIDATE names a mapping
abbrev pub allows : BusState → Msg → Bool
allows b m =
    if m.kind == update then can_map b m else if m.kind == invalidate then list_any (is_named m) b.map else true

abbrev pub message_fault : BusState → Msg → Option BusFault
message_fault b m =
    if not (m.asid == 0) then Some (BadAsid m.asid)
    else if not (is_kind m.kind) then Some (BadMessage m.kind)
    else if is_running b then Some (NotSuspended b.status)
    else if not (allows b m) then Some (BadMap m.iova)
    else None

-- a mapping comes last; the one that is named goes; the others stay in their order
abbrev pub map_after : BusState → Msg → List Mapping
map_after b m =
    if m.kind == update then b.map ++ mapping_in m ∷ []
    else if m.kind == invalidate then filter (λ k. not (is_named m k)) b.map
    else b.map

abbrev pub after_message : BusState → Msg → BusState
after_message b m = record b { map = map_after b m }
