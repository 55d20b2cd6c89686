-- The calls on one queue of a bus: when a call is refused, and what it leaves.
use Rattle.std.specs.Prelude.{ℕ, ◌/◌, ◌^◌, not, ◌&&◌, ◌==◌, nat_le, if◌then◌else◌, Option, Some, None}
use Rattle.std.specs.Option.{option_map_or}
use Rattle.vd_uapi.specs.declared.vring_state.VringState.{VringState}
use Rattle.vd_uapi.specs.declared.vring_addr.VringAddr.{VringAddr}
use Rattle.vd_bus.specs.declared.fault.BusFault.{BusFault}
use Rattle.vd_bus.specs.declared.fault.BusFault.TheVariants.{WrongStatus, NoSuchQueue, BadNum, NotSuspended, BadBase}
use Rattle.vd_bus.specs.Bus.{BusState, is_lawful_size, is_lawful_base, fresh_base, is_queue, vring_of, with_vring}
use Rattle.vd_bus.specs.BusStatus.{is_driver_ok, is_features_ok, is_running, features_accepted}
use Rattle.vd_bus.specs.Orders.{Terms}

-- there is no such queue
abbrev pub queue_fault : BusState → ℕ → Option BusFault
queue_fault b n = if is_queue b n then None else Some (NoSuchQueue n)

-- there is no such queue, or the device runs
abbrev pub still_fault : BusState → ℕ → Option BusFault
still_fault b n =
    if not (is_queue b n) then Some (NoSuchQueue n) else if is_running b then Some (NotSuspended b.status) else None

-- ---- a ring's number of places

abbrev pub num_fault : BusState → VringState → Option BusFault
num_fault b v =
    if not (is_queue b v.index) then Some (NoSuchQueue v.index)
    else if is_driver_ok b then Some (WrongStatus b.status)
    else if not (is_lawful_size b.packed v.num && nat_le v.num b.size_max) then Some (BadNum v.num)
    else None

-- the base is the fresh one again
abbrev pub after_num : BusState → VringState → BusState
after_num b v = with_vring b v.index (record (vring_of b v.index) { num = v.num; base = fresh_base b.packed })

-- ---- its addresses

abbrev pub after_addr : BusState → VringAddr → BusState
after_addr b a = with_vring b a.index (record (vring_of b a.index) { addr = Some a })

-- ---- its base

abbrev pub base_fault : BusState → VringState → Option BusFault
base_fault b v =
    if not (is_queue b v.index) then Some (NoSuchQueue v.index)
    else if is_running b then Some (NotSuspended b.status)
    else if not (is_lawful_base b.packed (vring_of b v.index).num v.num) then Some (BadBase v.num)
    else None

abbrev pub after_base : BusState → VringState → BusState
after_base b v = with_vring b v.index (record (vring_of b v.index) { base = v.num })

abbrev pub base_told : BusState → ℕ → VringState
base_told b n = record { index = n; num = (vring_of b n).base }

-- ---- whether it is served

abbrev pub enable_fault : BusState → VringState → Option BusFault
enable_fault b v =
    if not (is_queue b v.index) then Some (NoSuchQueue v.index)
    else if not (is_features_ok b) then Some (WrongStatus b.status)
    else if not (nat_le v.num 1) then Some (BadNum v.num)
    else None

abbrev pub after_enable : BusState → VringState → BusState
after_enable b v = with_vring b v.index (record (vring_of b v.index) { enabled = v.num == 1 })

-- ---- an order to serve it

abbrev pub order_fault : BusState → ℕ → Option BusFault
order_fault b n =
    if not (is_queue b n) then Some (NoSuchQueue n)
    else if not ((b.status == 15) && not b.suspended && (vring_of b n).enabled) then Some (WrongStatus b.status)
    else None

-- ring r lies at r * 2^32; one that lies nowhere counts as 0
abbrev pub ring_at : Option VringAddr → ℕ
ring_at addr = option_map_or (λ a. a.desc / 2 ^ 32) addr 0

abbrev pub terms : BusState → ℕ → ℕ → Terms
terms b n count = record {
  queue = n;
  ring = ring_at (vring_of b n).addr;
  base = record { 0 = (vring_of b n).base };
  count = count;
  size = (vring_of b n).num;
  features = features_accepted b;
  map = b.map;
}
