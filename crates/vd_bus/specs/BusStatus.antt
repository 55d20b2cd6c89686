-- The features and the status of a bus: when a call is refused, and what it leaves.
use Rattle.std.specs.Prelude.{ℕ, ◌+◌, ◌^◌, Bool, false, not, ◌&&◌, ◌||◌, ◌==◌, if◌then◌else◌, Option, Some, None, is_some, bit_and}
use Rattle.std.specs.Int.{bit_at}
use Rattle.std.specs.List.{list_all}
use Rattle.std.specs.Option.{unwrap_or}
use Rattle.vd_model.specs.declared.features.Features.{Features}
use Rattle.vd_bus.specs.declared.fault.BusFault.{BusFault}
use Rattle.vd_bus.specs.declared.fault.BusFault.TheVariants.{WrongStatus, BadFeatures, NotSuspended}
use Rattle.vd_bus.specs.declared.bus.vring.Vring.{Vring}
use Rattle.vd_bus.specs.Bus.{BusState, new_bus}

abbrev pub has : ℕ → ℕ → Bool
has word bit = bit_at word bit == 1

-- ---- features (VIRTIO 1.2, 6), by the numbers of their bits

abbrev pub indirect_desc : ℕ
indirect_desc = 28

abbrev pub event_idx : ℕ
event_idx = 29

abbrev pub version_1 : ℕ
version_1 = 32

abbrev pub access_platform : ℕ
access_platform = 33

abbrev pub ring_packed : ℕ
ring_packed = 34

abbrev pub in_order : ℕ
in_order = 35

-- the bit, where it is on
abbrev pub bit_if : Bool → ℕ → ℕ
bit_if on bit = if on then 2 ^ bit else 0

-- VERSION_1, ACCESS_PLATFORM, RING_PACKED for the packed layout, and these
abbrev pub feature_bits : Bool → Features → ℕ
feature_bits packed f =
    2 ^ version_1 + 2 ^ access_platform + bit_if packed ring_packed + bit_if f.indirect indirect_desc
    + bit_if f.event_idx event_idx + bit_if f.in_order in_order

abbrev pub offered_bits : BusState → ℕ
offered_bits b = feature_bits b.packed b.offered

-- those of the bits that a ring is made with
abbrev pub features_of : ℕ → Features
features_of bits = record {
  indirect = has bits indirect_desc;
  event_idx = has bits event_idx;
  in_order = has bits in_order;
}

-- the features that were accepted
abbrev pub features_accepted : BusState → Features
features_accepted b = features_of (unwrap_or b.accepted 0)

-- each bit is offered, the two that must be are there, and RING_PACKED is as the layout
abbrev pub are_acceptable : BusState → ℕ → Bool
are_acceptable b bits =
    (bit_and bits (offered_bits b) == bits) && has bits version_1 && has bits access_platform && (if b.packed then has bits ring_packed
    else not (has bits ring_packed))

abbrev pub features_fault : BusState → ℕ → Option BusFault
features_fault b bits =
    if not (b.status == 3) then Some (WrongStatus b.status)
    else if not (are_acceptable b bits) then Some (BadFeatures bits)
    else None

abbrev pub after_features : BusState → ℕ → BusState
after_features b bits = record b { accepted = Some bits }

-- ---- the status (VIRTIO 1.2, 2.1): ACKNOWLEDGE 1, DRIVER 2, DRIVER_OK 4, FEATURES_OK 8, FAILED 128

abbrev pub is_driver_ok : BusState → Bool
is_driver_ok b = has b.status 2

abbrev pub is_features_ok : BusState → Bool
is_features_ok b = has b.status 3

-- the queue has a number and an address
abbrev pub is_ready : Vring → Bool
is_ready q = not (q.num == 0) && is_some q.addr

-- the next of 1, 3, 11 and 15; 11 once features were accepted, and 15 once every queue has a number and an address
abbrev pub is_next : BusState → ℕ → Bool
is_next b s =
    if b.status == 0 then s == 1
    else if b.status == 1 then s == 3
    else if b.status == 3 then (s == 11) && is_some b.accepted
    else if b.status == 11 then (s == 15) && list_all is_ready b.vrings
    else false

-- what the driver may store: 0, which resets; the present status; FAILED beside the present status; the next one
abbrev pub is_step : BusState → ℕ → Bool
is_step b s = (s == 0) || (s == b.status) || (s == b.status + 128) || is_next b s

abbrev pub status_fault : BusState → ℕ → Option BusFault
status_fault b s = if is_step b s then None else Some (WrongStatus b.status)

-- as it was made
abbrev pub reset : BusState → BusState
reset b = new_bus b.packed b.size_max b.offered b.queues b.control b.first b.last

abbrev pub after_status : BusState → ℕ → BusState
after_status b s = if s == 0 then reset b else record b { status = s }

-- ---- suspension

-- the device runs
abbrev pub is_running : BusState → Bool
is_running b = is_driver_ok b && not b.suspended

abbrev pub running_fault : BusState → Option BusFault
running_fault b = if is_running b then Some (NotSuspended b.status) else None

abbrev pub suspend_fault : BusState → Option BusFault
suspend_fault b = if (b.status == 15) && not b.suspended then None else Some (WrongStatus b.status)

abbrev pub resume_fault : BusState → Option BusFault
resume_fault b = if b.suspended then None else Some (NotSuspended b.status)

abbrev pub with_suspended : BusState → Bool → BusState
with_suspended b on = record b { suspended = on }
