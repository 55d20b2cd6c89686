-- How the bus of a machine stands.
use Rattle.std.specs.Prelude.{◌≡◌, ℕ, ◌+◌, ◌-◌, ◌*◌, ◌/◌, ◌^◌, ◌<◌, Bool, true, false, if◌then◌else◌, List, [], length, slice_get, slice_index_or, Option, Some, option_map, is_some}
use Rattle.vd_model.specs.declared.base.Mode.{Mode}
use Rattle.vd_model.specs.declared.map.Mapping.{Mapping}
use Rattle.vd_uapi.specs.declared.vring_addr.VringAddr.{VringAddr}
use Rattle.vd_uapi.specs.declared.vring_state.VringState.{VringState}
use Rattle.vd_uapi.specs.declared.message.Msg.{Msg}
use Rattle.vd_layout.specs.Device.{DeviceModel, IsStill}
use Rattle.vd_bus.specs.declared.bus.vring.Vring.{Vring}
use Rattle.vd_bus.specs.Bus.{BusState, control_queue, new_bus, fresh_vring, is_lawful_base}
use Rattle.vd_bus.specs.BusRings.{after_enable}
use Rattle.vd_bus.specs.BusStatus.{feature_bits, is_running}
use Rattle.vd_machine.specs.File.{Plan}
use Rattle.vd_play.specs.declared.floor.Lane.{Lane}
use Rattle.vd_play.specs.Epochs.{mode_at, renewed_at}
use Rattle.vd_play.specs.Journal.{by_mode, map_in, ring_in}
use Rattle.vd_play.specs.Places.{HasControl, queue_total, control_place, control_ring}

-- ---- where a ring lies

-- the first word of the device's area of a ring with n places: the driver's area, after the 2n words of descriptors, has one word, or
-- split the flags, the index, n entries and the event in four lanes a word (VIRTIO 1.2, 2.7.6 and 2.8.10)
abbrev pub device_area : Bool → ℕ → ℕ
device_area packed n = if packed then 2 * n + 1 else 2 * n + (n + 6) / 4

-- ring r lies at r * 2^32, its areas in a row
abbrev pub ring_addr : Bool → ℕ → ℕ → ℕ → VringAddr
ring_addr packed n queue ring = record {
  index = queue;
  flags = 0;
  desc = ring * 2 ^ 32;
  used = ring * 2 ^ 32 + 8 * device_area packed n;
  avail = ring * 2 ^ 32 + 8 * (2 * n);
  log = 0;
}

-- ---- the bus

-- the last iova: a region that lies outside the machine's own range of iovas is passed too
abbrev pub last_iova : ℕ
last_iova = 2 ^ 63 - 1

-- the bus of the machine at a status, with all its features accepted
abbrev pub set_up : Plan → ℕ → Bool → List Vring → List Mapping → BusState
set_up plan status suspended vrings map = record {
  packed = plan.packed;
  size_max = plan.size;
  offered = plan.features;
  queues = length plan.queues;
  control = is_some plan.control;
  first = 0;
  last = last_iova;
  status = status;
  accepted = Some (feature_bits plan.packed plan.features);
  suspended = suspended;
  vrings = vrings;
  map = map;
}

abbrev pub with_vrings : BusState → List Vring → BusState
with_vrings b vs = record b { vrings = vs }

abbrev pub with_map : BusState → List Mapping → BusState
with_map b ms = record b { map = ms }

-- the machine's bus, whose rings and map may be set: the device doesn't run yet, or is suspended
pub record Stands (plan : Plan) (b : BusState) : Type 0 where
  pub is : b ≡ set_up plan b.status b.suspended b.vrings b.map
  pub still : is_running b ≡ false

-- as it is made, at status 0
abbrev pub fresh_bus : Plan → BusState
fresh_bus plan = new_bus plan.packed plan.size plan.features (length plan.queues) (is_some plan.control) 0 last_iova

-- at FEATURES_OK, before the messages
abbrev pub IsBrought : Plan → BusState → Type 0
IsBrought plan b = b ≡ set_up plan 11 false b.vrings []

-- at DRIVER_OK, with the map of this mode
abbrev pub IsUp : Plan → Mode → BusState → Type 0
IsUp plan m b = b ≡ set_up plan 15 false b.vrings (map_in plan m)

-- the ring of the queue at this place
abbrev pub vring_at : Plan → BusState → ℕ → Vring
vring_at plan b p = slice_index_or b.vrings p (fresh_vring plan.packed)

-- each queue has a ring with the machine's number of places
pub record HasSizes (plan : Plan) (b : BusState) : Type 0 where
  pub many : length b.vrings ≡ queue_total plan
  pub each : (p : ℕ) → p < queue_total plan → (vring_at plan b p).num ≡ plan.size

-- queue q has the ring of this number
pub record IsRing (plan : Plan) (ring q : ℕ) (v : Vring) : Type 0 where
  pub num : v.num ≡ plan.size
  pub addr : v.addr ≡ Some (ring_addr plan.packed plan.size q ring)

-- each queue has its ring of epoch k, which is of this mode
pub record HasRings (plan : Plan) (m : Mode) (k : ℕ) (b : BusState) : Type 0 where
  pub many : length b.vrings ≡ queue_total plan
  pub each : (q : ℕ) → q < length plan.queues → IsRing plan (ring_in m k q) q (vring_at plan b q)
  pub control : HasControl plan → IsRing plan (control_ring k) control_queue (vring_at plan b (control_place plan))

-- each ring has the number and the address that it had
pub record KeepsRings (plan : Plan) (b c : BusState) : Type 0 where
  pub many : length c.vrings ≡ length b.vrings
  pub num : (p : ℕ) → p < queue_total plan → (vring_at plan c p).num ≡ (vring_at plan b p).num
  pub addr : (p : ℕ) → p < queue_total plan → (vring_at plan c p).addr ≡ (vring_at plan b p).addr

-- the bus as it is before epoch k
pub record IsBefore (plan : Plan) (k : ℕ) (b : BusState) : Type 0 where
  pub first : k ≡ 0 → b ≡ fresh_bus plan
  pub later : (j : ℕ) → k ≡ j + 1 → IsUp plan (mode_at plan j) b × HasSizes plan b

-- and before it is set up for it: at status 0 also where the epoch begins with a renewal
pub record CanSetUp (plan : Plan) (k : ℕ) (b : BusState) : Type 0 where
  pub first : k ≡ 0 → b ≡ fresh_bus plan
  pub renewed : renewed_at plan k ≡ true → b ≡ fresh_bus plan
  pub later : (j : ℕ) → k ≡ j + 1 → renewed_at plan k ≡ false → IsUp plan (mode_at plan j) b × HasSizes plan b

-- queue q is enabled
abbrev pub on : ℕ → VringState
on q = record { index = q; num = 1 }

abbrev pub serving : BusState → ℕ → BusState
serving b q = after_enable b (on q)

-- ---- the map

-- an address message on a mapping
abbrev pub map_message : ℕ → Mapping → Msg
map_message kind k = record { asid = 0; iova = k.iova; size = k.size; uaddr = k.guest; perm = 3; kind = kind }

-- ---- the ends that lanes keep

-- an end that rests or is fresh, whose base the bus takes
pub record CanServe {E : Type 0} (e : DeviceModel E) (plan : Plan) (end : E) : Type 0 where
  pub still : IsStill e end
  pub lawful : is_lawful_base plan.packed plan.size (e.base end) ≡ true

abbrev pub AllServe : {L D E : Type 0} → DeviceModel E → Plan → List (Lane L D E) → Type 0
AllServe e plan lanes = (q : ℕ) (lane : Lane _ _ _) (end : _) → slice_get lanes q ≡ Some lane → lane.still ≡ Some end → CanServe e plan end

-- a ring's base is that of the end
abbrev pub HasBase : {E : Type 0} → DeviceModel E → Option E → Vring → Type 0
HasBase e still v = (end : _) → still ≡ Some end → v.base ≡ e.base end

-- from where a queue's ring is served in an epoch of this mode: where its lane's end rests, or from the base of a fresh ring
abbrev pub base_in : {E : Type 0} → DeviceModel E → ℕ → Mode → Option E → Option ℕ
base_in e base m still = by_mode m (option_map e.base still) (Some base)

abbrev pub HasBases : {L D E : Type 0} → DeviceModel E → ℕ → Plan → Mode → List (Lane L D E) → BusState → Type 0
HasBases e base plan m lanes b = (q n : ℕ) (lane : Lane _ _ _) → slice_get lanes q ≡ Some lane → base_in e base m lane.still ≡ Some n
    → (vring_at plan b q).base ≡ n

-- the control queue's ring is served from the base of a fresh ring, in every epoch
abbrev pub HasControlBase : ℕ → Plan → BusState → Type 0
HasControlBase base plan b = HasControl plan → (vring_at plan b (control_place plan)).base ≡ base

-- the bus as it is set up for epoch k, which is of this mode
pub record IsReady {L D E : Type 0} (e : DeviceModel E) (base : ℕ) (plan : Plan) (m : Mode) (k : ℕ) (lanes : List (Lane L D E))
    (b : BusState) : Type 0 where
  pub up : IsUp plan m b
  pub rings : HasRings plan m k b
  pub bases : HasBases e base plan m lanes b
  pub control : HasControlBase base plan b
