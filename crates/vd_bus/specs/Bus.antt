-- What a bus holds, and where it holds a queue.
use Rattle.std.specs.Prelude.{ℕ, ◌+◌, ◌/◌, ◌%◌, ◌^◌, ◌≡◌, ◌<◌, ◌≤◌, Bool, true, false, ◌&&◌, ◌||◌, ◌==◌, nat_lt, nat_le, if◌then◌else◌, Option, None, List, [], ◌∷◌, replicate, slice_index_or, slice_set}
use Rattle.std.specs.List.{list_any}
use Rattle.vd_model.specs.declared.features.Features.{Features}
use Rattle.vd_model.specs.declared.map.Mapping.{Mapping}
use Rattle.vd_bus.specs.declared.bus.vring.Vring.{Vring}

-- the layout, the greatest size of a ring, the features offered, how many data queues there are, whether there is a control queue, the
-- first and the last iova; the status (VIRTIO 1.2, 2.1), the features accepted as bits, whether the device is suspended; the data
-- queues by number and after them the control queue; the map in the order of the messages
pub record BusState : Type 0 where
  pub packed : Bool
  pub size_max : ℕ
  pub offered : Features
  pub queues : ℕ
  pub control : Bool
  pub first : ℕ
  pub last : ℕ
  pub status : ℕ
  pub accepted : Option ℕ
  pub suspended : Bool
  pub vrings : List Vring
  pub map : List Mapping

-- the number of the control queue
abbrev pub control_queue : ℕ
control_queue = 15

-- how many places a ring of the layout may have: split, a power of two
abbrev pub is_lawful_size : Bool → ℕ → Bool
is_lawful_size true n = nat_le 2 n && nat_le n 1024
is_lawful_size false n = list_any (λ p. p == n) (2 ∷ 4 ∷ 8 ∷ 16 ∷ 32 ∷ 64 ∷ 128 ∷ 256 ∷ 512 ∷ 1024 ∷ [])

-- the base of a fresh ring: of a packed one, both places 0 with the wrap set
abbrev pub fresh_base : Bool → ℕ
fresh_base packed = if packed then 0x8000_8000 else 0

-- a base of a ring with n places: split, a count modulo 65,536; packed, both places are below n
abbrev pub is_lawful_base : Bool → ℕ → ℕ → Bool
is_lawful_base true n b = nat_lt (b % 0x8000) n && nat_lt (b / 0x1_0000 % 0x8000) n
is_lawful_base false n b = nat_le b 65535

-- a queue without a number, an address and a base of its own
abbrev pub fresh_vring : Bool → Vring
fresh_vring packed = record { num = 0; addr = None; base = fresh_base packed; enabled = false }

-- 1 to 8 data queues, rings of a lawful size, and a range of iovas below 2^63
pub record CanBe (packed : Bool) (size_max queues first last : ℕ) : Type 0 where
  pub few : (1 ≤ queues) × (queues ≤ 8)
  pub size : is_lawful_size packed size_max ≡ true
  pub range : (first ≤ last) × (last < 2 ^ 63)

-- how many queues there are
abbrev pub queue_count : ℕ → Bool → ℕ
queue_count queues control = if control then queues + 1 else queues

-- a bus as it was made
abbrev pub new_bus : Bool → ℕ → Features → ℕ → Bool → ℕ → ℕ → BusState
new_bus packed size_max f queues control first last = record {
  packed = packed;
  size_max = size_max;
  offered = f;
  queues = queues;
  control = control;
  first = first;
  last = last;
  status = 0;
  accepted = None;
  suspended = false;
  vrings = replicate (queue_count queues control) (fresh_vring packed);
  map = [];
}

-- ---- a queue

abbrev pub is_queue : BusState → ℕ → Bool
is_queue b n = nat_lt n b.queues || (n == control_queue && b.control)

-- where the queue stands in the list
abbrev pub place_of : BusState → ℕ → ℕ
place_of b n = if nat_lt n b.queues then n else b.queues

abbrev pub vring_of : BusState → ℕ → Vring
vring_of b n = slice_index_or b.vrings (place_of b n) (fresh_vring b.packed)

-- the bus with another state of one queue
abbrev pub with_vring : BusState → ℕ → Vring → BusState
with_vring b n q = record b { vrings = slice_set b.vrings (place_of b n) q }
