-- The words of a packed ring (VIRTIO 1.2, 2.8): the areas, and what a descriptor's second word says.
use Rattle.std.specs.Prelude.{◌≡◌, ℕ, ◌+◌, ◌*◌, ◌/◌, ◌%◌, ◌<◌, ◌≤◌, ◌⊎◌, ◌==◌, ◌&&◌, nat_lt, Bool, true, List, map, if◌then◌else◌, slice_index}
use Rattle.std.specs.List.{All}
use Rattle.vd_ring.specs.declared.frame.Frame.{Frame}
use Rattle.vd_ring.specs.declared.frame.Put.{Put}

-- a packed ring's frame: any number of places from 2 to 32,768
pub record IsLawful (f : Frame) : Type 0 where
  pub packed : f.packed ≡ true
  pub least : 2 ≤ f.size
  pub most : f.size ≤ 32768

-- ---- the areas, one after the other: descriptors from word 0 on, driver area, device area, tables, commands, acks, two bells.
-- Each name is its area's first word

-- the event word that the driver stores, and the one that the device stores (VIRTIO 1.2, 2.8.10)
abbrev pub driver_event : Frame → ℕ
driver_event f = 2 * f.size

abbrev pub device_event : Frame → ℕ
device_event f = 2 * f.size + 1

abbrev pub tables_from : Frame → ℕ
tables_from f = 2 * f.size + 2

abbrev pub commands_from : Frame → ℕ
commands_from f = tables_from f + (if f.features.indirect then 32 * f.size else 0)

abbrev pub acks_from : Frame → ℕ
acks_from f = commands_from f + (if f.control then 2 * f.size else 0)

-- the bell that the driver stores, and the one that the device stores
abbrev pub kick_at : Frame → ℕ
kick_at f = acks_from f + (if f.control then f.size else 0)

abbrev pub call_at : Frame → ℕ
call_at f = kick_at f + 1

-- how many words the ring has
abbrev pub width : Frame → ℕ
width f = kick_at f + 2

-- the words that the driver alone stores: the descriptors' addresses, the driver area, tables, commands, its bell
abbrev pub IsDrivers : Frame → ℕ → Type 0
IsDrivers f i = ((i < 2 * f.size) × (i % 2 ≡ 0)) ⊎ (i ≡ driver_event f) ⊎ ((tables_from f ≤ i) × (i < acks_from f)) ⊎ (i ≡ kick_at f)

-- the words that the device alone stores: the device area, acks, its bell
abbrev pub IsDevices : Frame → ℕ → Type 0
IsDevices f i = (i ≡ device_event f) ⊎ ((acks_from f ≤ i) × (i < kick_at f)) ⊎ (i ≡ call_at f)

-- the words that a chain's pieces can stand in: descriptors and tables
abbrev pub IsDescriptors : Frame → ℕ → Type 0
IsDescriptors f i = (i < 2 * f.size) ⊎ ((tables_from f ≤ i) × (i < commands_from f))

-- the first word of a head's table, the first of its two command words, and its ack word
abbrev pub table_of : Frame → ℕ → ℕ
table_of f h = tables_from f + 32 * h

abbrev pub command_word : Frame → ℕ → ℕ
command_word f h = commands_from f + 2 * h

abbrev pub ack_word : Frame → ℕ → ℕ
ack_word f h = acks_from f + h

-- ---- positions: descriptors since the ring was made. Position q has the place q mod n, and its wrap is true where q div n is even

-- the words with the address and with the rest of the descriptor at a position
abbrev pub addr_word : ℕ → ℕ → ℕ
addr_word n q = 2 * (q % n)

abbrev pub second_word : ℕ → ℕ → ℕ
second_word n q = 2 * (q % n) + 1

-- 1 where the wrap of a position is true, else 0; and the reverse
abbrev pub wrap_bit : ℕ → ℕ → ℕ
wrap_bit n q = (q / n + 1) % 2

abbrev pub other_bit : ℕ → ℕ → ℕ
other_bit n q = (q / n) % 2

-- ---- a descriptor's second word: length, buffer id, flags (VIRTIO 1.2, 2.8.13)

abbrev pub packed_word : ℕ → ℕ → ℕ → ℕ
packed_word len id flags = len + 4294967296 * (id + 65536 * flags)

abbrev pub len_of : ℕ → ℕ
len_of w = w % 4294967296

abbrev pub id_of : ℕ → ℕ
id_of w = (w / 4294967296) % 65536

abbrev pub flags_of : ℕ → ℕ
flags_of w = (w / 4294967296) / 65536

-- the flags NEXT 1, WRITE 2 and INDIRECT 4
abbrev pub goes_on : ℕ → Bool
goes_on w = (flags_of w % 2) == 1

abbrev pub is_write : ℕ → Bool
is_write w = ((flags_of w / 2) % 2) == 1

abbrev pub names_table : ℕ → Bool
names_table w = ((flags_of w / 4) % 2) == 1

-- AVAIL is bit 7 of the flags and USED bit 15. A descriptor is available at a position where AVAIL equals the wrap and USED does
-- not, and used where both equal it (VIRTIO 1.2, 2.8.1)
abbrev pub is_available : ℕ → ℕ → ℕ → Bool
is_available n q w = ((flags_of w / 128) % 2 == wrap_bit n q) && ((flags_of w / 32768) % 2 == other_bit n q)

abbrev pub is_used : ℕ → ℕ → ℕ → Bool
is_used n q w = ((flags_of w / 128) % 2 == wrap_bit n q) && ((flags_of w / 32768) % 2 == wrap_bit n q)

-- what the device stores at a position for the head and the length given: WRITE exactly where the length is at least 1
abbrev pub used_word : ℕ → ℕ → ℕ → ℕ → ℕ
used_word n q id len = packed_word len id ((if nat_lt 0 len then 2 else 0) + 128 * wrap_bit n q + 32768 * wrap_bit n q)

-- an event word that names a position: its place, its wrap, and the flags DESC 2 (VIRTIO 1.2, 2.8.14)
abbrev pub event_word : ℕ → ℕ → ℕ
event_word n q = q % n + 32768 * wrap_bit n q + 131072

-- ---- the base of a ring at rest: bits 0 to 14 the available place, bit 15 its wrap, bits 16 to 30 the used place, bit 31 its wrap

-- both are of one position
abbrev pub base_at : ℕ → ℕ → ℕ
base_at n q = 65537 * (q % n + 32768 * wrap_bit n q)

-- both places are the ring's
abbrev pub is_base : ℕ → ℕ → Bool
is_base n b = nat_lt (b % 32768) n && nat_lt ((b / 65536) % 32768) n

-- ---- words at places

abbrev pub put : ℕ → ℕ → Put
put p x = record { place = p; word = x }

abbrev pub words_of : List Put → List ℕ
words_of ps = map (λ p. p.word) ps

-- each word of the list stands
abbrev pub Stand : List ℕ → List Put → Type 0
Stand ws ps = All (λ p. slice_index ws p.place ≡ p.word) ps
