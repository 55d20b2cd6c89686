-- The words of a split ring (VIRTIO 1.2, 2.7), and how they spell chains and used entries.
use Rattle.std.specs.Prelude.{◌≡◌, ℕ, ◌+◌, ◌-◌, ◌*◌, ◌/◌, ◌%◌, ◌<◌, ◌≤◌, ◌⊎◌, ◌==◌, ◌&&◌, nat_lt, Bool, true, false, not, List, [], ◌∷◌, ◌++◌, length, map, take, drop, if◌then◌else◌, slice_index}
use Rattle.std.specs.List.{All}
use Rattle.vd_bits.specs.Lanes.{lane16, set_lane16, lane32}
use Rattle.vd_bits.specs.Event.{apart}
use Rattle.vd_event.specs.declared.rule.EventRule.TheVariants as rule
use Rattle.vd_event.specs.Words.{arm_word}
use Rattle.vd_event.specs.Rings
use Rattle.vd_indirect.specs.declared.descriptor.TableKind.TheVariants as kind
use Rattle.vd_indirect.specs.Tables.{table_words}
use Rattle.vd_model.specs.declared.chain.Piece.{Piece}
use Rattle.vd_ring.specs.declared.frame.Frame.{Frame}
use Rattle.vd_ring.specs.declared.frame.Put.{Put}
use Rattle.vd_ring.specs.History.{occurs, first}

-- a split ring's frame: 1 to 32,768 places
pub record IsLawful (f : Frame) : Type 0 where
  pub split : f.packed ≡ false
  pub some_place : 0 < f.size
  pub small : f.size ≤ 32768

-- ---- the areas, one after the other: descriptors from word 0 on, driver area, device area, tables, commands, acks, two bells.
-- Each name is its area's first word

abbrev pub avail_from : Frame → ℕ
avail_from f = 2 * f.size

abbrev pub used_from : Frame → ℕ
used_from f = 2 * f.size + (f.size + 6) / 4

abbrev pub tables_from : Frame → ℕ
tables_from f = used_from f + f.size + 1

abbrev pub commands_from : Frame → ℕ
commands_from f = tables_from f + (if f.features.indirect then 32 * f.size else 0)

abbrev pub acks_from : Frame → ℕ
acks_from f = commands_from f + (if f.control then 2 * f.size else 0)

-- the bell that the driver stores, and the one that the device stores
abbrev pub kick_at : Frame → ℕ
kick_at f = acks_from f + (if f.control then f.size else 0)

abbrev pub call_at : Frame → ℕ
call_at f = kick_at f + 1

-- how many words the ring has
abbrev pub width : Frame → ℕ
width f = kick_at f + 2

-- the words that the driver stores: descriptors, driver area, tables, commands, its bell
abbrev pub IsDrivers : Frame → ℕ → Type 0
IsDrivers f i = (i < used_from f) ⊎ ((tables_from f ≤ i) × (i < acks_from f)) ⊎ (i ≡ kick_at f)

-- the words that the device stores: device area, acks, its bell
abbrev pub IsDevices : Frame → ℕ → Type 0
IsDevices f i = ((used_from f ≤ i) × (i < tables_from f)) ⊎ ((acks_from f ≤ i) × (i < kick_at f)) ⊎ (i ≡ call_at f)

-- the words that a chain's pieces can stand in: descriptors and tables
abbrev pub IsDescriptors : Frame → ℕ → Type 0
IsDescriptors f i = (i < avail_from f) ⊎ ((tables_from f ≤ i) × (i < commands_from f))

-- the first word of a head's table, the first of its two command words, and its ack word
abbrev pub table_of : Frame → ℕ → ℕ
table_of f h = tables_from f + 32 * h

abbrev pub command_word : Frame → ℕ → ℕ
command_word f h = commands_from f + 2 * h

abbrev pub ack_word : Frame → ℕ → ℕ
ack_word f h = acks_from f + h

-- ---- the driver area as 16-bit lanes: flags, idx, the ring entries, used_event (VIRTIO 1.2, 2.7.6)

abbrev pub lane_word : Frame → ℕ → ℕ
lane_word f j = avail_from f + j / 4

abbrev pub lane_at : Frame → List ℕ → ℕ → ℕ
lane_at f ws j = lane16 (slice_index ws (lane_word f j)) (j % 4)

-- the word of lane j with v in that lane
abbrev pub with_lane : Frame → List ℕ → ℕ → ℕ → ℕ
with_lane f ws j v = set_lane16 (slice_index ws (lane_word f j)) (j % 4) v

-- the lane of the entry of chain number k
abbrev pub entry_lane : Frame → ℕ → ℕ
entry_lane f k = k % f.size + 2

-- the lane of used_event
abbrev pub event_lane : Frame → ℕ
event_lane f = f.size + 2

-- ---- the device area: flags and idx, the used entries, avail_event (VIRTIO 1.2, 2.7.8)

-- the words with the id and with the length of used entry number j
abbrev pub id_word : Frame → ℕ → ℕ
id_word f j = used_from f + j % f.size

abbrev pub len_word : Frame → ℕ → ℕ
len_word f j = used_from f + j % f.size + 1

abbrev pub used_index : Frame → List ℕ → ℕ
used_index f ws = lane16 (slice_index ws (used_from f)) 1

abbrev pub used_id : Frame → List ℕ → ℕ → ℕ
used_id f ws j = lane32 (slice_index ws (id_word f j)) 1

abbrev pub used_len : Frame → List ℕ → ℕ → ℕ
used_len f ws j = lane32 (slice_index ws (len_word f j)) 0

-- ---- event words (VIRTIO 1.2, 2.7.7 and 2.7.10): with EVENT_IDX used_event and avail_event, else bit 0 of the flags

-- the lane of the driver's event word, among those of its area
abbrev pub driver_event_lane : Frame → ℕ
driver_event_lane f = if f.features.event_idx then event_lane f else 0

-- the word with the device's event word, and its lane there
abbrev pub device_event_word : Frame → ℕ
device_event_word f = if f.features.event_idx then used_from f + f.size else used_from f

abbrev pub device_event_lane : Frame → ℕ
device_event_lane f = if f.features.event_idx then 2 else 0

-- the event word of a side that waits for count s
abbrev pub armed_value : Frame → ℕ → ℕ
armed_value f s = if f.features.event_idx then arm_word rule.SplitIndex s else arm_word rule.SplitFlags s

-- this event word asks for a signal for the range old to new - 1: the range holds the event index, or bit 0 of the flags is clear
abbrev pub wants : Frame → ℕ → ℕ → ℕ → Bool
wants f old new event = if f.features.event_idx then Rings.wants rule.SplitIndex old new event else Rings.wants rule.SplitFlags old new
    event

-- the word of a bell that was stored so many times
abbrev pub bell_word : ℕ → ℕ
bell_word n = n % 18446744073709551616

-- ---- indices, which count modulo 65,536

-- the loaded word shows an index of n
abbrev pub shows : ℕ → ℕ → Bool
shows r n = lane16 r 1 == n % 65536

-- the first count from n on that the loaded word's index can mean
abbrev pub shown_from : ℕ → ℕ → ℕ
shown_from r n = n + apart (lane16 r 1) (n % 65536)

-- a loaded index is a count from `low` to `high`, not before the one seen last
pub record ShowsIndex (r seen low high : ℕ) : Type 0 where
  pub index : ℕ
  pub lane : lane16 r 1 ≡ index % 65536
  pub least : low ≤ index
  pub most : index ≤ high
  pub forward : seen ≤ index

-- ---- descriptors (VIRTIO 1.2, 2.7.5)

abbrev pub put : ℕ → ℕ → Put
put p x = record { place = p; word = x }

abbrev pub words_of : List Put → List ℕ
words_of ps = map (λ p. p.word) ps

-- each word of the list stands
abbrev pub Stand : List ℕ → List Put → Type 0
Stand ws ps = All (λ p. slice_index ws p.place ≡ p.word) ps

-- 1 where another descriptor follows
abbrev pub more : List Piece → ℕ
more [] = 0
more (x ∷ xs) = 1

-- NEXT 1 and WRITE 2
abbrev pub flags : Piece → List Piece → ℕ
flags x xs = more xs + (if x.write then 2 else 0)

-- the second word of a piece's descriptor: length, flags, next
abbrev pub second : Piece → List Piece → ℕ → ℕ
second x xs next = x.len + flags x xs * 4294967296 + next * 281474976710656

-- the words of a chain whose pieces stand in these descriptors, linked in order; the descriptors are counted from word `base` on
abbrev pub described : ℕ → List ℕ → List Piece → List Put
described base [] xs = []
described base (p ∷ ps) [] = []
described base (p ∷ ps) (x ∷ xs) = put (base + 2 * p) x.addr ∷ put (base + 2 * p + 1) (second x xs (first ps)) ∷ described base ps xs

-- a chain of two pieces or more stands in a table where INDIRECT_DESC is on (VIRTIO 1.2, 2.7.5.3)
abbrev pub is_tabled : Frame → List Piece → Bool
is_tabled f c = f.features.indirect && nat_lt 1 (length c)

-- words that stand one after the other, from place `at` on
abbrev pub row : ℕ → List ℕ → List Put
row at [] = []
row at (w ∷ ws) = put at w ∷ row (at + 1) ws

-- the words of the table of head h, from its first word on
abbrev pub table : Frame → ℕ → List Piece → List Put
table f h c = row (table_of f h) (table_words kind.Split c)

-- the words of the descriptor at place h that names its table: the table's address in bytes, its length in bytes, INDIRECT alone
abbrev pub pointer : Frame → ℕ → List Piece → List Put
pointer f h c = put (2 * h) (8 * table_of f h) ∷ put (2 * h + 1) (16 * length c + 17179869184) ∷ []

-- the words of a chain at these places, in the order in which an offer stores them
abbrev pub spelling : Frame → List ℕ → List Piece → List Put
spelling f ps c = if is_tabled f c then table f (first ps) c ++ pointer f (first ps) c else described 0 ps c

-- the same in the order in which a take loads them
abbrev pub reading : Frame → List ℕ → List Piece → List Put
reading f ps c = if is_tabled f c then pointer f (first ps) c ++ table f (first ps) c else described 0 ps c

-- from place h on, by NEXT and next, as many different places below the size as the chain has pieces are visited, and the i-th
-- has the i-th piece
pub record SpellsDirect (f : Frame) (ws : List ℕ) (h : ℕ) (c : List Piece) : Type 0 where
  pub places : List ℕ
  pub as_many : length places ≡ length c
  pub begin : first places ≡ h
  pub differ : (p : ℕ) → occurs p places ≤ 1
  pub inside : All (λ p. p < f.size) places
  pub stand : Stand ws (described 0 places c)

-- place h names its table, in which place 0 and so on have the pieces in order, linked in the same way
pub record SpellsTable (f : Frame) (ws : List ℕ) (h : ℕ) (c : List Piece) : Type 0 where
  pub inside : h < f.size
  pub pointer : Stand ws (pointer f h c)
  pub table : Stand ws (table f h c)

-- the words spell the chain at the head h
pub record Spells (f : Frame) (ws : List ℕ) (h : ℕ) (c : List Piece) : Type 0 where
  pub direct : is_tabled f c ≡ false → SpellsDirect f ws h c
  pub indirect : is_tabled f c ≡ true → SpellsTable f ws h c

-- ---- reading descriptors

abbrev pub goes_on : ℕ → Bool
goes_on s = ((s / 4294967296) % 2) == 1

abbrev pub names_table : ℕ → Bool
names_table s = ((s / 17179869184) % 2) == 1

abbrev pub next_of : ℕ → ℕ
next_of s = s / 281474976710656

abbrev pub piece_of : ℕ → ℕ → Piece
piece_of a s = record { addr = a; len = s % 4294967296; write = ((s / 8589934592) % 2) == 1 }

-- the pieces that the words of descriptors in order spell
abbrev pub pieces_of : List ℕ → List Piece
pieces_of [] = []
pieces_of (a ∷ []) = []
pieces_of (a ∷ s ∷ ws) = piece_of a s ∷ pieces_of ws

-- these are whole descriptors, and the last does not go on
abbrev pub ends : List ℕ → Bool
ends [] = false
ends (a ∷ []) = false
ends (a ∷ s ∷ []) = not (goes_on s)
ends (a ∷ s ∷ b ∷ ws) = ends (b ∷ ws)

-- where the word after these stands, of descriptors linked from place h on
abbrev pub linked : ℕ → List ℕ → ℕ
linked h [] = 2 * h
linked h (a ∷ []) = 2 * h + 1
linked h (a ∷ s ∷ ws) = linked (next_of s) ws

-- the words loaded so far of a chain begin with a descriptor that names a table
abbrev pub has_table : Frame → List ℕ → Bool
has_table f [] = false
has_table f (a ∷ []) = false
has_table f (a ∷ s ∷ ws) = f.features.indirect && names_table s

-- how many words the table has that the second word s names
abbrev pub named_words : ℕ → ℕ
named_words s = 2 * ((s % 4294967296) / 16)

-- these words, in the order of a take, are a whole chain's
abbrev pub is_whole : Frame → List ℕ → Bool
is_whole f ws = if has_table f ws then length ws == 2 + named_words (slice_index ws 1) else ends ws

-- the chain that they spell
abbrev pub chain_of : Frame → List ℕ → List Piece
chain_of f ws = if has_table f ws then pieces_of (drop 2 ws) else pieces_of ws

-- where the word after these stands, of a chain with the head h
abbrev pub cursor : Frame → ℕ → List ℕ → ℕ
cursor f h ws = if has_table f ws then table_of f h + (length ws - 2) else linked h ws

-- the chain that words in the order of an offer spell: more than one descriptor's are a table's, and its pointer's two
abbrev pub staged_chain : Frame → List ℕ → List Piece
staged_chain f ws = if f.features.indirect && nat_lt 2 (length ws) then pieces_of (take (length ws - 2) ws) else pieces_of ws
