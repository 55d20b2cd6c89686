-- The event words by which a side says when it wants a signal.
use Rattle.std.specs.Prelude.{◌≡◌, ℕ, ◌+◌, ◌*◌, ◌/◌, ◌%◌, ◌≤◌, ◌==◌, Bool, false, Option, Some, None, if◌then◌else◌}
use Rattle.vd_bits.specs.Lanes.{is_even}
use Rattle.vd_event.specs.declared.rule.EventRule.{EventRule}
use Rattle.vd_event.specs.declared.rule.EventRule.TheVariants.{SplitFlags, SplitIndex, Packed}

-- a packed event word: the offset in bits 0 to 14, the wrap in bit 15, the flags in bits 16 and 17 (VIRTIO 1.2, 2.8.14)
abbrev pub packed_word : ℕ → Bool → ℕ → ℕ
packed_word offset wrap flags = flags * 65536 + (if wrap then 32768 else 0) + offset

abbrev pub offset_of : ℕ → ℕ
offset_of word = word % 32768

abbrev pub wrap_of : ℕ → Bool
wrap_of word = ((word / 32768) % 2) == 1

abbrev pub flags_of : ℕ → ℕ
flags_of word = (word / 65536) % 4

-- RING_EVENT_FLAGS_ENABLE, RING_EVENT_FLAGS_DISABLE and RING_EVENT_FLAGS_DESC (VIRTIO 1.2, 2.8.10)
abbrev pub enable : ℕ
enable = 0

abbrev pub disable : ℕ
disable = 1

abbrev pub desc : ℕ
desc = 2

-- the word of a side that waits for a position: the flags 0; the count modulo 65,536; the position's place and wrap, with the flags DESC
abbrev pub arm_word : EventRule → ℕ → ℕ
arm_word SplitFlags s = 0
arm_word SplitIndex s = s % 65536
arm_word (Packed size) s = packed_word (s % size) (is_even (s / size)) desc

-- the word of a side that wants no signal, where there is one
abbrev pub off_word : EventRule → Option ℕ
off_word SplitFlags = Some 1
off_word SplitIndex = None
off_word (Packed size) = Some (packed_word 0 false disable)

-- the word is that of a side that wants every signal: no flag is set
abbrev pub IsOn : EventRule → ℕ → Type 0
IsOn SplitFlags word = word ≡ 0
IsOn SplitIndex word = ⊥
IsOn (Packed size) word = word ≡ 0

-- an offset has 15 bits
abbrev pub IsArmable : EventRule → Type 0
IsArmable SplitFlags = Unit {0}
IsArmable SplitIndex = Unit {0}
IsArmable (Packed size) = (1 ≤ size) × (size ≤ 32768)

-- the word is that of a side that waits for position s
abbrev pub IsArmedAt : EventRule → ℕ → ℕ → Type 0
IsArmedAt rule s word = IsArmable rule × (word ≡ arm_word rule s)

-- the longest range that a rule can decide about
abbrev pub reach : EventRule → ℕ
reach SplitFlags = 32768
reach SplitIndex = 32768
reach (Packed size) = size
