-- Event words and bells of a packed ring: what either side stores and loads to sleep, and to wake the other (VIRTIO 1.2, 2.8.10).
-- `event_at` and `bell_at` are the places of an event word and of a bell.
use Rattle.std.specs.Prelude.{◌≡◌, ℕ, ◌+◌, ◌%◌, ◌<◌, ◌≤◌, Bool, true, false, Option, Some, if◌then◌else◌}
use Rattle.vd_bits.specs.Lanes.{lane32}
use Rattle.vd_event.specs.Rings.{wants}
use Rattle.vd_event.specs.declared.rule.EventRule.TheVariants.{Packed}
use Rattle.vd_ring.specs.declared.frame.Frame.{Frame}
use Rattle.vd_packed_ring.specs.PackedWords.{event_word}

-- ---- the words

-- the event word of a side that waits for position q: ENABLE 0, and with EVENT_IDX one that names the position
abbrev pub armed_value : Frame → ℕ → ℕ
armed_value f q = if f.features.event_idx then event_word f.size q else 0

-- the event word of a side that wants no signal: the flags DISABLE 1, which stand in bits 16 and 17 (VIRTIO 1.2, 2.8.14)
abbrev pub disabled : ℕ
disabled = 65536

-- the word of a bell that was stored so many times
abbrev pub bell_word : ℕ → ℕ
bell_word n = n % 18446744073709551616

-- r is a loaded word with an event word, its low half: it asks for a signal for the positions old to new - 1
abbrev pub asks : Frame → ℕ → ℕ → ℕ → Bool
asks f old new r = wants (Packed f.size) old new (lane32 r 0)

-- ---- where a side is armed

-- it is armed at some position
abbrev pub IsArmed : Option ℕ → Type 0
IsArmed armed = (q : ℕ) × (armed ≡ Some q)

-- a range that may be checked: not empty, and no longer than the ring
pub record IsRange (f : Frame) (old new : ℕ) : Type 0 where
  pub some : old < new
  pub near : new ≤ old + f.size

-- ---- the accesses

-- the store of the event word by which a side waits for position q
pub record StoresEvent (f : Frame) (event_at q p x : ℕ) : Type 0 where
  pub place : p ≡ event_at
  pub word : x ≡ armed_value f q

-- the disarming store, without EVENT_IDX
pub record StoresDisable (f : Frame) (event_at p x : ℕ) : Type 0 where
  pub flagged : f.features.event_idx ≡ false
  pub place : p ≡ event_at
  pub word : x ≡ disabled

-- the store of the bell: how many were stored, this one included
pub record StoresBell (bell_at bells p x : ℕ) : Type 0 where
  pub place : p ≡ bell_at
  pub word : x ≡ bell_word (bells + 1)

-- with EVENT_IDX a side is disarmed by a load of the bell that it hears, since no store does it
pub record LoadsBell (f : Frame) (bell_at p : ℕ) : Type 0 where
  pub indexed : f.features.event_idx ≡ true
  pub place : p ≡ bell_at
