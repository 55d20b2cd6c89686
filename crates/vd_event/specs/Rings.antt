-- When a published range wants a signal.
use Rattle.std.specs.Prelude.{◌≡◌, ℕ, zero, suc, ◌-◌, ◌*◌, ◌/◌, ◌%◌, ◌<◌, ◌≤◌, ◌⊎◌, ◌==◌, ◌&&◌, ◌||◌, not, Bool, true, false, if◌then◌else◌}
use Rattle.vd_bits.specs.Lanes.{is_even}
use Rattle.vd_bits.specs.Event.{need_event}
use Rattle.vd_event.specs.Words.{offset_of, wrap_of, flags_of, enable, desc}
use Rattle.vd_event.specs.declared.rule.EventRule.{EventRule}
use Rattle.vd_event.specs.declared.rule.EventRule.TheVariants.{SplitFlags, SplitIndex, Packed}

-- the range old to new - 1 that was published, and the rule for it
pub record Published : Type 0 where
  pub rule : EventRule
  pub old : ℕ
  pub new : ℕ

-- a position of the range has this place and this wrap in a ring of so many places
abbrev pub HasPlace : ℕ → ℕ → ℕ → ℕ → Bool → Type 0
HasPlace size old new place wrap = (p : ℕ) × (old ≤ p) × (p < new) × (p % size ≡ place) × (is_even (p / size) ≡ wrap)

-- position p has this place and this wrap
abbrev pub is_at : ℕ → ℕ → ℕ → Bool → Bool
is_at size p place wrap = ((p % size) == place) && (if wrap then is_even (p / size) else not (is_even (p / size)))

-- one of so many positions, from the first on, has them
abbrev pub is_among : ℕ → ℕ → ℕ → ℕ → Bool → Bool
is_among size first zero place wrap = false
is_among size first (suc count) place wrap = is_at size first place wrap || is_among size (suc first) count place wrap

-- the word asks for a signal for the range old to new - 1: bit 0 of the flags is clear; the event index lies in the range; the flags
-- enable every signal, or they name a descriptor of the range (VIRTIO 1.2, 2.7.7, 2.7.10 and 2.8.14). The bits that the rule doesn't
-- name say nothing
abbrev pub wants : EventRule → ℕ → ℕ → ℕ → Bool
wants SplitFlags old new word = (word % 2) == 0
wants SplitIndex old new word = need_event (word % 65536) (new % 65536) (old % 65536)
wants (Packed size) old new word =
    (flags_of word == enable) || ((flags_of word == desc) && is_among size old (new - old) (offset_of word) (wrap_of word))

abbrev pub Rings : EventRule → ℕ → ℕ → ℕ → Type 0
Rings rule old new word = wants rule old new word ≡ true

-- what it says of a packed ring, in terms of positions
abbrev pub RingsPacked : ℕ → ℕ → ℕ → ℕ → Type 0
RingsPacked size old new word =
    (flags_of word ≡ enable) ⊎ ((flags_of word ≡ desc) × HasPlace size old new (offset_of word) (wrap_of word))

-- how far apart two positions are that have one word; flags tell no position
abbrev pub period : EventRule → ℕ
period SplitFlags = 0
period SplitIndex = 65536
period (Packed size) = 2 * size
