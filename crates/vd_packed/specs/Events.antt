-- The own event words of an end.
use Rattle.std.specs.Prelude.{ℕ, Bool, if◌then◌else◌, unwrap_or}
use Rattle.vd_event.specs.Words.{arm_word, off_word}
use Rattle.vd_event.specs.declared.rule.EventRule.TheVariants.{Packed}

-- that of a side that waits for the descriptor at position q: without EVENT_IDX it asks for every signal
abbrev pub armed_word : ℕ → Bool → ℕ → ℕ
armed_word n event_idx q = if event_idx then arm_word (Packed n) q else 0

-- that of a side that wants no signal
abbrev pub off_value : ℕ → ℕ
off_value n = unwrap_or (off_word (Packed n)) 0
