-- What the rounds of an epoch leave of the only lane.
use Rattle.std.specs.Prelude.{◌≡◌, ℕ, ◌+◌, ◌≤◌, Bool, true, false, Option, Some, is_none, List, [], ◌∷◌}
use Rattle.vd_words.specs.Plain.{RingWords}
use Rattle.vd_machine.specs.File.{Plan}
use Rattle.vd_play.specs.declared.floor.Lane.{Lane}
use Rattle.vd_play.specs.Progress.{InEpoch, IsStopped, steps}
use Rattle.vd_play.specs.Setting.{Setting}

-- there is one lane, without a relay
abbrev pub is_alone : {L D E : Type 0} → List (Lane L D E) → Bool
is_alone [] = false
is_alone (l ∷ []) = is_none l.relaying
is_alone (l ∷ (m ∷ ls)) = false

-- after some rounds of an epoch of the mode pass the device is suspended, and its end kept; no count went down
abbrev pub PassEnds : {D E G X C : Type 0} → Setting D E G X C → Plan → ℕ → ℕ → RingWords → Option E → ℕ → G → G → X → X → Type 0
PassEnds {D} {E} s plan q k words still relayed b b' x x' = ((r : ℕ) × (end : E) × (still ≡ Some end)
    × IsStopped s plan q (k + 1) r words end relayed b' x') × (steps s relayed b x ≤ steps s relayed b' x')

-- after some rounds of an epoch the lane is still, and its parties have made so many steps that were no looks
abbrev pub LaneEnds : {L D E G X C : Type 0} → Setting D E G X C → Plan → Lane L D E → Lane L D E → G → G → X → X → ℕ → Type 0
LaneEnds s plan a a' b b' x x' made = (q k : ℕ) → InEpoch s plan q true k 0 a b x
    → ((r : ℕ) × InEpoch s plan q true k r a' b' x') × (steps s a'.relayed b' x' ≡ steps s a.relayed b x + made)
