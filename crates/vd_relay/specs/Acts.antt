-- What one access adds to what an end has done.
use Rattle.std.specs.Prelude.{◌≡◌, ◌⊎◌, List, ◌∷◌}

-- nothing, or one act. Lists of acts have the newest first
abbrev pub AddsOneAct : {X : Type 0} → List X → List X → Type 0
AddsOneAct {X} s s' = (s' ≡ s) ⊎ ((a : X) × (s' ≡ a ∷ s))
