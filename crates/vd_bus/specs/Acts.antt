-- What one access adds to what a side has done.
use Rattle.std.specs.Prelude.{◌≡◌, ◌⊎◌, List, ◌∷◌}

-- nothing, or one act: so at most one offer or collect of a driver, and one take or give of a device. Lists of acts have the newest
-- first
abbrev pub IsOneActMore : {X : Type 0} → List X → List X → Type 0
IsOneActMore {X} s s' = (s' ≡ s) ⊎ ((a : X) × (s' ≡ a ∷ s))
