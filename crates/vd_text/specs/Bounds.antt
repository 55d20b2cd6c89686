-- Lists of bounded length.
use Rattle.std.specs.Prelude.{ℕ, nat_le, if◌then◌else◌, List, length, Option, Some, None}

-- the list, where it has at most n elements
abbrev pub if_at_most : {A : Type 0} → ℕ → List A → Option (List A)
if_at_most n xs = if nat_le (length xs) n then Some xs else None
