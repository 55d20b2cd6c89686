-- What a put does.
use Rattle.std.specs.Prelude.{◌≡◌, ℕ, ◌≤◌, List, ◌++◌, length, Option, Result, IfOk}
use Rattle.std.specs.Io.KnownBytes.{Appends}

-- at least one byte and at most all
abbrev pub TakesSome : {E : Type 0} → Result ℕ E → List ℕ → Type 0
TakesSome result bytes = IfOk result (λ n. (1 ≤ n) × (n ≤ length bytes))

-- the sink holds a front of the bytes more
pub record AppendsFront (old new : Option (List ℕ)) (bytes : List ℕ) : Type 0 where
  pub front : List ℕ
  pub rest : List ℕ
  pub parts : bytes ≡ front ++ rest
  pub held : Appends old new front
