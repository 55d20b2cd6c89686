-- What is seen of a source and a sink in memory.
use Rattle.std.specs.Prelude.{ℕ, List, Bool, ◌==◌}
use Rattle.std.specs.List.{list_any}

pub record Source : Type 0 where
  pub left : List ℕ
  pub fails : List ℕ
  pub takes : ℕ
  pub faults : ℕ

pub record Sink : Type 0 where
  pub held : List ℕ
  pub room : ℕ
  pub fails : List ℕ
  pub puts : ℕ
  pub faults : ℕ

-- the number stands in the list
abbrev pub is_listed : List ℕ → ℕ → Bool
is_listed ns n = list_any (λ m. m == n) ns
