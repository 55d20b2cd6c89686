-- What is seen of a ring's words.
use Rattle.std.specs.Prelude.{ℕ, List}

-- the ring's number, and its words from place 0 on
pub record RingWords : Type 0 where
  pub ring : ℕ
  pub words : List ℕ
