-- Where a layout keeps commands and acks.
use Rattle.std.specs.Prelude.{ℕ}
use Rattle.vd_ring.specs.declared.frame.Frame.{Frame}

-- the first of a head's two command words, and its ack word
pub record ControlWords : Type 0 where
  pub command : Frame → ℕ → ℕ
  pub ack : Frame → ℕ → ℕ
