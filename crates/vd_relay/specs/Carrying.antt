-- A control chain that was taken from the guest's ring, by its places.
use Rattle.std.specs.Prelude.{ℕ, ◌<◌, ◌^◌, List}
use Rattle.vd_model.specs.declared.chain.Piece.{Piece}
use Rattle.vd_ring.specs.Control.{IsControlChain}

-- a control chain by the places of its first command word and of its ack word, which are those of a ring
pub record IsCommandAt (at_command at_ack : ℕ) (c : List Piece) : Type 0 where
  pub chain : IsControlChain at_command at_ack c
  pub low : at_command < 2 ^ 32
  pub ack_low : at_ack < 2 ^ 32
