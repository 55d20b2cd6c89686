-- What an end keeps in room of fixed size.
use Rattle.std.specs.Prelude.{ℕ, List}
use Rattle.vd_model.specs.declared.chain.Piece.{Piece}

-- the pieces of a chain that is offered or taken
pub record KeptPieces : Type 0 where
  pub items : List Piece

-- the places of an open chain
pub record KeptPlaces : Type 0 where
  pub items : List ℕ
