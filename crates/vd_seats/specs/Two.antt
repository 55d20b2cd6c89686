-- A chain of two pieces.
use Rattle.std.specs.Prelude.{true, false, List, [], ◌∷◌}
use Rattle.vd_model.specs.declared.chain.Piece.{Piece}

abbrev pub two : List Piece
two = record { addr = 4096; len = 10; write = false } ∷ record { addr = 8192; len = 20; write = true } ∷ []
