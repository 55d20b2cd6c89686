-- Chains whose addresses are moved by a map.
use Rattle.std.specs.Prelude.{ℕ, List, map, slice_index_or}
use Rattle.std.specs.Option.{unwrap_or}
use Rattle.vd_model.specs.declared.chain.Piece.{Piece}
use Rattle.vd_model.specs.declared.map.Mapping.{Mapping}
use Rattle.vd_model.specs.Chains.{blank}
use Rattle.vd_model.specs.Maps.{to, back}

-- the piece at another address
abbrev pub with_address : Piece → ℕ → Piece
with_address p addr = record { addr = addr; len = p.len; write = p.write }

-- piece i of a chain at another address
abbrev pub at_address : List Piece → ℕ → ℕ → Piece
at_address c i addr = with_address (slice_index_or c i blank) addr

-- the piece at its iova; where no mapping holds it, as it is
abbrev pub moved_piece : List Mapping → Piece → Piece
moved_piece ms p = with_address p (unwrap_or (to ms p.addr p.len) p.addr)

abbrev pub moved : List Mapping → List Piece → List Piece
moved ms c = map (moved_piece ms) c

-- the piece at its guest address; where no mapping holds it, as it is
abbrev pub moved_back_piece : List Mapping → Piece → Piece
moved_back_piece ms p = with_address p (unwrap_or (back ms p.addr p.len) p.addr)

abbrev pub moved_back : List Mapping → List Piece → List Piece
moved_back ms c = map (moved_back_piece ms) c
