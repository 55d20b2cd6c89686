-- The canonical text of a run: no count of 1, no leading zeros.
use Rattle.std.specs.Prelude.{ℕ, ◌==◌, if◌then◌else◌, List, [], ◌∷◌, ◌++◌, decimal}
use Rattle.vd_model.specs.declared.chain.Piece.{Piece}
use Rattle.vd_model.specs.declared.record.Run.{Run}

-- `r` or `w`, the address, `+`, the length
abbrev pub piece_text : Piece → List ℕ
piece_text p = (if p.write then 119 else 114) ∷ (decimal p.addr ++ 43 ∷ decimal p.len)

-- pieces, each with a space before it
abbrev pub more_text : List Piece → List ℕ
more_text [] = []
more_text (p ∷ ps) = 32 ∷ (piece_text p ++ more_text ps)

-- the pieces of a chain
abbrev pub pieces_text : List Piece → List ℕ
pieces_text [] = []
pieces_text (p ∷ ps) = piece_text p ++ more_text ps

-- so many of them: without a count where it is 1
abbrev pub counted_text : ℕ → List ℕ → List ℕ
counted_text n text = if n == 1 then text else decimal n ++ 42 ∷ text

-- the text of a run
unfoldable pub run_text : Run → List ℕ
run_text r = counted_text r.count (pieces_text r.chain)
