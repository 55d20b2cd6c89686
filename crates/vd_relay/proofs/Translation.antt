-- A chain whose first pieces are at their iovas.
use Rattle.std.proofs.Common.{◌≡◌, ℕ, zero, suc, ◌<◌, Option, Some, List, [], ◌∷◌, ◌++◌, length, take, drop, slice_set, slice_index_or, refl, sym, ap, arith}
use Rattle.std.specs.Option.{unwrap_or}
use Rattle.vd_model.specs.declared.chain.Piece.{Piece}
use Rattle.vd_model.specs.declared.map.Mapping.{Mapping}
use Rattle.vd_model.specs.Chains.{blank}
use Rattle.vd_model.specs.Maps.{to}
use Rattle.vd_model.specs.Moved.{moved, moved_piece, with_address, at_address}

-- the first i pieces are moved, the others are as they were
abbrev pub moved_to : List Mapping → ℕ → List Piece → List Piece
moved_to ms i c = moved ms (take i c) ++ drop i c

pub at_first : (ms : List Mapping) (c : List Piece) → c ≡ moved_to ms 0 c
at_first ms c = refl

pub as_many : (ms : List Mapping) (i : ℕ) (c : List Piece) → length (moved_to ms i c) ≡ length c
as_many ms zero c = refl
as_many ms (suc i) [] = refl
as_many ms (suc i) (p ∷ c) = ap suc (as_many ms i c)

pub next_piece : (ms : List Mapping) (i : ℕ) (c : List Piece) (d : Piece) → slice_index_or (moved_to ms i c) i d ≡ slice_index_or c i d
next_piece ms zero c d = refl
next_piece ms (suc i) [] d = refl
next_piece ms (suc i) (p ∷ c) d = next_piece ms i c d

pub next_moved : (ms : List Mapping) (i : ℕ) (c : List Piece) (addr : ℕ) → i < length c
    → to ms (slice_index_or c i blank).addr (slice_index_or c i blank).len ≡ Some addr
    → slice_set (moved_to ms i c) i (at_address (moved_to ms i c) i addr) ≡ moved_to ms (suc i) c
next_moved ms i [] addr below is = absurd (omega arith)
next_moved ms zero (p ∷ c) addr below is = ap (λ (x : Option ℕ). with_address p (unwrap_or x p.addr) ∷ c) (sym is)
next_moved ms (suc i) (p ∷ c) addr below is = ap (λ (x : List Piece). moved_piece ms p ∷ x) (next_moved ms i c addr (omega arith) is)

pub at_last : (ms : List Mapping) (n : ℕ) (c : List Piece) → n ≡ length c → moved_to ms n c ≡ moved ms c
at_last ms zero [] h = refl
at_last ms zero (p ∷ c) h = absurd (omega (arith, h))
at_last ms (suc n) [] h = absurd (omega (arith, h))
at_last ms (suc n) (p ∷ c) h = ap (λ (x : List Piece). moved_piece ms p ∷ x) (at_last ms n c (omega (arith, h)))
