-- A chain is a list of 1 to 16 pieces in which no readable piece follows a writable one (VIRTIO 1.2, 2.7.4.2). Its numbers fit
-- their types.
use Rattle.std.specs.Prelude.{◌≡◌, ℕ, ◌<◌, ◌≤◌, ◌-◌, ◌^◌, Bool, true, false, List, length, if◌then◌else◌, slice_index_or}
use Rattle.std.specs.List.{sum_by, All, AllPairs}
use Rattle.vd_model.specs.declared.chain.Piece.{Piece}
use Rattle.vd_model.specs.declared.features.Features.{Features}

abbrev pub IsReadableFirst : List Piece → Type 0
IsReadableFirst xs = AllPairs (λ x y. x.write ≡ true → y.write ≡ true) xs

abbrev pub IsPiece : Piece → Type 0
IsPiece p = (p.addr < 2 ^ 64) × (p.len < 2 ^ 32)

abbrev pub IsChain : List Piece → Type 0
IsChain xs = (0 < length xs) × (length xs ≤ 16) × IsReadableFirst xs × All IsPiece xs

-- the total length in bytes
abbrev pub total : List Piece → ℕ
total xs = sum_by (λ p. p.len) xs

-- how many descriptors of the ring a chain takes: one by a table (VIRTIO 1.2, 2.7.5.3), else one a piece
abbrev pub needs : Features → List Piece → ℕ
needs f xs = if f.indirect then 1 else length xs

-- the sums of the readable and of the writable lengths
abbrev pub readable_len : Piece → ℕ
readable_len p = if p.write then 0 else p.len

abbrev pub writable_len : Piece → ℕ
writable_len p = if p.write then p.len else 0

abbrev pub readable : List Piece → ℕ
readable xs = sum_by readable_len xs

abbrev pub writable : List Piece → ℕ
writable xs = sum_by writable_len xs

abbrev pub blank : Piece
blank = record { addr = 0; len = 0; write = false }

-- whether the last piece is writable
abbrev pub ends_writable : List Piece → Bool
ends_writable xs = (slice_index_or xs (length xs - 1) blank).write
