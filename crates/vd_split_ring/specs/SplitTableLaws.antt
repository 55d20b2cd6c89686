-- What a reader of tables finds on a split ring. Each is the contract of a function in src/table_laws.rt.
use Rattle.std.specs.Prelude.{◌≡◌, ℕ, ◌+◌, ◌*◌, ◌/◌, true, List, take, drop, slice_index, Ok}
use Rattle.vd_bits.specs.Lanes.{lane32}
use Rattle.vd_model.specs.declared.chain.Piece.{Piece}
use Rattle.vd_indirect.specs.declared.descriptor.TableKind.TheVariants.{Split}
use Rattle.vd_indirect.specs.Tables.{read}
use Rattle.vd_split_ring.specs.SplitWords.{names_table}

-- the length in bytes of the table that the descriptor at place h names, and the table's words, which begin at its address in bytes
-- (VIRTIO 1.2, 2.7.5.3)
abbrev pub table_len : List ℕ → ℕ → ℕ
table_len ws h = lane32 (slice_index ws (2 * h + 1)) 0

abbrev pub named_table : List ℕ → ℕ → List ℕ
named_table ws h = take (table_len ws h / 8) (drop (slice_index ws (2 * h) / 8) ws)

-- place h names a table, and a reader of tables finds this chain there and no fault
pub record ReadsTable (ws : List ℕ) (h : ℕ) (c : List Piece) : Type 0 where
  pub names : names_table (slice_index ws (2 * h + 1)) ≡ true
  pub reads : read Split (named_table ws h) (table_len ws h) ≡ Ok c

-- so does one that reads the words of a take, its descriptor's two and then the table's
abbrev pub ReadsLoaded : List ℕ → List Piece → Type 0
ReadsLoaded ws c = read Split (drop 2 ws) (lane32 (slice_index ws 1) 0) ≡ Ok c
