-- What a reader of tables finds on a packed ring. Each is the contract of a function in src/table_laws.rt.
use Rattle.std.specs.Prelude.{◌≡◌, ℕ, ◌*◌, ◌/◌, true, List, length, take, drop, slice_index, Ok}
use Rattle.vd_model.specs.declared.chain.Piece.{Piece}
use Rattle.vd_indirect.specs.declared.descriptor.TableKind.TheVariants.{Packed}
use Rattle.vd_indirect.specs.Tables.{read}
use Rattle.vd_ring.specs.declared.frame.Frame.{Frame}
use Rattle.vd_packed_ring.specs.PackedWords.{table_of, addr_word, second_word, len_of, names_table}

-- a reader of tables finds this chain in the first places of the table of head h, and no fault (VIRTIO 1.2, 2.8.7)
abbrev pub ReadsHead : Frame → List ℕ → ℕ → List Piece → Type 0
ReadsHead f ws h c = read Packed (take (2 * length c) (drop (table_of f h) ws)) (16 * length c) ≡ Ok c

-- the length in bytes of the table that the descriptor at position q names, and the table's words, which begin at its address in
-- bytes
abbrev pub table_len : ℕ → List ℕ → ℕ → ℕ
table_len n ws q = len_of (slice_index ws (second_word n q))

abbrev pub named_table : ℕ → List ℕ → ℕ → List ℕ
named_table n ws q = take (table_len n ws q / 8) (drop (slice_index ws (addr_word n q) / 8) ws)

-- the descriptor at position q names a table, and a reader of tables finds this chain there and no fault
pub record ReadsTable (n : ℕ) (ws : List ℕ) (q : ℕ) (c : List Piece) : Type 0 where
  pub names : names_table (slice_index ws (second_word n q)) ≡ true
  pub reads : read Packed (named_table n ws q) (table_len n ws q) ≡ Ok c

-- so does one that reads the words of a take, its descriptor's two and then the table's
abbrev pub ReadsLoaded : List ℕ → List Piece → Type 0
ReadsLoaded ws c = read Packed (drop 2 ws) (len_of (slice_index ws 0)) ≡ Ok c
