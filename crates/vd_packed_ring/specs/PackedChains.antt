-- How the words of a packed ring spell a chain (VIRTIO 1.2, 2.8), in the order of an offer and in that of a take, and how they
-- are read back.
use Rattle.std.specs.Prelude.{ℕ, ◌+◌, ◌-◌, ◌*◌, ◌/◌, ◌==◌, ◌&&◌, nat_lt, Bool, false, not, List, [], ◌∷◌, ◌++◌, length, take, drop, if◌then◌else◌, slice_index, slice_index_or}
use Rattle.vd_indirect.specs.declared.descriptor.TableKind.TheVariants.{Packed}
use Rattle.vd_indirect.specs.Tables.{table_words}
use Rattle.vd_model.specs.declared.chain.Piece.{Piece}
use Rattle.vd_ring.specs.declared.frame.Frame.{Frame}
use Rattle.vd_ring.specs.declared.frame.Put.{Put}
use Rattle.vd_packed_ring.specs.PackedWords.{table_of, addr_word, second_word, wrap_bit, other_bit, packed_word, len_of, id_of, goes_on, is_write, names_table, put, Stand}

-- a descriptor without its AVAIL and USED bits
pub record Descriptor : Type 0 where
  pub addr : ℕ
  pub len : ℕ
  pub id : ℕ
  pub flags : ℕ

abbrev pub blank : Descriptor
blank = record { addr = 0; len = 0; id = 0; flags = 0 }

-- the second word that the driver stores at a position: AVAIL equal to its wrap, USED different
abbrev pub avail_word : ℕ → ℕ → Descriptor → ℕ
avail_word n q d = packed_word d.len d.id (d.flags + 128 * wrap_bit n q + 32768 * other_bit n q)

-- ---- the descriptors of a chain

-- 1 where another descriptor follows
abbrev pub more : List Piece → ℕ
more [] = 0
more (x ∷ xs) = 1

-- NEXT 1 and WRITE 2
abbrev pub flags : Piece → List Piece → ℕ
flags x xs = more xs + (if x.write then 2 else 0)

-- one descriptor a piece, each with the chain's id
abbrev pub direct : ℕ → List Piece → List Descriptor
direct id [] = []
direct id (x ∷ xs) = record { addr = x.addr; len = x.len; id = id; flags = flags x xs } ∷ direct id xs

-- a chain of two pieces or more stands in a table where INDIRECT_DESC is on (VIRTIO 1.2, 2.8.7)
abbrev pub is_tabled : Frame → List Piece → Bool
is_tabled f c = f.features.indirect && nat_lt 1 (length c)

-- the descriptor that names a head's table: the table's address in bytes, its length in bytes, INDIRECT alone
abbrev pub pointer : Frame → ℕ → List Piece → Descriptor
pointer f id c = record { addr = 8 * table_of f id; len = 16 * length c; id = id; flags = 4 }

-- a chain's descriptors in the ring, at positions that follow each other
abbrev pub descriptors : Frame → ℕ → List Piece → List Descriptor
descriptors f id c = if is_tabled f c then pointer f id c ∷ [] else direct id c

-- words that stand one after the other, from place `at` on
abbrev pub standing : ℕ → List ℕ → List Put
standing at [] = []
standing at (w ∷ ws) = put at w ∷ standing (at + 1) ws

-- the words of a chain's table, from the first word of its head's table on: none where it has no table
abbrev pub table : Frame → ℕ → List Piece → List Put
table f id c = if is_tabled f c then standing (table_of f id) (table_words Packed c) else []

-- ---- their words

-- the words of descriptors from a position on, address first
abbrev pub described : ℕ → ℕ → List Descriptor → List Put
described n q [] = []
described n q (d ∷ ds) = put (addr_word n q) d.addr ∷ put (second_word n q) (avail_word n q d) ∷ described n (q + 1) ds

-- the same but for the first second word, which is stored last
abbrev pub staged : ℕ → ℕ → List Descriptor → List Put
staged n q [] = []
staged n q (d ∷ ds) = put (addr_word n q) d.addr ∷ described n (q + 1) ds

-- that word, with which the chain is made available
abbrev pub publishing : ℕ → ℕ → List Descriptor → Put
publishing n q ds = put (second_word n q) (avail_word n q (slice_index_or ds 0 blank))

-- in the order in which a take loads them: second word first
abbrev pub loaded : ℕ → ℕ → List Descriptor → List Put
loaded n q [] = []
loaded n q (d ∷ ds) = put (second_word n q) (avail_word n q d) ∷ put (addr_word n q) d.addr ∷ loaded n (q + 1) ds

-- the words of a chain with this id at a position, in the order in which an offer stores them, up to the last
abbrev pub spelling : Frame → ℕ → ℕ → List Piece → List Put
spelling f q id c = table f id c ++ staged f.size q (descriptors f id c)

-- all of them in the order in which a take loads them
abbrev pub reading : Frame → ℕ → ℕ → List Piece → List Put
reading f q id c = loaded f.size q (descriptors f id c) ++ table f id c

-- the words spell the chain with this id at a position: the i-th descriptor stands at the i-th position from it, and its table's
-- pieces stand in order
pub record Spells (f : Frame) (ws : List ℕ) (q id : ℕ) (c : List Piece) : Type 0 where
  pub ring : Stand ws (described f.size q (descriptors f id c))
  pub table : Stand ws (table f id c)

-- ---- reading descriptors

abbrev pub piece_of : ℕ → ℕ → Piece
piece_of a w = record { addr = a; len = len_of w; write = is_write w }

-- the pieces that words spell of which each address is followed by its second word
abbrev pub pieces_of : List ℕ → List Piece
pieces_of [] = []
pieces_of (a ∷ []) = []
pieces_of (a ∷ w ∷ ws) = piece_of a w ∷ pieces_of ws

-- the same where each second word is followed by its address
abbrev pub pieces_in : List ℕ → List Piece
pieces_in [] = []
pieces_in (w ∷ []) = []
pieces_in (w ∷ a ∷ ws) = piece_of a w ∷ pieces_in ws

-- these are whole descriptors, second word first, and the last does not go on
abbrev pub ends : List ℕ → Bool
ends [] = false
ends (w ∷ []) = false
ends (w ∷ a ∷ []) = not (goes_on w)
ends (w ∷ a ∷ v ∷ ws) = ends (v ∷ ws)

-- where the word after these stands, of descriptors from a position on
abbrev pub following : ℕ → ℕ → List ℕ → ℕ
following n q [] = second_word n q
following n q (w ∷ []) = addr_word n q
following n q (w ∷ a ∷ ws) = following n (q + 1) ws

-- the words loaded so far of a chain begin with a descriptor that names a table
abbrev pub has_table : Frame → List ℕ → Bool
has_table f [] = false
has_table f (w ∷ []) = false
has_table f (w ∷ a ∷ ws) = f.features.indirect && names_table w

-- how many words the table has that the second word w names
abbrev pub named_words : ℕ → ℕ
named_words w = 2 * (len_of w / 16)

-- the id in the first word of a take: that of a table's pointer
abbrev pub first_id : List ℕ → ℕ
first_id ws = id_of (slice_index ws 0)

-- the id in the last second word
abbrev pub last_id : List ℕ → ℕ
last_id [] = 0
last_id (w ∷ []) = id_of w
last_id (w ∷ a ∷ []) = id_of w
last_id (w ∷ a ∷ v ∷ ws) = last_id (v ∷ ws)

-- the id of the chain that these words, in the order of a take, are: that of its last descriptor on the ring (VIRTIO 1.2, 2.8.6)
abbrev pub loaded_head : Frame → List ℕ → ℕ
loaded_head f ws = if has_table f ws then first_id ws else last_id ws

-- these words, in the order of a take, are a whole chain's
abbrev pub is_whole : Frame → List ℕ → Bool
is_whole f ws = if has_table f ws then length ws == 2 + named_words (slice_index ws 0) else ends ws

-- the chain that they spell
abbrev pub chain_of : Frame → List ℕ → List Piece
chain_of f ws = if has_table f ws then pieces_of (drop 2 ws) else pieces_in ws

-- where the word after these stands, of a chain at position q
abbrev pub cursor : Frame → ℕ → List ℕ → ℕ
cursor f q ws = if has_table f ws then table_of f (first_id ws) + (length ws - 2) else following f.size q ws

-- the pieces of words in the order of an offer, of which the first second word is w
abbrev pub staged_pieces : List ℕ → ℕ → List Piece
staged_pieces [] w = []
staged_pieces (a ∷ ws) w = piece_of a w ∷ pieces_of ws

-- the chain that words in the order of an offer spell, w being the last: a table's come before its pointer's
abbrev pub staged_chain : Frame → List ℕ → ℕ → List Piece
staged_chain f ws w = if f.features.indirect && names_table w then pieces_of (take (length ws - 1) ws) else staged_pieces ws w
