-- The words of an indirect table, and the chain that a walk through them gives (VIRTIO 1.2, 2.7.5.3 and 2.8.7).
use Rattle.std.specs.Prelude.{ℕ, zero, suc, ◌+◌, ◌*◌, ◌/◌, ◌%◌, ◌^◌, ◌==◌, nat_lt, nat_le, not, ◌&&◌, ◌||◌, Bool, true, false, List, [], ◌∷◌, map, slice_index, Result, Ok, Err, is_err, if◌then◌else◌}
use Rattle.std.specs.List.{range_with_len, position_or_len}
use Rattle.std.specs.Int.{bit_at}
use Rattle.vd_bits.specs.Lanes.{lane16, lane32}
use Rattle.vd_model.specs.declared.chain.Piece.{Piece}
use Rattle.vd_indirect.specs.declared.descriptor.TableKind.{TableKind}
use Rattle.vd_indirect.specs.declared.descriptor.TableKind.TheVariants.{Split, Packed}
use Rattle.vd_indirect.specs.declared.read.TableFault.{TableFault}
use Rattle.vd_indirect.specs.declared.read.TableFault.TheVariants.{Length, TooMany, Link, Nested, Order}

-- ---- a table's words

-- a flag's worth where it is set: NEXT 1, WRITE 2
abbrev pub flag : ℕ → Bool → ℕ
flag worth true = worth
flag worth false = 0

-- the second word of a piece's descriptor in a place; `more` where a descriptor follows. Split: the length, from bit 32
-- on the flags NEXT and WRITE, from bit 48 on the next place. Packed: the length, from bit 48 on the flag WRITE alone
abbrev pub second_word : TableKind → Piece → Bool → ℕ → ℕ
second_word Split x more place =
    x.len + (flag 1 more + flag 2 x.write) * 2 ^ 32 + (if more then place + 1 else 0) * 2 ^ 48
second_word Packed x more place = x.len + flag 2 x.write * 2 ^ 48

-- whether a list has an element
abbrev pub is_more : List Piece → Bool
is_more [] = false
is_more (x ∷ xs) = true

-- the words of the descriptors of these pieces, from a place on
abbrev pub words_from : TableKind → ℕ → List Piece → List ℕ
words_from kind place [] = []
words_from kind place (x ∷ xs) = x.addr ∷ second_word kind x (is_more xs) place ∷ words_from kind (place + 1) xs

-- the words of the table of a chain
abbrev pub table_words : TableKind → List Piece → List ℕ
table_words kind pieces = words_from kind 0 pieces

-- ---- what a place spells

-- a bit of a descriptor's flags is set: NEXT bit 0, WRITE bit 1, INDIRECT bit 2
abbrev pub has : ℕ → ℕ → Bool
has flags bit = bit_at flags bit == 1

-- a descriptor's second word
abbrev pub second_at : List ℕ → ℕ → ℕ
second_at words place = slice_index words (2 * place + 1)

-- its flags
abbrev pub flags_of : TableKind → List ℕ → ℕ → ℕ
flags_of Split words place = lane16 (second_at words place) 2
flags_of Packed words place = lane16 (second_at words place) 3

-- the next place that it names, in a split table
abbrev pub next_of : List ℕ → ℕ → ℕ
next_of words place = lane16 (second_at words place) 3

-- its piece
abbrev pub piece_at : TableKind → List ℕ → ℕ → Piece
piece_at kind words place = record {
  addr = slice_index words (2 * place);
  len = lane32 (second_at words place) 0;
  write = has (flags_of kind words place) 1;
}

-- ---- the walk

-- the place that the walk visits after `count` others
unfoldable pub visited : TableKind → List ℕ → ℕ → ℕ
visited Packed words count = count
visited Split words zero = 0
visited Split words (suc count) = next_of words (visited Split words count)

-- it points to another table
abbrev pub is_nested : TableKind → List ℕ → ℕ → Bool
is_nested kind words count = has (flags_of kind words (visited kind words count)) 2

-- it is readable, and the one visited before is writable
abbrev pub is_misplaced : TableKind → List ℕ → ℕ → Bool
is_misplaced kind words zero = false
is_misplaced kind words (suc count) =
    (piece_at kind words (visited kind words count)).write && not (piece_at kind words (visited kind words (suc count))).write

-- the walk goes on from there: by NEXT, or to the next place of a packed table
abbrev pub goes_on : TableKind → List ℕ → ℕ → ℕ → Bool
goes_on Split words places count = has (flags_of Split words (visited Split words count)) 0
goes_on Packed words places count = nat_lt (count + 1) places

-- it names a next place that the table hasn't, or as many places were visited as the table has
abbrev pub is_unlinked : TableKind → List ℕ → ℕ → ℕ → Bool
is_unlinked Split words places count =
    goes_on Split words places count && (nat_le places (next_of words (visited Split words count)) || (count + 1 == places))
is_unlinked Packed words places count = false

-- the pieces of the first places that the walk visits
abbrev pub pieces_of : TableKind → List ℕ → ℕ → List Piece
pieces_of kind words count = map (λ n. piece_at kind words (visited kind words n)) (range_with_len 0 count)

-- what the walk gives where it ends at the place visited after `count` others
abbrev pub outcome : TableKind → List ℕ → ℕ → ℕ → Result (List Piece) TableFault
outcome kind words places count =
    let place = visited kind words count in
    if is_nested kind words count then Err (Nested place)
    else (if is_misplaced kind words count then Err (Order place)
    else (if is_unlinked kind words places count then Err (Link place)
    else Ok (pieces_of kind words (count + 1))))

-- the walk ends there: at a bad place, or where it doesn't go on
abbrev pub ends : TableKind → List ℕ → ℕ → ℕ → Bool
ends kind words places count = is_err (outcome kind words places count) || not (goes_on kind words places count)

-- how many places are visited before the first at which the walk ends
unfoldable pub before_end : TableKind → List ℕ → ℕ → ℕ
before_end kind words places = position_or_len (ends kind words places) (range_with_len 0 places)

-- what the walk through a table gives
abbrev pub walked : TableKind → List ℕ → ℕ → Result (List Piece) TableFault
walked kind words places = outcome kind words places (before_end kind words places)

-- what a table of `len` bytes gives
abbrev pub read : TableKind → List ℕ → ℕ → Result (List Piece) TableFault
read kind words len =
    if (len == 0) || not (len % 16 == 0) then Err (Length len)
    else (if nat_lt 256 len then Err (TooMany len)
    else walked kind words (len / 16))
