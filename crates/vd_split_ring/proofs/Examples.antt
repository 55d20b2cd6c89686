-- The definitions on worked rings: each number is one that the standard's layout gives by hand.
use Rattle.std.proofs.Common.{◌≡◌, ℕ, ◌+◌, Bool, true, false, List, [], ◌∷◌, take, refl, slice_index_or}
use Rattle.std.specs.Prelude.{None, replicate}
use Rattle.vd_bits.specs.Lanes.{set_lane32, set_lane16}
use Rattle.vd_model.specs.declared.chain.Piece.{Piece}
use Rattle.vd_ring.specs.declared.device.DeviceDone.{DeviceDone}
use Rattle.vd_ring.specs.declared.device.DeviceDone.TheVariants.{Take, Give, Rest}
use Rattle.vd_ring.specs.declared.driver.DriverDone.TheVariants.{Offer, Collect, StoreCommand}
use Rattle.vd_ring.specs.declared.frame.Frame.{Frame}
use Rattle.vd_ring.specs.History.{entry, free, head, takes, given, collected}
use Rattle.vd_ring.specs.Control.{command_of}
use Rattle.vd_split_ring.specs.SplitWords.{avail_from, used_from, width, with_lane, put, spelling, reading, words_of, is_whole, chain_of, cursor, staged_chain}

abbrev ring : ℕ → Bool → Bool → Frame
ring n indirect in_order = record {
  ring = 0;
  packed = false;
  size = n;
  features =
      record { indirect = indirect; event_idx = false; in_order = in_order };
  control = false;
  bounds = None;
}

abbrev r : ℕ → ℕ → Piece
r a l = record { addr = a; len = l; write = false }

abbrev w : ℕ → ℕ → Piece
w a l = record { addr = a; len = l; write = true }

-- ---- areas

a_thousand_with_tables : width (ring 1024 true false) ≡ 36100
a_thousand_with_tables = refl

the_largest : width (ring 32768 false false) ≡ 106500
the_largest = refl

-- ---- a ring of four places

abbrev two : List Piece
two = r 4096 10 ∷ w 8192 64 ∷ []

four_areas : avail_from (ring 4 false false) + used_from (ring 4 false false) ≡ 18
four_areas = refl

-- 0x1000, 0x000100010000000a, 0x2000, 0x0000000200000040
two_pieces : spelling (ring 4 false false) (0 ∷ 1 ∷ []) two ≡ put 0 4096 ∷ put 1 281479271677962 ∷ put 2 8192 ∷ put 3 8589934656 ∷ []
two_pieces = refl

one_piece : spelling (ring 4 false false) (0 ∷ []) (r 4096 10 ∷ []) ≡ put 0 4096 ∷ put 1 10 ∷ []
one_piece = refl

-- the entry of head 0 and the index 1 in word 8: 0x10000
first_entry : with_lane (ring 4 false false) (replicate 18 0) 1 1 ≡ 65536
first_entry = refl

-- places come back in order: after two chains and the return of the first, the free ones are 0 and 1
back_in_order : free (ring 4 false false) (Collect (entry 0 10 ∷ []) ∷ Offer two ∷ Offer two ∷ []) ≡ 0 ∷ 1 ∷ []
back_in_order = refl

third_head : head (ring 4 false false) (Offer two ∷ Collect (entry 1 10 ∷ []) ∷ Offer two ∷ Offer two ∷ []) 2 ≡ 2
third_head = refl

-- a rest keeps as many chains as were given
rest_keeps : takes (Rest ∷ Give (entry 0 10 ∷ []) ∷ Take two 2 ∷ Take two 0 ∷ []) ≡ two ∷ []
rest_keeps = refl

-- ---- a table

abbrev many : List Piece
many = r 4096 1 ∷ r 4097 1 ∷ r 4098 1 ∷ w 8192 64 ∷ []

abbrev tabled : Frame
tabled = ring 2 true false

-- word 9 is the first table's: the address is 0x48, the length 64, INDIRECT
names_its_table : take 2 (reading tabled (0 ∷ []) many) ≡ put 0 72 ∷ put 1 17179869248 ∷ []
names_its_table = refl

table_first : take 2 (spelling tabled (0 ∷ []) many) ≡ put 9 4096 ∷ put 10 281479271677953 ∷ []
table_first = refl

table_reads_back : chain_of tabled (words_of (reading tabled (1 ∷ []) many)) ≡ many
table_reads_back = refl

table_staged : staged_chain tabled (words_of (spelling tabled (1 ∷ []) many)) ≡ many
table_staged = refl

table_ends : is_whole tabled (words_of (reading tabled (1 ∷ []) many)) ≡ true
table_ends = refl

table_goes_on : is_whole tabled (take 9 (words_of (reading tabled (1 ∷ []) many))) ≡ false
table_goes_on = refl

-- of head 1's table, the word after its pointer and three more
table_cursor : cursor tabled 1 (take 5 (words_of (reading tabled (1 ∷ []) many))) ≡
    (slice_index_or (reading tabled (1 ∷ []) many) 5 (put 0 0)).place
table_cursor = refl

-- one piece stands in a descriptor of the ring
one_is_direct : reading tabled (1 ∷ []) (r 4096 1 ∷ []) ≡ put 2 4096 ∷ put 3 1 ∷ []
one_is_direct = refl

-- ---- a batch of two under IN_ORDER: the last head and length; the first was used completely

abbrev batched : List Piece
batched = r 4096 64 ∷ w 8192 10 ∷ []

abbrev taken : List DeviceDone
taken = Take batched 2 ∷ Take batched 0 ∷ []

batch_gives : given (ring 4 false true) taken 2 7 ≡ entry 0 10 ∷ entry 1 7 ∷ []
batch_gives = refl

-- without IN_ORDER it is one chain
one_gives : given (ring 4 false false) taken 2 7 ≡ entry 1 7 ∷ []
one_gives = refl

batch_collects : collected (ring 4 false true) (Offer batched ∷ Offer batched ∷ []) 2 7 ≡ entry 0 10 ∷ entry 1 7 ∷ []
batch_collects = refl

-- id 2 and index 2 in word 10: 0x0000000200020000
batch_word : set_lane16 (set_lane32 0 1 2) 1 2 ≡ 8590065664
batch_word = refl

-- ---- commands: a word not stored again counts as stored with what stands there

command_again : command_of (ring 4 false false) (Offer two ∷ StoreCommand 0 0 7 ∷ Collect (entry 0 0 ∷ []) ∷ Offer two
    ∷ StoreCommand 0 1 6 ∷ StoreCommand 0 0 5 ∷ []) 0 0 ≡ 5
command_again = refl
