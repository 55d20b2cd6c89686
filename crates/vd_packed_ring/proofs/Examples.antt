-- The definitions on worked rings: each number is one that the standard's layout gives by hand.
use Rattle.std.proofs.Common.{◌≡◌, ℕ, Bool, true, false, List, [], ◌∷◌, take, refl}
use Rattle.std.specs.Prelude.{Some, None}
use Rattle.vd_model.specs.declared.chain.Piece.{Piece}
use Rattle.vd_event.specs.Words.{arm_word, off_word}
use Rattle.vd_event.specs.declared.rule.EventRule.TheVariants.{Packed}
use Rattle.vd_ring.specs.declared.driver.DriverDone.TheVariants.{Offer, Collect}
use Rattle.vd_ring.specs.declared.device.DeviceDone.TheVariants.{Take, Give}
use Rattle.vd_ring.specs.declared.frame.Frame.{Frame}
use Rattle.vd_ring.specs.History.{entry, head, given, collected}
use Rattle.vd_packed_ring.specs.PackedWords.{width, table_of, put, words_of, used_word, event_word, base_at, is_base, is_used, is_available, id_of, len_of}
use Rattle.vd_packed_ring.specs.PackedChains.{descriptors, described, spelling, publishing, reading, is_whole, chain_of, cursor, loaded_head, staged_chain}
use Rattle.vd_packed_ring.specs.PackedSignals.{disabled, asks}
use Rattle.vd_packed_ring.specs.PackedPositions.{offer_position, give_position}

abbrev ring : ℕ → Bool → Frame
ring n indirect = record {
  ring = 0;
  packed = true;
  size = n;
  features =
      record { indirect = indirect; event_idx = false; in_order = false };
  control = false;
  bounds = None;
}

abbrev r : ℕ → ℕ → Piece
r a l = record { addr = a; len = l; write = false }

abbrev w : ℕ → ℕ → Piece
w a l = record { addr = a; len = l; write = true }

abbrev two : List Piece
two = r 4096 10 ∷ w 8192 64 ∷ []

-- ---- areas

three_places : width (ring 3 false) ≡ 10
three_places = refl

four_with_tables : width (ring 4 true) ≡ 140
four_with_tables = refl

-- ---- a ring of three places: 0x1000, 0x008100000000000a, 0x2000, 0x0082000000000040

first_chain : described 3 0 (descriptors (ring 3 false) 0 two) ≡ put 0 4096 ∷ put 1 36310271995674634 ∷ put 2 8192
    ∷ put 3 36591746972385344 ∷ []
first_chain = refl

-- the first second word is stored last
first_stores : spelling (ring 3 false) 0 0 two ≡ put 0 4096 ∷ put 2 8192 ∷ put 3 36591746972385344 ∷ []
first_stores = refl

first_published : publishing 3 0 (descriptors (ring 3 false) 0 two) ≡ put 1 36310271995674634
first_published = refl

-- given with length 10: 0x808200000000000a
first_given : used_word 3 0 0 10 ≡ 9259963783827161098
first_given = refl

-- the second chain has id 1 and goes round the end: 0x1000, 0x008100010000000a, 0x2000, 0x8002000100000040
second_chain : described 3 2 (descriptors (ring 3 false) 1 two) ≡ put 4 4096 ∷ put 5 36310276290641930 ∷ put 0 8192
    ∷ put 1 9223934991103164480 ∷ []
second_chain = refl

-- given: 0x808200010000000a
second_given : used_word 3 2 1 10 ≡ 9259963788122128394
second_given = refl

second_head : head (ring 3 false) (Offer two ∷ Collect (entry 0 10 ∷ []) ∷ Offer two ∷ []) 1 ≡ 1
second_head = refl

positions : offer_position (ring 3 false) (Offer two ∷ Collect (entry 0 10 ∷ []) ∷ Offer two ∷ []) ≡ 4
positions = refl

-- ---- a chain of one piece, offered first: 0x008000000000000a; given with length 0: 0x8080000000000000

one_piece : publishing 4 0 (descriptors (ring 4 false) 0 (r 4096 10 ∷ [])) ≡ put 1 36028797018963978
one_piece = refl

one_given : used_word 4 0 0 0 ≡ 9259400833873739776
one_given = refl

-- ---- turns: what is offered at position 1 shows there, and neither it nor a used one a turn later

shows_once : is_available 3 1 36028797018963978 ≡ true
shows_once = refl

not_a_turn_later : is_available 3 4 36028797018963978 ≡ false
not_a_turn_later = refl

used_once : is_used 3 1 9259400833873739776 ≡ true
used_once = refl

not_used_a_turn_later : is_used 3 4 9259400833873739776 ≡ false
not_used_a_turn_later = refl

-- ---- event words of a ring of three: position 1 is 0x28001, position 4 is 0x20001

event_at_one : event_word 3 1 ≡ 163841
event_at_one = refl

event_at_four : event_word 3 4 ≡ 131073
event_at_four = refl

-- they are those of vd_event's rule, and so is the word that wants no signal, 0x10000
rule_at_one : arm_word (Packed 3) 1 ≡ event_word 3 1
rule_at_one = refl

rule_at_four : arm_word (Packed 3) 4 ≡ event_word 3 4
rule_at_four = refl

rule_off : off_word (Packed 3) ≡ Some disabled
rule_off = refl

-- positions 3 and 4 have the places and wraps of 4, and not those of 1; the upper half of a loaded word says nothing
asks_four : asks (ring 3 false) 3 5 131073 ≡ true
asks_four = refl

asks_four_above : asks (ring 3 false) 3 5 4295098369 ≡ true
asks_four_above = refl

not_one : asks (ring 3 false) 3 5 163841 ≡ false
not_one = refl

-- ENABLE asks for each signal, DISABLE for none, and the reserved flags 3 for none
asks_enabled : asks (ring 3 false) 3 5 0 ≡ true
asks_enabled = refl

not_disabled : asks (ring 3 false) 3 5 disabled ≡ false
not_disabled = refl

not_reserved : asks (ring 3 false) 3 5 196609 ≡ false
not_reserved = refl

-- ---- reading and giving

reads_two : chain_of (ring 3 false) (words_of (reading (ring 3 false) 2 1 two)) ≡ two
reads_two = refl

-- the id is that of the last descriptor: 0x008100000000000a, 0x1000, 0x0082000100000040, 0x2000 have the id 1 there alone
last_has_the_id : loaded_head (ring 3 false) (36310271995674634 ∷ 4096 ∷ 36591751267352640 ∷ 8192 ∷ []) ≡ 1
last_has_the_id = refl

not_yet : is_whole (ring 3 false) (words_of (take 3 (reading (ring 3 false) 2 1 two))) ≡ false
not_yet = refl

stages_two : staged_chain (ring 3 false) (words_of (spelling (ring 3 false) 2 1 two)) 36310276290641930 ≡ two
stages_two = refl

gives_first : given (ring 3 false) (Take two 0 ∷ []) (id_of 9259963783827161098) (len_of 9259963783827161098) ≡ entry 0 10 ∷ []
gives_first = refl

collects_first : collected (ring 3 false) (Offer two ∷ []) (id_of 9259963783827161098) (len_of 9259963783827161098) ≡ entry 0 10 ∷ []
collects_first = refl

gives_past : give_position (ring 3 false) (Give (entry 0 10 ∷ []) ∷ Take two 0 ∷ []) ≡ 2
gives_past = refl

-- ---- a table of a ring of four, head 3: its descriptor names word 106 by the address 848, 32 bytes, INDIRECT

tabled_stores : spelling (ring 4 true) 5 3 two ≡ put 106 4096 ∷ put 107 10 ∷ put 108 8192 ∷ put 109 562949953421376 ∷ put 2 848 ∷ []
tabled_stores = refl

-- 0x8004000300000020
tabled_published : publishing 4 5 (descriptors (ring 4 true) 3 two) ≡ put 3 9224497949646520352
tabled_published = refl

tabled_reads : chain_of (ring 4 true) (words_of (reading (ring 4 true) 5 3 two)) ≡ two
tabled_reads = refl

tabled_whole : is_whole (ring 4 true) (words_of (reading (ring 4 true) 5 3 two)) ≡ true
tabled_whole = refl

tabled_cursor : cursor (ring 4 true) 5 (words_of (take 2 (reading (ring 4 true) 5 3 two))) ≡ table_of (ring 4 true) 3
tabled_cursor = refl

-- the words of its table have no id
tabled_head : loaded_head (ring 4 true) (words_of (reading (ring 4 true) 5 3 two)) ≡ 3
tabled_head = refl

tabled_staged : staged_chain (ring 4 true) (words_of (spelling (ring 4 true) 5 3 two)) 9224497949646520352 ≡ two
tabled_staged = refl

-- ---- bases: 0x80008000 of a fresh ring, 0x00010001 at position 4 of a ring of three

fresh_base : base_at 3 0 ≡ 2147516416
fresh_base = refl

later_base : base_at 3 4 ≡ 65537
later_base = refl

not_of_three : is_base 3 196608 ≡ false
not_of_three = refl
