-- The next line of a control queue's report, and the lines after it.
use Rattle.std.proofs.Common.{◌≡◌, ℕ, suc, ◌+◌, ◌-◌, ◌/◌, ◌%◌, ◌<◌, ◌≤◌, Bool, true, false, List, [], ◌∷◌, ◌++◌, length, get_or, drop, Option, Some, ap, sym, ◌∙◌, arith, append_assoc, append-nil, inl, inr}
use Rattle.std.specs.Prelude.{◌≢◌, cond, flat_map, filter, slice_get, slice_index}
use Rattle.std.specs.List.{Contains, range_with_len}
use Rattle.std.proofs.lemmas.List.{drop_more, drop_all, get_or-map, length-map}
use Rattle.std.proofs.lemmas.Bool.{cases_lt}
use Rattle.std.proofs.lemmas.Option.{slice_get-get_or, slice_get_within}
use Rattle.hex.specs.Hex.{encode_with, encode_lower, lower_digits}
use Rattle.hex.proofs.Pairs.{encode_with-drop}
use Rattle.vd_model.specs.declared.record.Return.{Return}
use Rattle.vd_control.specs.Settings.{passing}
use Rattle.vd_ring.specs.History.{occurs}
use Rattle.vd_ring.proofs.Counts.{Contains_from}
use Rattle.vd_play.specs.Commands.{IsAnswered, AreAnswered}
use Rattle.vd_runner.specs.CommandReport.{entry_numbers, command_line, command_lines, vlan_line}

-- ---- the address

-- two digits of the next byte are put
pub byte_more : (old mid new mac : List ℕ) (i : ℕ) → i < length mac
    → mid ≡ old ++ slice_index lower_digits (slice_index mac i / 16) ∷ []
    → new ≡ mid ++ slice_index lower_digits (slice_index mac i % 16) ∷ []
    → new ++ encode_lower (drop (i + 1) mac) ≡ old ++ encode_lower (drop i mac)
byte_more old mid new mac i h first second =
    let high = slice_index lower_digits (slice_index mac i / 16) in
    let low = slice_index lower_digits (slice_index mac i % 16) in
    let rest = encode_lower (drop (i + 1) mac) in
    ap (λ t. t ++ rest) (second ∙ ap (λ t. t ++ low ∷ []) first)
    ∙ append_assoc (old ++ high ∷ []) (low ∷ []) rest ∙ append_assoc old (high ∷ []) (low ∷ rest)
    ∙ ap (λ t. old ++ t) (sym (encode_with-drop lower_digits mac i h))

pub byte_last : (line mac : List ℕ) (i : ℕ) → length mac ≤ i → line ++ encode_lower (drop i mac) ≡ line
unfolding encode_with
byte_last line mac i h = ap (λ bs. line ++ encode_lower bs) (drop_all i mac h) ∙ append-nil line

-- ---- the acks

found_at : (xs : List ℕ) (number start : ℕ) → Contains xs number
    → ((k : ℕ) → start ≤ k → k < length xs → slice_get xs k ≢ Some number)
    → ((k : ℕ) → 0 ≤ k → k < start → slice_get xs k ≢ Some number) → ⊥
found_at xs number start (i, below, is) behind before =
    let at : slice_get xs i ≡ Some number = slice_get-get_or xs i number below ∙ ap Some is in
    elim (cases_lt i start) [
      | inl h ↦ before i (omega arith) h at
      | inr h ↦ behind i h below at
    ]

-- a number that stands in the list is found behind `start` or before it
pub is_found : (list : List Return) (number start : ℕ) → occurs number (entry_numbers list) ≡ 1
    → ((k : ℕ) → start ≤ k → k < length list → slice_get (entry_numbers list) k ≢ Some number)
    → ((k : ℕ) → 0 ≤ k → k < start → slice_get (entry_numbers list) k ≢ Some number) → ⊥
is_found list number start once behind before =
    let many : length (entry_numbers list) ≡ length list = length-map list (λ (r : Return). r.number) in
    found_at (entry_numbers list) number start (Contains_from number (entry_numbers list) (omega (arith, once)))
    (λ k from below. behind k from (omega (arith, many, below))) before

abbrev value_of : Option ℕ → ℕ → ℕ
value_of (Some x) d = x
value_of _ d = d

abbrev bytes_of : Option (List ℕ) → List ℕ → List ℕ
bytes_of (Some x) d = x
bytes_of _ d = d

-- the entry at a place where a command's number stands
pub number_is : (list : List Return) (place k : ℕ) (r : Return) → place < length list → slice_get (entry_numbers list) place ≡ Some k
    → (get_or list place r).number ≡ k
number_is list place k r below is =
    let many : length (entry_numbers list) ≡ length list = length-map list (λ (r : Return). r.number) in
    sym (get_or-map (λ (r : Return). r.number) list place r 0 below)
    ∙ ap (λ o. value_of o 0) (sym (slice_get-get_or (entry_numbers list) place 0 (omega (arith, many))) ∙ is)

bytes_are : (sent : List (List ℕ)) (k : ℕ) (bytes : List ℕ) → slice_get sent k ≡ Some bytes
    → drop k sent ≡ bytes ∷ drop (k + 1) sent
bytes_are sent k bytes is =
    let below : k < length sent = slice_get_within sent k bytes is in
    drop_more sent k [] below
    ∙ ap (λ b. b ∷ drop (k + 1) sent) (ap (λ o. bytes_of o []) (sym (slice_get-get_or sent k [] below) ∙ is))

pub command_at : (in_order : Bool) (sent : List (List ℕ)) (list : List Return) (k place : ℕ) (r : Return)
    → AreAnswered in_order sent list → place < length list → slice_get (entry_numbers list) place ≡ Some k
    → command_lines k (drop k sent) ≡ command_line k (get_or list place r).ack ++ command_lines (k + 1) (drop (k + 1) sent)
command_at in_order sent list k place r all below is =
    let a : IsAnswered sent (get_or list place r) = all.each place r below in
    let at : slice_get sent k ≡ Some a.bytes = ap (slice_get sent) (sym (number_is list place k r below is)) ∙ a.is in
    ap (command_lines k) (bytes_are sent k a.bytes at)
    ∙ ap (λ ack. command_line k ack ++ command_lines (k + 1) (drop (k + 1) sent)) (sym a.ack)

-- ---- the VLANs

-- the lines of the VLANs from number k on that are set
unfoldable pub vlans_from : (ℕ → Bool) → ℕ → ℕ → List ℕ
vlans_from passes k n = flat_map vlan_line (filter passes (range_with_len k (n - k)))

pub vlans_begin : (passes : ℕ → Bool) (n : ℕ) → flat_map vlan_line (passing passes n) ≡ vlans_from passes 0 n
unfolding passing vlans_from
vlans_begin passes n =
    let whole : n ≡ n - 0 = omega arith in
    ap (λ j. flat_map vlan_line (filter passes (range_with_len 0 j))) whole

next_vlan : (passes : ℕ → Bool) (k n : ℕ) → k < n
    → vlans_from passes k n
    ≡ flat_map vlan_line (cond (passes k) (k ∷ filter passes (range_with_len (k + 1) (n - (k + 1))))
    (filter passes (range_with_len (k + 1) (n - (k + 1)))))
unfolding vlans_from
next_vlan passes k n h =
    let more : n - k ≡ suc (n - (k + 1)) = omega arith in
    ap (λ j. flat_map vlan_line (filter passes (range_with_len k j))) more

pub vlan_there : (passes : ℕ → Bool) (k n : ℕ) → k < n → passes k ≡ true
    → vlans_from passes k n ≡ vlan_line k ++ vlans_from passes (k + 1) n
unfolding vlans_from
vlan_there passes k n h is =
    let rest = filter passes (range_with_len (k + 1) (n - (k + 1))) in
    next_vlan passes k n h ∙ ap (λ b. flat_map vlan_line (cond b (k ∷ rest) rest)) is

pub vlan_not : (passes : ℕ → Bool) (k n : ℕ) → k < n → passes k ≡ false → vlans_from passes k n ≡ vlans_from passes (k + 1) n
unfolding vlans_from
vlan_not passes k n h is =
    let rest = filter passes (range_with_len (k + 1) (n - (k + 1))) in
    next_vlan passes k n h ∙ ap (λ b. flat_map vlan_line (cond b (k ∷ rest) rest)) is

pub vlans_end : (passes : ℕ → Bool) (k n : ℕ) → n ≤ k → vlans_from passes k n ≡ []
unfolding vlans_from
vlans_end passes k n h =
    let none : n - k ≡ 0 = omega arith in
    ap (λ j. flat_map vlan_line (filter passes (range_with_len k j))) none
