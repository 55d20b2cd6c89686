-- What the commands of a control queue set, and the list of commands that sets it again.
use Rattle.std.specs.Prelude.{◌≡◌, ℕ, zero, suc, ◌+◌, ◌*◌, ◌/◌, ◌%◌, ◌<◌, ◌≤◌, ◌==◌, not, ◌&&◌, ◌||◌, Bool, true, false, List, [], ◌∷◌, ◌++◌, replicate, slice_index, slice_index_or, slice_set, map, filter, fold, All, if◌then◌else◌}
use Rattle.std.specs.List.{range_with_len, filter_map, list_all}
use Rattle.std.specs.Int.{bit_at}
use Rattle.vd_control.specs.declared.command.Command.{Command}
use Rattle.vd_control.specs.declared.command.TheConstants.{MOST_PAIRS}
use Rattle.vd_control.specs.declared.command.Command.TheVariants.{Rx, Mac, VlanAdd, VlanDel, Pairs, Offloads}
use Rattle.vd_control.specs.declared.settings.Settings.{Settings}
use Rattle.vd_control.specs.Commands.{command, spelled}

-- bit `place` of a number is set
abbrev pub has_bit : ℕ → ℕ → Bool
has_bit number place = bit_at number place == 1

-- VLAN `vlan` is there: bit `vlan mod 64` of word `vlan div 64` is set
abbrev pub has_vlan : List ℕ → ℕ → Bool
has_vlan words vlan = has_bit (slice_index words (vlan / 64)) (vlan % 64)

-- the number of `count` bits whose bits are those places that pass
unfoldable pub number_of : ℕ → (ℕ → Bool) → ℕ
number_of zero passes = 0
number_of (suc count) passes = (if passes 0 then 1 else 0) + 2 * number_of count (λ place. passes (place + 1))

-- the 64 words of the set of those VLANs that pass
unfoldable pub words_of : (ℕ → Bool) → List ℕ
words_of passes = map (λ word. number_of 64 (λ place. passes (64 * word + place))) (range_with_len 0 64)

-- an address of zeros
abbrev pub is_zeros : List ℕ → Bool
is_zeros mac = list_all (λ byte. byte == 0) mac

-- all flags off, an address of zeros, no VLAN, 1 pair, no offloads
unfoldable pub default : Settings
default = record { rx = replicate 6 false; mac = replicate 6 0; vlans = replicate 64 0; pairs = 1; offloads = 0 }

-- the settings after a command. Adding a VLAN that is there and deleting one that isn't change nothing
abbrev pub applied : Settings → Command → Settings
applied s (Rx flag on) = record s { rx = slice_set s.rx flag on }
applied s (Mac mac) = record s { mac = mac }
applied s (VlanAdd vlan) = record s { vlans = words_of (λ v. (v == vlan) || has_vlan s.vlans v) }
applied s (VlanDel vlan) = record s { vlans = words_of (λ v. not (v == vlan) && has_vlan s.vlans v) }
applied s (Pairs pairs) = record s { pairs = pairs }
applied s (Offloads offloads) = record s { offloads = offloads }

-- the settings after these commands, from the default on
abbrev pub after : List Command → Settings
after commands = fold applied default commands

-- the settings after these byte strings: each valid command in order
abbrev pub folded : List (List ℕ) → Settings
folded strings = after (filter_map command strings)

-- the numbers below `end` that pass, ascending
unfoldable pub passing : (ℕ → Bool) → ℕ → List ℕ
passing passes end = filter passes (range_with_len 0 end)

-- receive flag `flag` is on
abbrev pub has_flag : List Bool → ℕ → Bool
has_flag flags flag = slice_index_or flags flag false

-- the command alone, or none where the test holds
abbrev pub unless : Bool → Command → List Command
unless true c = []
unless false c = c ∷ []

-- the commands that set the settings again: each flag that is on, the address unless it is zeros, each VLAN
-- ascending, the pairs unless 1, the offloads unless 0
unfoldable pub replay : Settings → List Command
replay s =
    map (λ flag. Rx flag true) (passing (has_flag s.rx) 6)
    ++ (unless (is_zeros s.mac) (Mac s.mac)
    ++ (map VlanAdd (passing (has_vlan s.vlans) 4096)
    ++ (unless (s.pairs == 1) (Pairs s.pairs)
    ++ unless (s.offloads == 0) (Offloads s.offloads))))

-- the number of pairs is one that a command can set
abbrev pub HasPairs : Settings → Type 0
HasPairs s = (1 ≤ s.pairs) × (s.pairs ≤ MOST_PAIRS)

-- what a fold gives comes back: writing its replay list and folding that gives the same settings
abbrev pub FoldsComeBack : Type 0
FoldsComeBack =
    (strings : List (List ℕ)) → All (All (λ byte. byte < 256)) strings
    → HasPairs (folded strings) × (folded (map spelled (replay (folded strings))) ≡ folded strings)
