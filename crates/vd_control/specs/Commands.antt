-- The commands of a network device's control queue as bytes (VIRTIO 1.2, 5.1.6.5). Numbers stand lowest byte first.
use Rattle.std.specs.Prelude.{◌≡◌, ℕ, ◌+◌, ◌<◌, ◌≤◌, ◌^◌, ◌==◌, nat_lt, nat_le, not, ◌&&◌, Bool, List, [], ◌∷◌, length, drop, slice_index, Option, Some, None, if◌then◌else◌}
use Rattle.std.specs.Int.{w16, w64, to_le_bytes, from_le_bytes}
use Rattle.vd_control.specs.declared.command.Command.{Command}
use Rattle.vd_control.specs.declared.command.TheConstants.{MOST_PAIRS}
use Rattle.vd_control.specs.declared.command.Command.TheVariants.{Rx, Mac, VlanAdd, VlanDel, Pairs, Offloads}

-- the bytes are this class, this command and a payload of this size, with nothing after it
abbrev pub is_row : List ℕ → ℕ → ℕ → ℕ → Bool
is_row bytes class code size =
    (length bytes == size + 2) && (slice_index bytes 0 == class) && (slice_index bytes 1 == code)

-- the payload as a number of 16 bits
abbrev pub le16 : List ℕ → ℕ
le16 bytes = from_le_bytes w16 (drop 2 bytes)

-- the payload as a number of 64 bits
abbrev pub le64 : List ℕ → ℕ
le64 bytes = from_le_bytes w64 (drop 2 bytes)

-- the command that bytes spell, row by row, or none
unfoldable pub command : List ℕ → Option Command
command bytes =
    let code = slice_index bytes 1 in
    if is_row bytes 0 code 1 && nat_lt code 6 then Some (Rx code (not (slice_index bytes 2 == 0)))
    else (if is_row bytes 1 1 6 then Some (Mac (drop 2 bytes))
    else (if is_row bytes 2 0 2 && nat_le (le16 bytes) 4095 then Some (VlanAdd (le16 bytes))
    else (if is_row bytes 2 1 2 && nat_le (le16 bytes) 4095 then Some (VlanDel (le16 bytes))
    else (if is_row bytes 4 0 2 && nat_le 1 (le16 bytes) && nat_le (le16 bytes) MOST_PAIRS then Some (Pairs (le16 bytes))
    else (if is_row bytes 5 0 8 then Some (Offloads (le64 bytes))
    else None)))))

-- the bytes of a command; 'on' is spelled 1
abbrev pub spelled : Command → List ℕ
spelled (Rx flag on) = 0 ∷ flag ∷ (if on then 1 else 0) ∷ []
spelled (Mac mac) = 1 ∷ 1 ∷ mac
spelled (VlanAdd vlan) = 2 ∷ 0 ∷ to_le_bytes w16 vlan
spelled (VlanDel vlan) = 2 ∷ 1 ∷ to_le_bytes w16 vlan
spelled (Pairs pairs) = 4 ∷ 0 ∷ to_le_bytes w16 pairs
spelled (Offloads offloads) = 5 ∷ 0 ∷ to_le_bytes w64 offloads

-- a command that bytes can spell
abbrev pub IsCommand : Command → Type 0
IsCommand (Rx flag on) = flag < 6
IsCommand (Mac mac) = length mac ≡ 6
IsCommand (VlanAdd vlan) = vlan ≤ 4095
IsCommand (VlanDel vlan) = vlan ≤ 4095
IsCommand (Pairs pairs) = (1 ≤ pairs) × (pairs ≤ MOST_PAIRS)
IsCommand (Offloads offloads) = offloads < 2 ^ 64
