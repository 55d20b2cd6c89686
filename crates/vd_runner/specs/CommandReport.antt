-- The report's lines of a control queue. Every line ends with a line feed, and numbers are decimal, the bytes of an address two
-- lower-case hexadecimal digits each.
use Rattle.std.specs.Prelude.{ℕ, ◌+◌, Bool, List, [], ◌∷◌, ◌++◌, flat_map, map, codes, decimal, if◌then◌else◌}
use Rattle.hex.specs.Hex.{encode_lower}
use Rattle.vd_commands.specs.Words.{ack_byte}
use Rattle.vd_control.specs.Settings.{has_vlan, passing}
use Rattle.vd_control.specs.declared.settings.Settings.{Settings}
use Rattle.vd_model.specs.declared.record.Return.{Return}

-- `command k ack`
unfoldable pub command_line : ℕ → ℕ → List ℕ
command_line k ack = codes "command " ++ decimal k ++ codes " " ++ decimal ack ++ codes "\n"

-- the digit of a receive flag: 1 where it is on
abbrev pub flag_text : Bool → List ℕ
flag_text on = if on then codes "1" else codes "0"

-- `settings rx=F mac=M pairs=P offloads=O`
unfoldable pub settings_line : Settings → List ℕ
settings_line s =
    codes "settings rx=" ++ flat_map flag_text s.rx ++ codes " mac=" ++ encode_lower s.mac ++ codes " pairs=" ++ decimal s.pairs
    ++ codes " offloads=" ++ decimal s.offloads ++ codes "\n"

-- `vlan v`
unfoldable pub vlan_line : ℕ → List ℕ
vlan_line v = codes "vlan " ++ decimal v ++ codes "\n"

-- the numbers of the commands that came back, in the order of the list
abbrev pub entry_numbers : List Return → List ℕ
entry_numbers list = map (λ (r : Return). r.number) list

-- the commands with these bytes, from number k on, each with its ack
abbrev pub command_lines : ℕ → List (List ℕ) → List ℕ
command_lines k [] = []
command_lines k (bytes ∷ more) = command_line k (ack_byte bytes) ++ command_lines (k + 1) more

-- what is set, the VLANs ascending
abbrev pub settings_lines : Settings → List ℕ
settings_lines s = settings_line s ++ flat_map vlan_line (passing (has_vlan s.vlans) 4096)
