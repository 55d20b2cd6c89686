-- The mode at the start, and the switches.
use Rattle.std.specs.Prelude.{ℕ, Bool, true, ◌&&◌, nat_le, if◌then◌else◌, List, [], ◌∷◌, length, map, codes, Option, Some, None, option_and_then}
use Rattle.std.specs.List.{list_all}
use Rattle.std.specs.Str.{bytes_eq}
use Rattle.toml.specs.Data.{Data, Members, as_table}
use Rattle.vd_model.specs.declared.base.Mode.{Mode}
use Rattle.vd_model.specs.declared.base.Mode.TheVariants as mode
use Rattle.vd_text.specs.Grammar.{all_some}
use Rattle.vd_machine.specs.Lookup.{natural_at, text_at, items_at, has}
use Rattle.vd_machine.specs.declared.machine.Switch.{Switch}
use Rattle.vd_machine.specs.declared.machine.To.{To}
use Rattle.vd_machine.specs.declared.machine.To.TheVariants as to
use Rattle.vd_machine.specs.declared.switches.TheConstants.{MOST_SWITCHES}

-- the mode of this name
abbrev pub mode_of : List ℕ → Option Mode
mode_of name =
    if bytes_eq name (codes "pass") then Some mode.Pass else if bytes_eq name (codes "shadow") then Some mode.Shadow else None

-- the mode at the start, where there is such a mode; it is pass where none is named
unfoldable pub start_of : Members → Option Mode
start_of ms = if has (codes "start") ms then option_and_then mode_of (text_at (codes "start") ms) else Some mode.Pass

-- to what a switch of this name leads
abbrev pub to_of : List ℕ → Option To
to_of name =
    if bytes_eq name (codes "pass") then Some to.Pass
    else if bytes_eq name (codes "shadow") then Some to.Shadow
    else if bytes_eq name (codes "renew") then Some to.Renew
    else None

-- a number of 32 bits
abbrev pub if_small : ℕ → Option ℕ
if_small n = if nat_le n 0xffff_ffff then Some n else None

-- a switch after so many chains to this
abbrev pub switch_at : Option ℕ → Option To → Option Switch
switch_at None t = None
switch_at (Some n) None = None
switch_at (Some n) (Some t) = Some (record { after = n; to = t })

-- after how many chains a table switches
abbrev pub after_in : Members → Option ℕ
after_in t = option_and_then if_small (natural_at (codes "after") t)

-- to what it switches
abbrev pub to_in : Members → Option To
to_in t = option_and_then to_of (text_at (codes "to") t)

-- the switch that a table writes
abbrev pub switch_of : Data → Option Switch
switch_of d = option_and_then (λ t. switch_at (after_in t) (to_in t)) (as_table d)

-- none is before the one before it, nor before n
abbrev pub are_ascending : ℕ → List Switch → Bool
are_ascending n [] = true
are_ascending n (s ∷ ss) = nat_le n s.after && are_ascending s.after ss

-- no more switches than there may be, none before the one before it
abbrev pub are_in_order : List Switch → Bool
are_in_order ss = nat_le (length ss) MOST_SWITCHES && are_ascending 0 ss

-- a switch that a file may order
abbrev pub is_switch : Switch → Bool
is_switch s = nat_le s.after 0xffff_ffff

-- the switches of a machine
abbrev pub are_switches : List Switch → Bool
are_switches ss = are_in_order ss && list_all is_switch ss

-- the switches, where they are in order
abbrev pub if_in_order : List Switch → Option (List Switch)
if_in_order ss = if are_in_order ss then Some ss else None

-- the switches in file order, where they are lawful
unfoldable pub switches_of : Members → Option (List Switch)
switches_of ms = option_and_then if_in_order (all_some (map switch_of (items_at (codes "switches") ms)))
