-- The address that commands leave has bytes.
use Rattle.std.proofs.Common.{ℕ, ◌<◌, ◌≡◌, ◌==◌, nat_lt, nat_le, not, ◌&&◌, slice_index, drop, List, [], ◌∷◌, fold, refl, Bool, true, false, Option, Some, None, arith, IfSome, if◌then◌else◌}
use Rattle.std.specs.List.{All, filter_map, cons_option}
use Rattle.std.proofs.lemmas.List.Elements.{All-head, All-tail, All-drop, All-replicate}
use Rattle.vd_control.specs.declared.command.Command.{Command}
use Rattle.vd_control.specs.declared.command.Command.TheVariants.{Rx, Mac, VlanAdd, VlanDel, Pairs, Offloads}
use Rattle.vd_control.specs.declared.settings.Settings.{Settings}
use Rattle.vd_control.specs.Commands.{command, is_row, le16, le64}
use Rattle.vd_control.specs.Settings.{applied, default, folded}

abbrev pub IsByte : ℕ → Type 0
IsByte byte = byte < 256

-- the address of a command, where it has one, has bytes
abbrev HasBytes : Command → Type 0
HasBytes (Mac mac) = All IsByte mac
HasBytes _ = Unit {0}

choice : (b : Bool) (c : Command) (o : Option Command) → (b ≡ true → HasBytes c) → IfSome o HasBytes
    → IfSome (if b then Some c else o) HasBytes
choice true c o h g = h refl
choice false c o h g = g

command_bytes : (bytes : List ℕ) → All IsByte bytes → IfSome (command bytes) HasBytes
unfolding command
command_bytes bytes small =
    let code = slice_index bytes 1 in
    let short = le16 bytes in
    let last : Option Command = if is_row bytes 5 0 8 then Some (Offloads (le64 bytes)) else None in
    let fifth : Option Command = if is_row bytes 4 0 2 && nat_le 1 short && nat_le short 32768 then Some (Pairs short) else last in
    let fourth : Option Command = if is_row bytes 2 1 2 && nat_le short 4095 then Some (VlanDel short) else fifth in
    let third : Option Command = if is_row bytes 2 0 2 && nat_le short 4095 then Some (VlanAdd short) else fourth in
    let second : Option Command = if is_row bytes 1 1 6 then Some (Mac (drop 2 bytes)) else third in
    choice (is_row bytes 0 code 1 && nat_lt code 6) (Rx code (not (slice_index bytes 2 == 0))) second (λ e. (tt {0}))
    (choice (is_row bytes 1 1 6) (Mac (drop 2 bytes)) third (λ e. All-drop IsByte 2 bytes small)
    (choice (is_row bytes 2 0 2 && nat_le short 4095) (VlanAdd short) fourth (λ e. (tt {0}))
    (choice (is_row bytes 2 1 2 && nat_le short 4095) (VlanDel short) fifth (λ e. (tt {0}))
    (choice (is_row bytes 4 0 2 && nat_le 1 short && nat_le short 32768) (Pairs short) last (λ e. (tt {0}))
    (choice (is_row bytes 5 0 8) (Offloads (le64 bytes)) None (λ e. (tt {0})) tt)))))

applied_bytes : (s : Settings) (c : Command) → All IsByte s.mac → HasBytes c → All IsByte (applied s c).mac
applied_bytes s (Rx flag on) is h = is
applied_bytes s (Mac mac) is h = h
applied_bytes s (VlanAdd vlan) is h = is
applied_bytes s (VlanDel vlan) is h = is
applied_bytes s (Pairs pairs) is h = is
applied_bytes s (Offloads offloads) is h = is

step_bytes : (o : Option Command) (s : Settings) (rest : List Command)
    → ((t : Settings) → All IsByte t.mac → All IsByte (fold applied t rest).mac) → All IsByte s.mac → IfSome o HasBytes
    → All IsByte (fold applied s (cons_option o rest)).mac
step_bytes None s rest go is h = go s is
step_bytes (Some c) s rest go is h = go (applied s c) (applied_bytes s c is h)

steps_bytes : (strings : List (List ℕ)) (s : Settings) → All IsByte s.mac → All (All IsByte) strings
    → All IsByte (fold applied s (filter_map command strings)).mac
steps_bytes [] s is small = is
steps_bytes (bytes ∷ strings) s is small =
    step_bytes (command bytes) s (filter_map command strings)
    (λ t was. steps_bytes strings t was (All-tail (All IsByte) bytes strings small))
    is
    (command_bytes bytes (All-head (All IsByte) bytes strings small))

default_bytes : All IsByte default.mac
unfolding default
default_bytes = All-replicate IsByte 6 0 (omega arith)

pub folded_bytes : (strings : List (List ℕ)) → All (All IsByte) strings → All IsByte (folded strings).mac
folded_bytes strings small = steps_bytes strings default default_bytes small
