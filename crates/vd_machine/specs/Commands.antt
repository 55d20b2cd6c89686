-- The control queue and its commands.
use Rattle.std.specs.Prelude.{ℕ, Bool, true, ◌&&◌, ◌==◌, nat_le, if◌then◌else◌, List, [], length, map, codes, Option, Some, None, option_and_then, option_map}
use Rattle.std.specs.List.{list_all}
use Rattle.std.specs.Option.{option_map_or}
use Rattle.arrayvec.specs.ArrayVec.{ArrayVec}
use Rattle.toml.specs.Data.{Data, Members, as_str}
use Rattle.vd_model.specs.declared.record.Script.{Script}
use Rattle.vd_text.specs.Commands.{command, is_command}
use Rattle.vd_text.specs.Grammar.{all_some}
use Rattle.vd_machine.specs.Lookup.{items_at, has}
use Rattle.vd_machine.specs.declared.commands.TheConstants.{MOST_COMMANDS}

-- the command of these bytes
abbrev pub command_with : List ℕ → ArrayVec ℕ
command_with bytes = record { items = bytes }

-- the command that a value writes
abbrev pub command_of : Data → Option (ArrayVec ℕ)
command_of d = option_map command_with (option_and_then command (as_str d))

-- what the control queue offers
abbrev pub control_script : List (ArrayVec ℕ) → Script
control_script cs = record { runs = []; commands = cs }

-- a control queue of these commands
abbrev pub some_control : List (ArrayVec ℕ) → Option Script
some_control cs = Some (control_script cs)

-- the commands in file order, where each text has a meaning
abbrev pub commands_of : Members → Option (List (ArrayVec ℕ))
commands_of ms = all_some (map command_of (items_at (codes "commands") ms))

-- the control queue of the file, where each command text has a meaning; there is none where the key is missing
unfoldable pub control_of : Members → Option (Option Script)
control_of ms = if has (codes "commands") ms then option_map some_control (commands_of ms) else Some None

-- no more commands than there may be
unfoldable pub has_few_commands : Members → Bool
has_few_commands ms = nat_le (length (items_at (codes "commands") ms)) MOST_COMMANDS

-- the command has 3 to 10 bytes
abbrev pub is_lawful_command : ArrayVec ℕ → Bool
is_lawful_command c = is_command c.items

-- no run, and no more commands than there may be, each of 3 to 10 bytes
abbrev pub is_control : Script → Bool
is_control q = (length q.runs == 0) && (nat_le (length q.commands) MOST_COMMANDS && list_all is_lawful_command q.commands)

-- so is the control queue, where there is one
abbrev pub is_lawful_control : Option Script → Bool
is_lawful_control o = option_map_or is_control o true
