-- The control queue in the canonical text: its line and its value, and that this value means it.
use Rattle.std.proofs.Common.{◌≡◌, ℕ, ◌==◌, true, false, ◌&&◌, nat_le, List, [], ◌∷◌, length, map, codes, Option, Some, None, option_map, refl, ap, sym}
use Rattle.std.specs.List.{list_all}
use Rattle.std.proofs.lemmas.Bool.{and_parts}
use Rattle.arrayvec.specs.ArrayVec.{ArrayVec}
use Rattle.toml.specs.Data.{Data, string, array, Members, member, get_member}
use Rattle.toml.specs.Text.{IsValueText}
use Rattle.vd_model.specs.declared.record.Script.{Script}
use Rattle.vd_text.specs.Commands.{command_text}
use Rattle.vd_text.proofs.CommandTexts.{command_back, command_text_passes}
use Rattle.vd_machine.specs.Canon.{command_item, list_text}
use Rattle.vd_machine.specs.Commands.{command_with, command_of, control_of, has_few_commands, is_lawful_command, is_control, is_lawful_control}
use Rattle.vd_machine.specs.declared.commands.TheConstants.{MOST_COMMANDS}
use Rattle.vd_machine.proofs.CanonStrings.{is_plain}
use Rattle.vd_machine.proofs.CanonValues.{items_from, list_from, each_back, nothing_in, length_from, string_value, list_value}

abbrev pub command_data : ArrayVec ℕ → Data
command_data c = string (command_text c.items)

abbrev pub commands_data : Script → Data
commands_data q = array (items_from (map command_data q.commands))

-- the key of the control queue and its value, where there is one
abbrev pub control_values : Option Script → List (List ℕ × Data)
control_values None = []
control_values (Some q) = (codes "commands", commands_data q) ∷ []

-- a document with that key, which comes before each other key of a machine
abbrev pub with_control : Option Script → Members → Members
with_control None ms = ms
with_control (Some q) ms = member (codes "commands") (commands_data q) ms

-- what reads other keys alone
pub unseen : {A : Type 0} (f : Members → A) → ((d : Data) (ms : Members) → f (member (codes "commands") d ms) ≡ f ms) → (o : Option Script)
    (ms : Members) → f (with_control o ms) ≡ f ms
unseen f each None ms = refl
unseen f each (Some q) ms = each (commands_data q) ms

record ControlParts (q : Script) : Type 0 where
  pub runless : (length q.runs == 0) ≡ true
  pub few : nat_le (length q.commands) MOST_COMMANDS ≡ true
  pub each : list_all is_lawful_command q.commands ≡ true

control_parts : (q : Script) → is_control q ≡ true → ControlParts q
control_parts q h =
    let parts = and_parts (length q.runs == 0) (nat_le (length q.commands) MOST_COMMANDS && list_all is_lawful_command q.commands) h in
    let rest = and_parts (nat_le (length q.commands) MOST_COMMANDS) (list_all is_lawful_command q.commands) parts.1 in
    record { runless = parts.0; few = rest.0; each = rest.1 }

pub each_command : (q : Script) → is_control q ≡ true → list_all is_lawful_command q.commands ≡ true
each_command q h = (control_parts q h).each

-- the text writes the value

command_value : (c : ArrayVec ℕ) → is_lawful_command c ≡ true → IsValueText false (command_data c) (command_item c)
command_value c h = string_value (command_text c.items) (command_text_passes is_plain refl c.items h)

pub commands_value : (q : Script) → is_control q ≡ true → IsValueText false (commands_data q) (list_text (map command_item q.commands))
commands_value q h = list_value command_data command_item is_lawful_command command_value q.commands (control_parts q h).each

-- the value means the control queue

command_data_back : (c : ArrayVec ℕ) → is_lawful_command c ≡ true → command_of (command_data c) ≡ Some c
command_data_back c h = ap (option_map command_with) (command_back c.items h)

pub control_back : (o : Option Script) (ms : Members) → get_member (codes "commands") ms ≡ None → is_lawful_control o ≡ true
    → control_of (with_control o ms) ≡ Some o
unfolding control_of
control_back None ms none h = rw none refl
control_back (Some q) ms none h =
    let parts = control_parts q h in
    rw (
      list_from (map command_data q.commands),
      each_back command_of command_data is_lawful_command command_data_back q.commands parts.each,
    ) (ap (λ rs. Some (Some (record { runs = rs; commands = q.commands }))) (sym (nothing_in q.runs parts.runless)))

pub few_back : (o : Option Script) (ms : Members) → get_member (codes "commands") ms ≡ None → is_lawful_control o ≡ true
    → has_few_commands (with_control o ms) ≡ true
unfolding has_few_commands
few_back None ms none h = rw none refl
few_back (Some q) ms none h = rw (length_from command_data q.commands) (control_parts q h).few
