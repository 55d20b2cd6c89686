use Rattle.std.proofs.Common.{◌≡◌, length, map, true}
use Rattle.std.specs.List.{list_all}
use Rattle.toml.specs.View.{view}
use Rattle.vd_text.specs.Grammar.{all_some}
use Rattle.vd_machine.specs.Commands.{command_of, is_lawful_command}
use Rattle.vd_machine.proofs.Collect.{after, read_rest}
use Rattle.vd_machine.proofs.commands.all_commands.Given as goal

abbrev pub invariant-loop-value : goal.invariant-loop-value
invariant-loop-value l = record {
  value : after l.found.items (read_rest (λ v. command_of (view v)) l.values l.value-index) ≡ all_some (map command_of (map view l.values));
  lawful : list_all is_lawful_command l.found.items ≡ true;
  count : length l.found.items ≡ l.value-index;
}
