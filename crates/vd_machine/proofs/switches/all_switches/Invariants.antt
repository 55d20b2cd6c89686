use Rattle.std.proofs.Common.{◌≡◌, map, true}
use Rattle.std.specs.List.{list_all}
use Rattle.toml.specs.View.{view}
use Rattle.vd_text.specs.Grammar.{all_some}
use Rattle.vd_machine.specs.Switches.{switch_of, is_switch}
use Rattle.vd_machine.proofs.Collect.{after, read_rest}
use Rattle.vd_machine.proofs.switches.all_switches.Given as goal

abbrev pub invariant-loop-value : goal.invariant-loop-value
invariant-loop-value l = record {
  value : after l.found.items (read_rest (λ v. switch_of (view v)) l.values l.value-index) ≡ all_some
      (map switch_of (map view l.values));
  lawful : list_all is_switch l.found.items ≡ true;
}
