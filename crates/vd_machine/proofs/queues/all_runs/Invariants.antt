use Rattle.std.proofs.Common.{◌≡◌, map, true}
use Rattle.std.specs.List.{list_all}
use Rattle.toml.specs.View.{view}
use Rattle.vd_text.specs.Grammar.{all_some, is_lawful}
use Rattle.vd_machine.specs.Queues.{run_of}
use Rattle.vd_machine.proofs.Collect.{after, read_rest}
use Rattle.vd_machine.proofs.queues.all_runs.Given as goal

abbrev pub invariant-loop-value : goal.invariant-loop-value
invariant-loop-value l = record {
  value : after l.found.items (read_rest (λ v. run_of l.most (view v)) l.values l.value-index) ≡ all_some
      (map (run_of l.most) (map view l.values));
  lawful : list_all (is_lawful l.most) l.found.items ≡ true;
}
