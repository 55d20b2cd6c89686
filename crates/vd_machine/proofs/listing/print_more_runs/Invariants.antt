use Rattle.std.proofs.Common.{◌≡◌, ◌++◌, drop, map}
use Rattle.vd_model.specs.declared.record.Run.{Run}
use Rattle.vd_text.specs.Canonical.{run_text}
use Rattle.vd_machine.specs.Canon.{more_items, quoted}
use Rattle.vd_machine.proofs.listing.print_more_runs.Given as goal

abbrev pub invariant-loop-run : goal.invariant-loop-run
invariant-loop-run l = l.out.items ++ more_items (map (λ (r : Run). quoted (run_text r)) (drop l.run-index l.runs)) ≡ l.fn.out.items
    ++ more_items (map (λ (r : Run). quoted (run_text r)) l.runs)
