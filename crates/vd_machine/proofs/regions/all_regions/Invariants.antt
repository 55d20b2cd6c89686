use Rattle.std.proofs.Common.{◌≡◌, map}
use Rattle.toml.specs.View.{view}
use Rattle.vd_text.specs.Grammar.{all_some}
use Rattle.vd_machine.specs.Regions.{region_of}
use Rattle.vd_machine.proofs.Collect.{after, read_rest}
use Rattle.vd_machine.proofs.regions.all_regions.Given as goal

abbrev pub invariant-loop-value : goal.invariant-loop-value
invariant-loop-value l = after l.found.items (read_rest (λ v. region_of (view v)) l.values l.value-index) ≡ all_some
    (map region_of (map view l.values))
