use Rattle.std.proofs.Common.{◌≡◌, drop}
use Rattle.vd_machine.specs.Regions.{all_apart}
use Rattle.vd_machine.proofs.regions.all_apart.Given as goal

abbrev pub invariant-loop-i : goal.invariant-loop-i
invariant-loop-i l = all_apart l.regions ≡ all_apart (drop l.i l.regions)
