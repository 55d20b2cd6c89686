use Rattle.std.proofs.Common.{◌≡◌, take}
use Rattle.vd_models.proofs.script.copy_runs.Given as goal

abbrev pub invariant-loop-run : goal.invariant-loop-run
invariant-loop-run l = l.copy.items ≡ take l.run-index l.runs
