use Rattle.std.proofs.Common.{ℕ, ◌<◌, ◌≤◌, Some}
use Rattle.std.specs.Prelude.{◌≢◌, slice_get}
use Rattle.vd_runner.specs.CommandReport.{entry_numbers}
use Rattle.vd_runner.proofs.acks.place_between.Given as goal

abbrev pub invariant-loop-place : goal.invariant-loop-place
invariant-loop-place l = (k : ℕ) → l.start ≤ k → k < l.place → slice_get (entry_numbers l.list) k ≢ Some l.number
