use Rattle.std.proofs.Common.{◌≡◌, ◌-◌}
use Rattle.vd_machine.specs.Made.{made_run}
use Rattle.vd_machine.proofs.Drawing.{IsLeft}
use Rattle.vd_machine.proofs.making.made_runs.Given as goal

abbrev pub invariant-loop : goal.invariant-loop
invariant-loop l = IsLeft made_run 1000 l.fn.draws.last (1000 - l.counter) l.draws.last l.found.items
