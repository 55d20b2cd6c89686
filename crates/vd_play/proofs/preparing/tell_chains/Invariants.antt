use Rattle.std.proofs.Common.{take}
use Rattle.std.specs.List.{All}
use Rattle.vd_model.specs.declared.record.Run.{Run}
use Rattle.vd_model.specs.Chains.{IsChain}
use Rattle.vd_play.proofs.preparing.tell_chains.Given as goal

abbrev pub invariant-loop-run : goal.invariant-loop-run
invariant-loop-run l = All (λ (r : Run). IsChain r.chain) (take l.run-index l.runs)
