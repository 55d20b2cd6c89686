use Rattle.std.proofs.Common.{◌≡◌, length, take, arith, ap, sym, subst, ◌∙◌}
use Rattle.std.proofs.Math.Seq.{take-length}
use Rattle.std.proofs.lemmas.List.Elements.{All-more, All-same}
use Rattle.vd_model.specs.declared.record.Run.{Run}
use Rattle.vd_model.specs.Chains.{IsChain}
use Rattle.vd_play.proofs.preparing.tell_chains.Goals as goal

pub loop-run-preserved : goal.loop-run-preserved
loop-run-preserved c = All-more (λ (r : Run). IsChain r.chain) c.args.runs.now c.loop-run.run-index c.run-item.result
    c.loop-run-test.true c.loop-run.invariant (subst (λ (r : Run). IsChain r.chain) c.run-item.is c.pieces.ensures.lawful)

pub returns : goal.returns
returns c =
    let end : c.loop-run.run-index ≡ length c.args.runs.now = omega arith in
    All-same (λ (r : Run). IsChain r.chain) c.args.runs.now (take c.loop-run.run-index c.args.runs.now)
    (sym (ap (λ i. take i c.args.runs.now) end ∙ take-length c.args.runs.now)) c.loop-run.invariant
