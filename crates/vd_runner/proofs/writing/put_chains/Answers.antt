use Rattle.std.proofs.Common.{◌∙◌}
use Rattle.vd_runner.proofs.Midway.{go_on, broken_off}
use Rattle.vd_runner.proofs.Lines.{chain_at}
use Rattle.vd_runner.proofs.writing.put_chains.Goals as goal

pub returns-in-Err-clause-err : goal.returns-in-Err-clause-err
returns-in-Err-clause-err g c =
    let m = rw (chain_at c.args.queue c.args.begun.now c.loop-chain.chain c.index-begun-chain.result c.loop-chain-test.true) at
    c.loop-chain.invariant.midway in
    broken_off _ _ _ _ _ _ m (rw c.chain_line.ensures at c.in-Err.ensures.err)

pub loop-chain-preserved : goal.loop-chain-preserved
loop-chain-preserved g c =
    let m = rw (chain_at c.args.queue c.args.begun.now c.loop-chain.chain c.index-begun-chain.result c.loop-chain-test.true) at
    c.loop-chain.invariant.midway in
    record {
      midway = go_on _ _ _ _ _ _ m (rw c.chain_line.ensures at c.in-Ok.ensures.ok);
      same = c.in-Ok.ensures.cause.ok ∙ c.loop-chain.invariant.same;
    }
