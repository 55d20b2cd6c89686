use Rattle.std.proofs.Common.{arith, ap, ◌∙◌}
use Rattle.vd_model.specs.declared.record.Run.{Run}
use Rattle.vd_models.proofs.Scripts.{passed}
use Rattle.vd_models.proofs.cursor.settle.Goals as goal

pub loop-run-preserved : goal.loop-run-preserved
loop-run-preserved c = passed c.args.runs.now c.loop-run.run c.loop-run.used c.index-runs-run.result c.loop-run-test.true
    c.index-runs-run.is (omega (arith, ap (λ (r : Run). r.count) c.index-runs-run.is, c.if-runs-run.true)) ∙ c.loop-run.invariant
