use Rattle.std.proofs.Common.{ap, sym, ◌∙◌, Some}
use Rattle.vd_model.specs.declared.record.Run.{Run}
use Rattle.vd_models.proofs.Scripts.{next_is}
use Rattle.vd_models.proofs.cursor.next_chain.Goals as goal

pub returns-then-at-runs : goal.returns-then-at-runs
returns-then-at-runs c = sym (ap (λ (r : Run). Some r.chain) c.index-runs-at.is)
    ∙ next_is c.args.runs.now c.args.at c.index-runs-at.result c.if-at-runs.true c.index-runs-at.is c.requires
