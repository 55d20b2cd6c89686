use Rattle.std.proofs.Common.{sym, ◌∙◌}
use Rattle.vd_models.specs.laws.Scripted.{empty_of, scripted_chains}
use Rattle.vd_models.proofs.Scripts.{chains_count}
use Rattle.vd_models.proofs.script.total.Goals as goal

pub returns-then-is_empty : goal.returns-then-is_empty
returns-then-is_empty c =
    let s = c.args.script.now in
    let none = empty_of c.as_slice-commands.result.now s.commands c.is_empty.result c.as_slice-commands.ensures c.is_empty.ensures
    c.if-is_empty.true in
    rw c.count.ensures (rw c.as_slice.ensures (sym (chains_count s.runs) ∙ sym (scripted_chains s none)))
