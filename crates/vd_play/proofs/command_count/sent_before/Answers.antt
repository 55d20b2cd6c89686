use Rattle.std.proofs.Common.{◌-◌, ap, ◌∙◌, arith}
use Rattle.vd_machine.specs.File.{view, Plan}
use Rattle.vd_play.specs.Orders.{stop_of}
use Rattle.vd_play.proofs.CommandCounts.{sent_stop}
use Rattle.vd_play.proofs.command_count.sent_before.Goals as goal

pub returns-clause-value : goal.returns-clause-value
returns-clause-value c =
    let plan : Plan = view c.args.m.now in
    c.stop_of.ensures ∙ ap (λ ss. stop_of ss (c.args.epoch - 1) c.own_count.result) c.as_slice.ensures
    ∙ ap (stop_of plan.switches (c.args.epoch - 1)) c.own_count.ensures.value
    ∙ sent_stop plan c.args.epoch (omega (arith, c.if-epoch-eq0.false)) c.requires.epoch
