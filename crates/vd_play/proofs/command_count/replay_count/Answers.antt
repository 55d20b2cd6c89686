use Rattle.std.proofs.Common.{sym, ◌∙◌}
use Rattle.vd_machine.specs.File.{view}
use Rattle.vd_play.proofs.CommandCounts.{replayed_many, replayed_no}
use Rattle.vd_play.proofs.command_count.replay_count.Goals as goal

pub returns-then-is_renewed-clause-value : goal.returns-then-is_renewed-clause-value
returns-then-is_renewed-clause-value c ep is = c.replay_len.ensures.value
    ∙ replayed_many (view c.args.m.now) c.args.epoch c.args.settings.now c.requires.set (sym c.is_renewed.ensures ∙ c.if-is_renewed.true) ep
    is

pub returns-else-is_renewed-clause-value : goal.returns-else-is_renewed-clause-value
returns-else-is_renewed-clause-value c ep is =
    replayed_no (view c.args.m.now) c.args.epoch (sym c.is_renewed.ensures ∙ c.if-is_renewed.false) ep is
