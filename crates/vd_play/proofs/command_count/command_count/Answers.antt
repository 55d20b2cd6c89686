use Rattle.std.proofs.Common.{arith}
use Rattle.vd_machine.specs.File.{view, Plan}
use Rattle.vd_play.proofs.Chained.{switched_is}
use Rattle.vd_play.proofs.CommandCounts.{epoch_bounded, epoch_many}
use Rattle.vd_play.proofs.command_count.command_count.Goals as goal

pub overflow_sub-own : goal.overflow_sub-own
overflow_sub-own c =
    let plan : Plan = view c.args.m.now in
    omega (
      arith,
      c.sent_before.ensures.value,
      c.sent_before-2.ensures.value,
      (epoch_bounded plan (switched_is plan c.args.m.now.switched) c.args.epoch c.requires.epoch).rises,
    )

pub returns-clause-value : goal.returns-clause-value
returns-clause-value c ep is =
    let plan : Plan = view c.args.m.now in
    epoch_many plan (switched_is plan c.args.m.now.switched) c.args.epoch c.requires.epoch c.replay_count.result c.sent_before-2.result
    c.sent_before.result ep is (c.replay_count.ensures.value ep is) c.sent_before-2.ensures.value c.sent_before.ensures.value
