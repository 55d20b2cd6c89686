use Rattle.std.proofs.Common.{◌<◌, ◌≤◌, ◌+◌, ℕ, List, length, flat_map, ap, arith}
use Rattle.std.proofs.lemmas.List.{take_all}
use Rattle.vd_machine.specs.File.{view, Plan}
use Rattle.vd_play.specs.Commands.{control_commands, control_epochs, replayed_commands}
use Rattle.vd_play.specs.Epochs.{Epoch}
use Rattle.vd_play.proofs.Bounds.{many_epochs}
use Rattle.vd_play.proofs.Chained.{switched_is}
use Rattle.vd_play.proofs.CommandCounts.{replays_more}
use Rattle.vd_play.proofs.command_count.command_work.Goals as goal

pub loop-epoch-preserved : goal.loop-epoch-preserved
loop-epoch-preserved c =
    let plan : Plan = view c.args.m.now in
    let k : ℕ = c.loop-epoch.epoch in
    let low : k < length plan.switches + 2 = omega (arith, c.loop-epoch-test.true, c.loop-epoch.auto.epoch-end, c.len-epoch-end.ensures) in
    record {
      counted = omega (
        arith,
        c.loop-epoch.invariant.counted,
        replays_more plan (switched_is plan c.args.m.now.switched) k low c.replay_count-count.result c.replay_count-count.ensures.value,
      );
      few = omega (arith, c.loop-epoch.invariant.few, c.replay_count-count.ensures.few);
    }

pub returns : goal.returns
returns c =
    let plan : Plan = view c.args.m.now in
    let k : ℕ = c.loop-epoch.epoch in
    let es : List Epoch = control_epochs plan in
    let all : length es ≤ k = omega (
      arith,
      c.loop-epoch-test.false,
      c.len-epoch-end.ensures,
      many_epochs plan (length (control_commands plan)),
    ) in
    omega (
      arith,
      c.loop-epoch.invariant.counted,
      ap (λ (xs : List Epoch). length (flat_map (replayed_commands plan) xs)) (take_all k es all),
    )
