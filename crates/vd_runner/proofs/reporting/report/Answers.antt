use Rattle.std.proofs.Common.{◌≡◌, ◌<◌, ◌≤◌, ◌++◌, length, take_all, arith, refl, ◌∙◌, ap, sym}
use Rattle.vd_bus.specs.Device.{lens_of}
use Rattle.vd_machine.specs.File.{view}
use Rattle.vd_play.specs.Setting.{setting_of}
use Rattle.vd_runner.specs.Report.{report, all_lens, control_lines, drained_line, drained}
use Rattle.vd_runner.proofs.Midway.{begin, go_on, done_last, broken_off, broken_off_last}
use Rattle.vd_runner.proofs.Queues.{queue_at, last_queue, drained_at, many_lens, lens_at, back}
use Rattle.vd_runner.proofs.reporting.report.Goals as goal

pub loop-queue-init : goal.loop-queue-init
unfolding report
loop-queue-init g c = record { midway = begin _ _; drained = refl; small = omega arith; same = refl }

pub returns-in-Err-clause-err : goal.returns-in-Err-clause-err
returns-in-Err-clause-err g c =
    let plan = view c.args.m.now in
    let m = g.V.Device.party in
    let bench = c.args.bench.now in
    let all = all_lens m plan bench in
    let k = c.loop-queue.queue in
    let many = many_lens m plan bench c.requires.parties.devices in
    let below : k < length plan.queues = omega (arith, c.loop-queue-test.true, c.len-queue-end.ensures) in
    let inside : k < length all = omega (arith, below, many) in
    let lens = lens_at m plan bench k c.index.result.now c.requires.parties.devices below c.index.ensures
    ∙ ap (λ bs. lens_of bs) (sym c.journal-journal.ensures.begun) in
    let here = rw (queue_at plan c.args.brief all k (lens_of c.journal-journal.result.now.begun.items)
    (control_lines plan ++ drained_line (drained all)) inside lens) at c.loop-queue.invariant.midway in
    broken_off _ _ _ _ _ _ here c.in-Err.ensures.err

pub loop-queue-preserved : goal.loop-queue-preserved
loop-queue-preserved g c =
    let plan = view c.args.m.now in
    let m = g.V.Device.party in
    let bench = c.args.bench.now in
    let all = all_lens m plan bench in
    let k = c.loop-queue.queue in
    let many = many_lens m plan bench c.requires.parties.devices in
    let below : k < length plan.queues = omega (arith, c.loop-queue-test.true, c.len-queue-end.ensures) in
    let inside : k < length all = omega (arith, below, many) in
    let lens = lens_at m plan bench k c.index.result.now c.requires.parties.devices below c.index.ensures
    ∙ ap (λ bs. lens_of bs) (sym c.journal-journal.ensures.begun) in
    let here = rw (queue_at plan c.args.brief all k (lens_of c.journal-journal.result.now.begun.items)
    (control_lines plan ++ drained_line (drained all)) inside lens) at c.loop-queue.invariant.midway in
    let count = back (setting_of g.L.Driver.DriverEnd.driver g.L.Device.DeviceEnd.device g.L.Layout.layout g.G.Guest.party
    g.V.Device.party) plan bench k c.index-in-loop-queue.result.now c.index.result.now c.requires.parties c.requires.played below
    c.index-in-loop-queue.ensures c.index.ensures in
    record {
      midway = go_on _ _ _ _ _ _ here c.in-Ok.ensures.ok;
      drained = omega (
        arith,
        c.loop-queue.invariant.drained,
        drained_at all k inside,
        ap length (lens_at m plan bench k c.index.result.now c.requires.parties.devices below c.index.ensures),
        count,
        ap length c.returned.ensures,
      );
      small = omega (arith, c.loop-queue.invariant.small, c.returned.type_inv);
      same = c.in-Ok.ensures.cause.ok ∙ c.loop-queue.invariant.same;
    }

pub returns-in-Err-put_if_control-clause-err : goal.returns-in-Err-put_if_control-clause-err
returns-in-Err-put_if_control-clause-err g c =
    let plan = view c.args.m.now in
    let all = all_lens g.V.Device.party plan c.args.bench.now in
    let k = c.loop-queue.queue in
    let past : length all ≤ k = omega (
      arith,
      c.loop-queue-test.false,
      c.len-queue-end.ensures,
      many_lens g.V.Device.party plan c.args.bench.now c.requires.parties.devices,
    ) in
    let here = rw (last_queue plan c.args.brief all k (control_lines plan ++ drained_line (drained all)) past) at
    c.loop-queue.invariant.midway in
    broken_off _ _ _ _ _ _ here c.in-Err-put_if_control.ensures.err

pub returns-in-Err-put_line-clause-err : goal.returns-in-Err-put_line-clause-err
returns-in-Err-put_line-clause-err g c =
    let plan = view c.args.m.now in
    let all = all_lens g.V.Device.party plan c.args.bench.now in
    let k = c.loop-queue.queue in
    let past : length all ≤ k = omega (
      arith,
      c.loop-queue-test.false,
      c.len-queue-end.ensures,
      many_lens g.V.Device.party plan c.args.bench.now c.requires.parties.devices,
    ) in
    let here = rw (last_queue plan c.args.brief all k (control_lines plan ++ drained_line (drained all)) past) at
    c.loop-queue.invariant.midway in
    let next = go_on _ _ _ _ _ _ here c.in-Ok-put_if_control.ensures.ok in
    let total : c.loop-queue.drained ≡ drained all = c.loop-queue.invariant.drained ∙ ap drained (take_all k all past) in
    broken_off_last _ _ _ _ _ next (rw (c.drained_line.ensures, total) at c.in-Err-put_line.ensures.err)

pub returns-in-Ok-put_line-clause-ok : goal.returns-in-Ok-put_line-clause-ok
returns-in-Ok-put_line-clause-ok g c =
    let plan = view c.args.m.now in
    let all = all_lens g.V.Device.party plan c.args.bench.now in
    let k = c.loop-queue.queue in
    let past : length all ≤ k = omega (
      arith,
      c.loop-queue-test.false,
      c.len-queue-end.ensures,
      many_lens g.V.Device.party plan c.args.bench.now c.requires.parties.devices,
    ) in
    let here = rw (last_queue plan c.args.brief all k (control_lines plan ++ drained_line (drained all)) past) at
    c.loop-queue.invariant.midway in
    let next = go_on _ _ _ _ _ _ here c.in-Ok-put_if_control.ensures.ok in
    let total : c.loop-queue.drained ≡ drained all = c.loop-queue.invariant.drained ∙ ap drained (take_all k all past) in
    done_last _ _ _ _ _ next (rw (c.drained_line.ensures, total) at c.in-Ok-put_line.ensures.ok)
