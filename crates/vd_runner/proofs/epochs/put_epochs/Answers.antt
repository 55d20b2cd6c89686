use Rattle.std.proofs.Common.{◌≡◌, length, arith, ◌∙◌, refl}
use Rattle.vd_runner.proofs.Midway.{go_on, broken_off, done_last, broken_off_last, begin}
use Rattle.vd_runner.proofs.Lines.{epoch_at, last_epoch}
use Rattle.vd_runner.proofs.epochs.put_epochs.Goals as goal

pub returns-in-Err-clause-err : goal.returns-in-Err-clause-err
returns-in-Err-clause-err g c =
    let m = rw (epoch_at c.args.queue c.loop-epoch.epoch c.args.switches.now c.loop-epoch.mode c.loop-epoch.from c.args.count
    c.loop-epoch-test.true) at c.loop-epoch.invariant.midway in
    broken_off _ _ _ _ _ _ m (rw (c.epoch_line.ensures, c.min-to.ensures) at c.in-Err.ensures.err)

pub loop-epoch-init : goal.loop-epoch-init
loop-epoch-init g c = record { midway = begin _ _; same = refl }

pub loop-epoch-preserved : goal.loop-epoch-preserved
loop-epoch-preserved g c =
    let m = rw (epoch_at c.args.queue c.loop-epoch.epoch c.args.switches.now c.loop-epoch.mode c.loop-epoch.from c.args.count
    c.loop-epoch-test.true) at c.loop-epoch.invariant.midway in
    record {
      midway = rw (c.mode_after-mode.ensures, c.min-to.ensures)
          (go_on _ _ _ _ _ _ m (rw (c.epoch_line.ensures, c.min-to.ensures) at c.in-Ok.ensures.ok));
      same = c.in-Ok.ensures.cause.ok ∙ c.loop-epoch.invariant.same;
    }

pub returns-in-Ok-put_line-clause-ok : goal.returns-in-Ok-put_line-clause-ok
returns-in-Ok-put_line-clause-ok g c =
    let m = rw (last_epoch c.args.queue c.loop-epoch.epoch c.args.switches.now c.loop-epoch.mode c.loop-epoch.from c.args.count
    c.loop-epoch-test.false) at c.loop-epoch.invariant.midway in
    let end : length c.args.switches.now ≡ c.loop-epoch.epoch = omega arith in
    done_last _ _ _ _ _ m (rw (c.epoch_line-2.ensures, end) at c.in-Ok-put_line.ensures.ok)

pub returns-in-Err-put_line-clause-err : goal.returns-in-Err-put_line-clause-err
returns-in-Err-put_line-clause-err g c =
    let m = rw (last_epoch c.args.queue c.loop-epoch.epoch c.args.switches.now c.loop-epoch.mode c.loop-epoch.from c.args.count
    c.loop-epoch-test.false) at c.loop-epoch.invariant.midway in
    let end : length c.args.switches.now ≡ c.loop-epoch.epoch = omega arith in
    broken_off_last _ _ _ _ _ m (rw (c.epoch_line-2.ensures, end) at c.in-Err-put_line.ensures.err)
