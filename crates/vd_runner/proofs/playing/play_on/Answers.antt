use Rattle.std.proofs.Common.{length, arith, refl, subst, sym}
use Rattle.vd_machine.specs.File.{view}
use Rattle.vd_play.specs.Played.{faulty}
use Rattle.vd_play.specs.Setting.{setting_of}
use Rattle.vd_runner.specs.declared.status.Status.{Status}
use Rattle.vd_runner.specs.Outcome.{PlaysTo}
use Rattle.vd_runner.proofs.Prepared.{keeps_on, calm_on, fault_on}
use Rattle.vd_runner.proofs.playing.play_on.Goals as goal

pub returns-in-Ok-report-clause-answer : goal.returns-in-Ok-report-clause-answer
returns-in-Ok-report-clause-answer g c =
    let n = length c.args.m.now.queues in
    let m = g.V.Device.party in (
      record {
        parties = record {
          guests = omega (arith, c.if-guests-need.false, c.len-need.ensures, c.len-guests.ensures, c.args.bench.now.guests.ok);
          devices = omega (arith, c.if-devices-need.false, c.len-need.ensures, c.len-devices.ensures, c.args.bench.now.devices.ok);
        };
        keeps = keeps_on m n c.args.bench.now c.prepare.new.bench c.play_machine.new.bench c.prepare.ensures.keeps
            c.play_machine.ensures.keeps;
        calm = calm_on g.G.Guest.party m n c.args.bench.now c.prepare.new.bench c.play_machine.new.bench c.prepare.ensures.keeps
            c.prepare.ensures.untouched c.in-Ok-play_machine.ensures.faults;
        played = c.in-Ok-play_machine.ensures.played;
      },
      c.in-Ok-report.ensures.ok,
    )

pub returns-in-Err-report-clause-answer : goal.returns-in-Err-report-clause-answer
returns-in-Err-report-clause-answer g c =
    let n = length c.args.m.now.queues in
    let m = g.V.Device.party in (
      record {
        parties = record {
          guests = omega (arith, c.if-guests-need.false, c.len-need.ensures, c.len-guests.ensures, c.args.bench.now.guests.ok);
          devices = omega (arith, c.if-devices-need.false, c.len-need.ensures, c.len-devices.ensures, c.args.bench.now.devices.ok);
        };
        keeps = keeps_on m n c.args.bench.now c.prepare.new.bench c.play_machine.new.bench c.prepare.ensures.keeps
            c.play_machine.ensures.keeps;
        calm = calm_on g.G.Guest.party m n c.args.bench.now c.prepare.new.bench c.play_machine.new.bench c.prepare.ensures.keeps
            c.prepare.ensures.untouched c.in-Ok-play_machine.ensures.faults;
        played = c.in-Ok-play_machine.ensures.played;
      },
      c.in-Err-report.ensures.err,
      omega (arith, c.in-Err-report.ensures.cause.failed),
    )

pub returns-in-Err-clause-answer : goal.returns-in-Err-clause-answer
returns-in-Err-clause-answer g c =
    let n = length c.args.m.now.queues in
    let m = g.V.Device.party in
    let held = g.K.Sink.held c.args.sink.now in
    let count = g.K.Sink.faults c.args.sink.now in
    let way = λ (s : Status). PlaysTo
    (setting_of g.L.Driver.DriverEnd.driver g.L.Device.DeviceEnd.device g.L.Layout.layout g.G.Guest.party g.V.Device.party)
    (view c.args.m.now) c.args.brief c.args.bench.now c.play_machine.new.bench held held count count s in
    subst way (sym c.status_of.ensures) (
      record {
        parties = record {
          guests = omega (arith, c.if-guests-need.false, c.len-need.ensures, c.len-guests.ensures, c.args.bench.now.guests.ok);
          devices = omega (arith, c.if-devices-need.false, c.len-need.ensures, c.len-devices.ensures, c.args.bench.now.devices.ok);
        };
        keeps = keeps_on m n c.args.bench.now c.prepare.new.bench c.play_machine.new.bench c.prepare.ensures.keeps
            c.play_machine.ensures.keeps;
        fault = fault_on g.G.Guest.party m n (faulty c.in-Err.fault) c.args.bench.now c.prepare.new.bench c.play_machine.new.bench
            c.prepare.ensures.keeps c.prepare.ensures.untouched c.in-Err.ensures.fault;
        cut = c.in-Err.ensures.cut;
      },
      refl,
    )
