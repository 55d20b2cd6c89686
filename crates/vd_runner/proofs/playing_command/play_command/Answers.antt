use Rattle.std.proofs.Common.{List, ℕ, Option, true, false, length, subst, refl, inr, ◌∙◌}
use Rattle.vd_machine.specs.File.{view}
use Rattle.vd_packed.specs.DeviceEnd.{packed_device}
use Rattle.vd_packed.specs.DriverEnd.{packed_driver}
use Rattle.vd_packed.specs.laws.PackedLayout.{packed_layout}
use Rattle.vd_split.specs.DeviceEnd.{split_device}
use Rattle.vd_split.specs.DriverEnd.{split_driver}
use Rattle.vd_split.specs.laws.SplitLayout.{split_layout}
use Rattle.vd_play.specs.Setting.{setting_of}
use Rattle.vd_runner.specs.declared.status.Status.{Status}
use Rattle.vd_runner.specs.Layouts.{guests_for, devices_for}
use Rattle.vd_runner.specs.Outcome.{PlaysTo}
use Rattle.vd_runner.specs.Reading.{ReadsMachine, RefusesToRead}
use Rattle.vd_runner.proofs.Outcome.{play_expected, refusal_expected, layout_read, by_layout}
use Rattle.vd_runner.proofs.playing_command.play_command.Goals as goal

pub returns-in-Err-clause-complete : goal.returns-in-Err-clause-complete
returns-in-Err-clause-complete g c bytes told calm quiet still still_packed =
    let rest = g.S.Source.left c.read_machine.new.source in
    let before = g.S.Source.faults c.args.source.now in
    let after = g.S.Source.faults c.read_machine.new.source in
    refusal_expected bytes (guests_for bytes c.args.split.now c.args.packed.now) (devices_for bytes c.args.split.now c.args.packed.now) rest
    before after c.in-Err.status calm
    (subst (λ (left : Option (List ℕ)). RefusesToRead left rest before after c.in-Err.status) told c.in-Err.ensures.err)

pub returns-then-machine-clause-complete : goal.returns-then-machine-clause-complete
returns-then-machine-clause-complete g c bytes told calm quiet still_split still =
    let read = subst (λ (left : Option (List ℕ)). ReadsMachine left (g.S.Source.left c.read_machine.new.source) (view c.in-Ok.machine))
    told c.in-Ok.ensures.ok in
    let split = c.args.split.now in let packed = c.args.packed.now in
    by_layout bytes true (length split.guests.items) (length split.devices.items) (length packed.guests.items)
    (length packed.devices.items) c.play_on.result (layout_read bytes _ (view c.in-Ok.machine) read ∙ c.if-machine.true)
    (play_expected (setting_of packed_driver packed_device packed_layout g.GP.Guest.party g.VP.Device.party) bytes _
    (view c.in-Ok.machine) c.args.brief packed c.play_on.new.bench _ _ _ _ c.play_on.result quiet still read c.play_on.ensures.answer)

pub returns-clause-complete : goal.returns-clause-complete
returns-clause-complete g c bytes told calm quiet still still_packed =
    let read = subst (λ (left : Option (List ℕ)). ReadsMachine left (g.S.Source.left c.read_machine.new.source) (view c.in-Ok.machine))
    told c.in-Ok.ensures.ok in
    let split = c.args.split.now in let packed = c.args.packed.now in
    by_layout bytes false (length split.guests.items) (length split.devices.items) (length packed.guests.items)
    (length packed.devices.items) c.play_on-else-machine.result (layout_read bytes _ (view c.in-Ok.machine) read ∙ c.if-machine.false)
    (play_expected (setting_of split_driver split_device split_layout g.GS.Guest.party g.VS.Device.party) bytes _
    (view c.in-Ok.machine) c.args.brief split c.play_on-else-machine.new.bench _ _ _ _ c.play_on-else-machine.result quiet still read
    c.play_on-else-machine.ensures.answer)

pub returns-then-machine-clause-memory : goal.returns-then-machine-clause-memory
returns-then-machine-clause-memory g c = λ is. inr (record {
  plan = view c.in-Ok.machine;
  read = c.in-Ok.ensures.ok;
  holds = record {
    split = λ no. absurd (cc (c.if-machine.true, no));
    packed = λ yes. (
      (subst (λ (s : Status). PlaysTo
          (setting_of packed_driver packed_device packed_layout g.GP.Guest.party g.VP.Device.party) (view c.in-Ok.machine) c.args.brief
          c.args.packed.now c.play_on.new.bench (g.K.Sink.held c.args.sink.now) (g.K.Sink.held c.play_on.new.sink)
          (g.K.Sink.faults c.args.sink.now) (g.K.Sink.faults c.play_on.new.sink) s) is c.play_on.ensures.answer).0,
      refl,
    );
  };
})

pub returns-clause-memory : goal.returns-clause-memory
returns-clause-memory g c = λ is. inr (record {
  plan = view c.in-Ok.machine;
  read = c.in-Ok.ensures.ok;
  holds = record {
    split = λ no. (
      (subst (λ (s : Status). PlaysTo
          (setting_of split_driver split_device split_layout g.GS.Guest.party g.VS.Device.party) (view c.in-Ok.machine) c.args.brief
          c.args.split.now c.play_on-else-machine.new.bench (g.K.Sink.held c.args.sink.now)
          (g.K.Sink.held c.play_on-else-machine.new.sink) (g.K.Sink.faults c.args.sink.now)
          (g.K.Sink.faults c.play_on-else-machine.new.sink) s) is c.play_on-else-machine.ensures.answer).0,
      refl,
    );
    packed = λ yes. absurd (cc (c.if-machine.false, yes));
  };
})
