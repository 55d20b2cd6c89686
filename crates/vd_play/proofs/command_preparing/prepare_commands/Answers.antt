use Rattle.std.proofs.Common.{◌≡◌, ◌<◌, ℕ, Some, length, slice_get, arith, refl}
use Rattle.std.specs.Vec.{with_item}
use Rattle.std.proofs.lemmas.Option.{slice_get_read}
use Rattle.vd_machine.specs.File.{view, Plan}
use Rattle.vd_play.specs.CommandPrepared.{KeepsFirst}
use Rattle.vd_play.specs.Places.{queue_total}
use Rattle.vd_play.specs.Played.{KeepsBench}
use Rattle.vd_play.specs.Prepared.{IsUntouched}
use Rattle.vd_play.specs.Setting.{setting_of}
use Rattle.vd_play.proofs.Benches.{keeps_none, keeps_set, lanes_kept}
use Rattle.vd_play.proofs.CommandPrepared.{has_control, first_set, some_prepared}
use Rattle.vd_play.proofs.Places.{control_within}
use Rattle.vd_play.proofs.Untouched.{untouched_none, untouched_set}
use Rattle.vd_play.proofs.command_preparing.prepare_commands.Given.{Over}
use Rattle.vd_play.proofs.command_preparing.prepare_commands.Goals as goal
use Rattle.vd_play.proofs.command_preparing.prepare_commands.Goals.{After-make_command_lane}

-- the control queue's place is written
within : (g : Over) (c : After-make_command_lane g) → c.len-place.result < queue_total (view c.args.m.now)
within g c = omega (
  arith,
  c.len-place.ensures,
  control_within (view c.args.m.now) (has_control (view c.args.m.now) c.in-Some.script c.in-Some.is),
)

device_at : (g : Over) (c : After-make_command_lane g)
    → slice_get c.args.bench.now.devices.items c.len-place.result ≡ Some c.index_mut.result.now
device_at g c = slice_get_read c.args.bench.now.devices.items _ c.len-place.result c.index_mut.result.now refl
    (omega (arith, within g c, c.requires.parties.devices)) c.index_mut.ensures.value

keeps_place : (g : Over) (c : After-make_command_lane g) → KeepsBench g.V.Device.party (queue_total (view c.args.m.now)) c.args.bench.now
    (record {
      guests = with_item c.args.bench.now.guests c.len-place.result c.make_command_lane.new.guest;
      devices = with_item c.args.bench.now.devices c.len-place.result c.make_command_lane.new.device;
    })
keeps_place g c =
    let m = g.V.Device.party in
    let n : ℕ = queue_total (view c.args.m.now) in
    keeps_set m n c.args.bench.now c.args.bench.now _ c.len-place.result c.make_command_lane.new.guest c.index_mut.result.now
    c.make_command_lane.new.device (within g c) (keeps_none m n c.args.bench.now) refl refl (device_at g c)
    c.make_command_lane.ensures.device.carried

first_place : (g : Over) (c : After-make_command_lane g) → KeepsFirst (length c.args.m.now.queues) c.args.bench.now (record {
  guests = with_item c.args.bench.now.guests c.len-place.result c.make_command_lane.new.guest;
  devices = with_item c.args.bench.now.devices c.len-place.result c.make_command_lane.new.device;
})
first_place g c = first_set (length c.args.m.now.queues) c.len-place.result c.args.bench.now _ c.make_command_lane.new.guest
    c.make_command_lane.new.device c.len-place.ensures refl refl

untouched_place : (g : Over) (c : After-make_command_lane g) → IsUntouched g.G.Guest.party g.V.Device.party c.args.bench.now (record {
  guests = with_item c.args.bench.now.guests c.len-place.result c.make_command_lane.new.guest;
  devices = with_item c.args.bench.now.devices c.len-place.result c.make_command_lane.new.device;
})
untouched_place g c = untouched_set g.G.Guest.party g.V.Device.party c.args.bench.now c.args.bench.now _ c.len-place.result
    c.make_command_lane.new.guest c.index_mut.result.now c.make_command_lane.new.device
    (untouched_none g.G.Guest.party g.V.Device.party c.args.bench.now c.requires.unused) refl refl
    c.make_command_lane.ensures.guest (device_at g c) c.make_command_lane.ensures.device

pub returns-in_err-lane-clause-keeps : goal.returns-in_err-lane-clause-keeps
returns-in_err-lane-clause-keeps g c = keeps_place g (goal.at.returns-in_err-lane-clause-keeps g c).After-make_command_lane

pub returns-in_err-lane-clause-first : goal.returns-in_err-lane-clause-first
returns-in_err-lane-clause-first g c = first_place g (goal.at.returns-in_err-lane-clause-first g c).After-make_command_lane

pub returns-in_err-lane-clause-untouched : goal.returns-in_err-lane-clause-untouched
returns-in_err-lane-clause-untouched g c = untouched_place g (goal.at.returns-in_err-lane-clause-untouched g c).After-make_command_lane

pub returns-clause-keeps : goal.returns-clause-keeps
returns-clause-keeps g c = keeps_place g (goal.at.returns-clause-keeps g c).After-make_command_lane

pub returns-clause-first : goal.returns-clause-first
returns-clause-first g c = first_place g (goal.at.returns-clause-first g c).After-make_command_lane

pub returns-clause-untouched : goal.returns-clause-untouched
returns-clause-untouched g c = untouched_place g (goal.at.returns-clause-untouched g c).After-make_command_lane

pub returns-clause-ok : goal.returns-clause-ok
returns-clause-ok g c =
    let plan : Plan = view c.args.m.now in
    let n : ℕ = queue_total plan in
    let keeps = keeps_place g (goal.at.returns-clause-ok g c).After-make_command_lane in
    some_prepared
    (setting_of g.L.Driver.DriverEnd.driver g.L.Device.DeviceEnd.device g.L.Layout.layout g.G.Guest.party g.V.Device.party)
    plan c.in_ok-lane.lane c.in-Some.script c.args.bench.now _ c.len-place.result c.make_command_lane.new.guest
    c.make_command_lane.new.device c.in-Some.is c.len-place.ensures c.requires.parties
    (lanes_kept g.V.Device.party n c.args.bench.now _ n keeps c.requires.parties) refl refl c.in_ok-lane.ensures.ok
    c.in_ok-lane.ensures.none
