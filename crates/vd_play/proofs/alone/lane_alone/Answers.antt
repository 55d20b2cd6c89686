use Rattle.std.proofs.Common.{rules, ◌≡◌, ◌+◌, is_some, true, false, ap, arith}
use Rattle.vd_play.specs.Setting.{setting_of, IsLawful}
use Rattle.vd_play.proofs.Held.{passing_of, in_epoch_stopped}
use Rattle.vd_play.proofs.Low.{low_few, passing_low, stopped_low}
use Rattle.vd_play.proofs.alone.lane_alone.Goals as goal

pub returns-then-is_some-clause-ends : goal.returns-then-is_some-clause-ends
returns-then-is_some-clause-ends g c = λ plan q k h. ((0, h), omega arith)

pub pass_alone-requires : goal.pass_alone-requires
pass_alone-requires g c =
    let s = setting_of g.L.Driver.DriverEnd.driver g.L.Device.DeviceEnd.device g.L.Layout.layout g.G.Guest.party g.V.Device.party in
    let r = c.requires.lane in
    let lane = c.args.lane.now in
    let none : is_some lane.still ≡ false = search rules in
    let p = passing_of s r.0 r.1 true r.2 0 lane.words lane.still lane.relaying lane.relayed c.args.guest.now c.args.device.now none
    c.requires.alone r.3.held in record { passing = (r.0, r.1, r.2, lane.relayed, p.1) }

pub returns-clause-still : goal.returns-clause-still
returns-clause-still g c =
    let s = setting_of g.L.Driver.DriverEnd.driver g.L.Device.DeviceEnd.device g.L.Layout.layout g.G.Guest.party g.V.Device.party in
    let r = c.requires.lane in
    let lane = c.args.lane.now in
    let none : is_some lane.still ≡ false = search rules in
    let p = passing_of s r.0 r.1 true r.2 0 lane.words lane.still lane.relaying lane.relayed c.args.guest.now c.args.device.now none
    c.requires.alone r.3.held in
    let z = c.pass_alone.ensures.ends r.0 r.1 r.2 lane.relayed p.1 in
    ap is_some z.0.2

pub returns-clause-ends : goal.returns-clause-ends
returns-clause-ends g c = λ plan q k h.
    let s = setting_of g.L.Driver.DriverEnd.driver g.L.Device.DeviceEnd.device g.L.Layout.layout g.G.Guest.party g.V.Device.party in
    let lane = c.args.lane.now in
    let none : is_some lane.still ≡ false = search rules in
    let p = passing_of s plan q true k 0 lane.words lane.still lane.relaying lane.relayed c.args.guest.now c.args.device.now none
    c.requires.alone h.held in
    let z = c.pass_alone.ensures.ends plan q k lane.relayed p.1 in
    let x = in_epoch_stopped s plan q true k z.0.0 c.pass_alone.new.words c.pass_alone.new.still lane.relaying lane.relayed
    c.pass_alone.new.guest c.pass_alone.new.device z.0.1 z.0.2 c.requires.alone z.0.3 in
    ((z.0.0, record { held = x; kits = h.kits; plain = h.plain }), omega (arith, z.1))

pub overflow_add-before : goal.overflow_add-before
overflow_add-before g c =
    let s = setting_of g.L.Driver.DriverEnd.driver g.L.Device.DeviceEnd.device g.L.Layout.layout g.G.Guest.party g.V.Device.party in
    let law : IsLawful s = record { layout = g.met.L.Layout.lawful; guest = g.met.G.Guest.lawful; party = g.met.V.Device.lawful } in
    let r = c.requires.lane in
    let lane = c.args.lane.now in
    let none : is_some lane.still ≡ false = search rules in
    let p = passing_of s r.0 r.1 true r.2 0 lane.words lane.still lane.relaying lane.relayed c.args.guest.now c.args.device.now none
    c.requires.alone r.3.held in
    let low = low_few s r.0 r.1 lane.relayed c.args.guest.now c.args.device.now (passing_low s law r.0 r.1 r.2 0 lane.words lane.relayed
    c.args.guest.now c.args.device.now p.1) in
    omega (arith, low, c.accesses.ensures, c.accesses-2.ensures)

pub overflow_add-result : goal.overflow_add-result
overflow_add-result g c =
    let s = setting_of g.L.Driver.DriverEnd.driver g.L.Device.DeviceEnd.device g.L.Layout.layout g.G.Guest.party g.V.Device.party in
    let law : IsLawful s = record { layout = g.met.L.Layout.lawful; guest = g.met.G.Guest.lawful; party = g.met.V.Device.lawful } in
    let r = c.requires.lane in
    let lane = c.args.lane.now in
    let none : is_some lane.still ≡ false = search rules in
    let p = passing_of s r.0 r.1 true r.2 0 lane.words lane.still lane.relaying lane.relayed c.args.guest.now c.args.device.now none
    c.requires.alone r.3.held in
    let z = c.pass_alone.ensures.ends r.0 r.1 r.2 lane.relayed p.1 in
    let low = low_few s r.0 r.1 lane.relayed c.pass_alone.new.guest c.pass_alone.new.device
    (stopped_low s law r.0 r.1 (r.2 + 1) z.0.0 c.pass_alone.new.words z.0.1 lane.relayed c.pass_alone.new.guest c.pass_alone.new.device
    z.0.3) in
    omega (arith, low, c.accesses-3.ensures, c.accesses-4.ensures)

pub returns-clause-few : goal.returns-clause-few
returns-clause-few g c =
    let s = setting_of g.L.Driver.DriverEnd.driver g.L.Device.DeviceEnd.device g.L.Layout.layout g.G.Guest.party g.V.Device.party in
    let law : IsLawful s = record { layout = g.met.L.Layout.lawful; guest = g.met.G.Guest.lawful; party = g.met.V.Device.lawful } in
    let r = c.requires.lane in
    let lane = c.args.lane.now in
    let none : is_some lane.still ≡ false = search rules in
    let p = passing_of s r.0 r.1 true r.2 0 lane.words lane.still lane.relaying lane.relayed c.args.guest.now c.args.device.now none
    c.requires.alone r.3.held in
    let z = c.pass_alone.ensures.ends r.0 r.1 r.2 lane.relayed p.1 in
    let low = low_few s r.0 r.1 lane.relayed c.pass_alone.new.guest c.pass_alone.new.device
    (stopped_low s law r.0 r.1 (r.2 + 1) z.0.0 c.pass_alone.new.words z.0.1 lane.relayed c.pass_alone.new.guest c.pass_alone.new.device
    z.0.3) in
    omega (arith, low, c.accesses-3.ensures, c.accesses-4.ensures)
