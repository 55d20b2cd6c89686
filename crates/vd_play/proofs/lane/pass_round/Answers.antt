use Rattle.std.proofs.Common.{rules, ◌≡◌, ◌+◌, is_some, true, false}
use Rattle.vd_play.specs.Setting.{setting_of}
use Rattle.vd_play.proofs.Going.{goes_on}
use Rattle.vd_play.proofs.Held.{suspends, waits_with, passing_of, in_epoch_none, can_drive}
use Rattle.vd_play.proofs.lane.pass_round.Goals as goal

pub guest_turn-by_guest-requires : goal.guest_turn-by_guest-requires
guest_turn-by_guest-requires g c =
    let s = setting_of g.L.Driver.DriverEnd.driver g.L.Device.DeviceEnd.device g.L.Layout.layout g.G.Guest.party g.V.Device.party in
    let r = c.requires.lane in
    let lane = c.args.lane.now in record {
      on = can_drive s r.0 r.1 r.2 r.3 r.4 lane.words lane.still lane.relaying lane.relayed c.args.guest.now c.args.device.now r.5.held;
    }

pub device_turn-by_device-requires-clause-live : goal.device_turn-by_device-requires-clause-live
device_turn-by_device-requires-clause-live g c =
    let s = setting_of g.L.Driver.DriverEnd.driver g.L.Device.DeviceEnd.device g.L.Layout.layout g.G.Guest.party g.V.Device.party in
    let r = c.requires.lane in
    let lane = c.args.lane.now in
    let none : is_some lane.still ≡ false = search rules in
    (passing_of s r.0 r.1 r.2 r.3 r.4 lane.words lane.still lane.relaying lane.relayed c.args.guest.now c.args.device.now none
    c.requires.alone r.5.held).1.serves.live

pub device_turn-by_device-requires-clause-on : goal.device_turn-by_device-requires-clause-on
device_turn-by_device-requires-clause-on g c =
    let s = setting_of g.L.Driver.DriverEnd.driver g.L.Device.DeviceEnd.device g.L.Layout.layout g.G.Guest.party g.V.Device.party in
    let r = c.requires.lane in
    let lane = c.args.lane.now in
    let none : is_some lane.still ≡ false = search rules in
    let p = (passing_of s r.0 r.1 r.2 r.3 r.4 lane.words lane.still lane.relaying lane.relayed c.args.guest.now c.args.device.now none
    c.requires.alone r.5.held).1 in
    let t = c.guest_turn-by_guest.ensures.turn p.view p.device_view p.kept.driven.ring p.kept.driven.part.holds in
    (t.run.view, p.device_view, t.run.ring, p.serves.holds)

pub suspend-requires-clause-held : goal.suspend-requires-clause-held
suspend-requires-clause-held g c =
    let s = setting_of g.L.Driver.DriverEnd.driver g.L.Device.DeviceEnd.device g.L.Layout.layout g.G.Guest.party g.V.Device.party in
    let r = c.requires.lane in
    let lane = c.args.lane.now in
    let none : is_some lane.still ≡ false = search rules in
    let p = (passing_of s r.0 r.1 r.2 r.3 r.4 lane.words lane.still lane.relaying lane.relayed c.args.guest.now c.args.device.now none
    c.requires.alone r.5.held).1 in
    let t = c.guest_turn-by_guest.ensures.turn p.view p.device_view p.kept.driven.ring p.kept.driven.part.holds in
    let u = c.device_turn-by_device.ensures.turn t.run.view p.device_view t.run.ring p.serves.holds in
    (u.run.view, u.run.holds)

pub returns-then-is_some-clause-goes : goal.returns-then-is_some-clause-goes
returns-then-is_some-clause-goes g c = λ plan q on k r h.
    let s = setting_of g.L.Driver.DriverEnd.driver g.L.Device.DeviceEnd.device g.L.Layout.layout g.G.Guest.party g.V.Device.party in
    let lane = c.args.lane.now in
    let some : is_some lane.still ≡ true = search rules in
    let x = waits_with s plan q (record { layout = g.met.L.Layout.lawful; guest = g.met.G.Guest.lawful; party = g.met.V.Device.lawful })
    on k r c.guest_turn-by_guest.result c.guest_turn-by_guest.ensures.few lane.words _ lane.still lane.relaying lane.relayed
    c.args.guest.now _ c.args.device.now some c.guest_turn-by_guest.ensures.ring h.held c.guest_turn-by_guest.ensures.turn in
    (record { held = x.0; kits = h.kits; plain = h.plain }, x.1)

pub returns-then-not-done-clause-goes : goal.returns-then-not-done-clause-goes
returns-then-not-done-clause-goes g c = λ plan q on k r h.
    let s = setting_of g.L.Driver.DriverEnd.driver g.L.Device.DeviceEnd.device g.L.Layout.layout g.G.Guest.party g.V.Device.party in
    let lane = c.args.lane.now in
    let none : is_some lane.still ≡ false = search rules in
    let f = passing_of s plan q on k r lane.words lane.still lane.relaying lane.relayed c.args.guest.now c.args.device.now none
    c.requires.alone h.held in
    let p = f.1 in
    let t = c.guest_turn-by_guest.ensures.turn p.view p.device_view p.kept.driven.ring p.kept.driven.part.holds in
    let u = c.device_turn-by_device.ensures.turn t.run.view p.device_view t.run.ring p.serves.holds in
    let live : g.V.Device.party.is_done c.device_turn-by_device.new.device → ⊥ = λ x. cc (c.done.ensures.1 x, c.if-not-done.true) in
    let x = goes_on s (record { layout = g.met.L.Layout.lawful; guest = g.met.G.Guest.lawful; party = g.met.V.Device.lawful }) plan q k
    r _ _ c.guest_turn-by_guest.ensures.few c.device_turn-by_device.ensures.few _ _ _ lane.relayed _ _ _ _ p
    c.guest_turn-by_guest.ensures.ring c.device_turn-by_device.ensures.ring t u live in
    let held = in_epoch_none s plan q on k (r + 1) c.device_turn-by_device.new.words lane.still lane.relaying lane.relayed
    c.guest_turn-by_guest.new.guest c.device_turn-by_device.new.device none c.requires.alone f.0 x.0 in
    (record { held = held; kits = h.kits; plain = h.plain }, x.1)

pub returns-clause-goes : goal.returns-clause-goes
returns-clause-goes g c = λ plan q on k r h.
    let s = setting_of g.L.Driver.DriverEnd.driver g.L.Device.DeviceEnd.device g.L.Layout.layout g.G.Guest.party g.V.Device.party in
    let lane = c.args.lane.now in
    let none : is_some lane.still ≡ false = search rules in
    let p = (passing_of s plan q on k r lane.words lane.still lane.relaying lane.relayed c.args.guest.now c.args.device.now none
    c.requires.alone h.held).1 in
    let t = c.guest_turn-by_guest.ensures.turn p.view p.device_view p.kept.driven.ring p.kept.driven.part.holds in
    let u = c.device_turn-by_device.ensures.turn t.run.view p.device_view t.run.ring p.serves.holds in
    let done : g.V.Device.party.is_done c.device_turn-by_device.new.device = search rules in
    let x = suspends s plan q (record { layout = g.met.L.Layout.lawful; guest = g.met.G.Guest.lawful; party = g.met.V.Device.lawful })
    k r _ _ c.guest_turn-by_guest.ensures.few c.device_turn-by_device.ensures.few _ _ _ _ lane.relaying lane.relayed _ _ _ _ _ on p
    c.guest_turn-by_guest.ensures.ring c.device_turn-by_device.ensures.ring t u done c.requires.alone c.suspend.ensures in
    (record { held = x.0; kits = h.kits; plain = h.plain }, x.1)
