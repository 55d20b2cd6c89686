use Rattle.std.proofs.Common.{◌≡◌, ◌∙◌, Some, sym, ap}
use Rattle.std.proofs.lemmas.Bool.{false≢true}
use Rattle.std.specs.Option.{option_copied_mut}
use Rattle.vd_play.specs.Setting.{setting_of, IsLawful}
use Rattle.vd_play.proofs.CommandTurns.{winds_same, controls, is_live, can_serve, live_relay, holds_control, device_holds, goes_on, goes_done}
use Rattle.vd_play.proofs.command_rounds.command_device.Given.{Over}
use Rattle.vd_play.proofs.command_rounds.command_device.Goals as goal
use Rattle.vd_play.proofs.command_rounds.command_device.Goals.{In-Some}

lawful : (g : Over)
    → IsLawful (setting_of g.L.Driver.DriverEnd.driver g.L.Device.DeviceEnd.device g.L.Layout.layout g.G.Guest.party g.V.Device.party)
lawful g = record { layout = g.met.L.Layout.lawful; guest = g.met.G.Guest.lawful; party = g.met.V.Device.lawful }

relay_is : (g : Over) (c : In-Some g) → c.args.lane.now.relaying ≡ Some c.in-Some.relaying.now
relay_is g c = sym c.as_mut.ensures.value ∙ ap option_copied_mut c.in-Some.is

pub device_turn-made-requires-clause-on : goal.device_turn-made-requires-clause-on
device_turn-made-requires-clause-on g c =
    let s = setting_of g.L.Driver.DriverEnd.driver g.L.Device.DeviceEnd.device g.L.Layout.layout g.G.Guest.party g.V.Device.party in
    let at = (goal.at.device_turn-made-requires-clause-on g c).In-Some in
    let r = c.requires.lane in
    let lane = c.args.lane.now in
    can_serve s r.0 r.2 r.3 lane.words lane.relayed r.4 c.args.device.now r.1 lane.still c.in-Some.relaying.now lane.relaying
    (relay_is g at) r.5.held (sym c.winds.ensures ∙ c.if-winds.false)

pub device_turn-made-requires-clause-live : goal.device_turn-made-requires-clause-live
device_turn-made-requires-clause-live g c =
    let s = setting_of g.L.Driver.DriverEnd.driver g.L.Device.DeviceEnd.device g.L.Layout.layout g.G.Guest.party g.V.Device.party in
    let at = (goal.at.device_turn-made-requires-clause-live g c).In-Some in
    let r = c.requires.lane in
    let lane = c.args.lane.now in
    is_live s r.0 r.2 r.3 lane.words lane.relayed r.4 c.args.device.now r.1 lane.still c.in-Some.relaying.now lane.relaying
    (relay_is g at) r.5.held (sym c.winds.ensures ∙ c.if-winds.false)

pub begin_wind_up-requires-clause-commands : goal.begin_wind_up-requires-clause-commands
begin_wind_up-requires-clause-commands g c =
    let s = setting_of g.L.Driver.DriverEnd.driver g.L.Device.DeviceEnd.device g.L.Layout.layout g.G.Guest.party g.V.Device.party in
    let at = (goal.at.begin_wind_up-requires-clause-commands g c).In-Some in
    let r = c.requires.lane in
    let lane = c.args.lane.now in
    holds_control s r.0 r.2 r.3 lane.words lane.relayed r.4 c.args.device.now r.1 lane.still c.in-Some.relaying.now lane.relaying
    (relay_is g at) r.5.held (sym c.winds.ensures ∙ c.if-winds.false)

pub begin_wind_up-requires-clause-live : goal.begin_wind_up-requires-clause-live
begin_wind_up-requires-clause-live g c =
    let s = setting_of g.L.Driver.DriverEnd.driver g.L.Device.DeviceEnd.device g.L.Layout.layout g.G.Guest.party g.V.Device.party in
    let at = (goal.at.begin_wind_up-requires-clause-live g c).In-Some in
    let r = c.requires.lane in
    let lane = c.args.lane.now in
    live_relay s r.0 r.2 r.3 lane.words lane.relayed r.4 c.args.device.now r.1 lane.still c.in-Some.relaying.now lane.relaying
    (relay_is g at) r.5.held (sym c.winds.ensures ∙ c.if-winds.false)

pub begin_wind_up-requires-clause-held : goal.begin_wind_up-requires-clause-held
begin_wind_up-requires-clause-held g c =
    let s = setting_of g.L.Driver.DriverEnd.driver g.L.Device.DeviceEnd.device g.L.Layout.layout g.G.Guest.party g.V.Device.party in
    let at = (goal.at.begin_wind_up-requires-clause-held g c).In-Some in
    let r = c.requires.lane in
    let lane = c.args.lane.now in
    device_holds s r.0 r.2 r.3 lane.words lane.relayed r.4 c.args.device.now r.1 lane.still c.in-Some.relaying.now lane.relaying
    (relay_is g at) r.5.held (sym c.winds.ensures ∙ c.if-winds.false) (lawful g) c.device_turn-made.new.words
    c.device_turn-made.new.device c.device_turn-made.result c.device_turn-made.ensures.few c.device_turn-made.ensures.turn

pub returns-then-done-clause-goes : goal.returns-then-done-clause-goes
returns-then-done-clause-goes g c = λ plan on k n guest h.
    let s = setting_of g.L.Driver.DriverEnd.driver g.L.Device.DeviceEnd.device g.L.Layout.layout g.G.Guest.party g.V.Device.party in
    let at = (goal.at.returns-then-done-clause-goes g c).In-Some in
    let lane = c.args.lane.now in
    let off = sym c.winds.ensures ∙ c.if-winds.false in
    let x = c.in-Some.relaying.now in
    let e = c.begin_wind_up.ensures in
    let y = controls s plan k n lane.words lane.relayed guest c.args.device.now on lane.still x lane.relaying (relay_is g at) h.held in
    let z = goes_done s plan k n lane.words lane.relayed guest c.args.device.now on lane.still x lane.relaying (relay_is g at) h.held off
    (lawful g) c.device_turn-made.new.words c.device_turn-made.new.device c.device_turn-made.result c.device_turn-made.ensures.few
    c.device_turn-made.ensures.turn c.begin_wind_up.new.self c.begin_wind_up.new.device (c.done.ensures.0 c.if-done.true) e.suspended
    (e.commands y.0 y.1) (e.as_far y.0 y.1) e.live e.winding e.target e.counts e.settings in
    (record { held = z.0; kits = h.kits }, z.1)

pub returns-else-done-clause-goes : goal.returns-else-done-clause-goes
returns-else-done-clause-goes g c = λ plan on k n guest h.
    let s = setting_of g.L.Driver.DriverEnd.driver g.L.Device.DeviceEnd.device g.L.Layout.layout g.G.Guest.party g.V.Device.party in
    let at = (goal.at.returns-else-done-clause-goes g c).In-Some in
    let lane = c.args.lane.now in
    let off = sym c.winds.ensures ∙ c.if-winds.false in
    let z = goes_on s plan k n lane.words lane.relayed guest c.args.device.now on lane.still c.in-Some.relaying.now lane.relaying
    (relay_is g at) h.held off (lawful g) c.device_turn-made.new.words c.device_turn-made.new.device c.device_turn-made.result
    c.device_turn-made.ensures.few c.device_turn-made.ensures.turn
    (λ d. false≢true (sym c.if-done.false ∙ c.done.ensures.1 d)) in
    (record { held = z.0; kits = h.kits }, z.1)

pub returns-then-done-clause-replayed : goal.returns-then-done-clause-replayed
returns-then-done-clause-replayed g c =
    let s = setting_of g.L.Driver.DriverEnd.driver g.L.Device.DeviceEnd.device g.L.Layout.layout g.G.Guest.party g.V.Device.party in
    let at = (goal.at.returns-then-done-clause-replayed g c).In-Some in
    let r = c.requires.lane in
    let lane = c.args.lane.now in
    let off = sym c.winds.ensures ∙ c.if-winds.false in
    let x = c.in-Some.relaying.now in
    let e = c.begin_wind_up.ensures in
    let y = controls s r.0 r.2 r.3 lane.words lane.relayed r.4 c.args.device.now r.1 lane.still x lane.relaying (relay_is g at) r.5.held in
    winds_same s r.0 r.2 r.3 lane.words lane.relayed r.4 c.args.device.now r.1 lane.still x lane.relaying (relay_is g at) r.5.held off
    c.begin_wind_up.new.self (e.commands y.0 y.1) (e.as_far y.0 y.1)
