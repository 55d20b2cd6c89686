use Rattle.std.proofs.Common.{◌≡◌, ◌≤◌, ℕ, true, Bool, None, IsSomeAnd, List, length, sym, refl, ap, subst, arith, ◌∙◌}
use Rattle.vd_control.specs.Settings.{HasPairs}
use Rattle.vd_control.specs.declared.settings.Settings.{Settings}
use Rattle.vd_bus.specs.Bus.{BusState, control_queue}
use Rattle.vd_bus.specs.BusRings.{terms}
use Rattle.vd_bus.specs.Device.{IsAttach}
use Rattle.vd_bus.specs.Orders.{Terms}
use Rattle.vd_switch.specs.Kits.{IsKit}
use Rattle.vd_switch.specs.Stills.{Replays}
use Rattle.vd_machine.specs.File.{Plan, view}
use Rattle.vd_machine.proofs.Facts.{few_queues}
use Rattle.vd_play.specs.declared.floor.Lane.{Lane}
use Rattle.vd_play.specs.Commands.{control_commands}
use Rattle.vd_play.specs.CommandProgress.{CommandRelayingBy}
use Rattle.vd_play.specs.CommandProgress.Next.{guests}
use Rattle.vd_play.specs.CommandRenewing.{CommandRenewed}
use Rattle.vd_play.specs.ControlRing.{control_order}
use Rattle.vd_play.specs.ControlRings.{IsControlRing}
use Rattle.vd_play.specs.Epochs.{mode_at, renewed_at}
use Rattle.vd_play.specs.Setting.{setting_of, IsLawful}
use Rattle.vd_play.specs.Setup.{IsReady}
use Rattle.vd_play.proofs.Bounds.{many_epochs}
use Rattle.vd_play.proofs.CommandAttaches.{StandsStill, stands_still, still_pairs, ring_is, rings_left, control_kit_base, end_sized, begins_by, set_by}
use Rattle.vd_play.proofs.CommandBegin.{AsksCommands, asks_commands}
use Rattle.vd_play.proofs.CommandCut.{command_cut_refused}
use Rattle.vd_play.proofs.CommandLanes.{round_of}
use Rattle.vd_play.proofs.Setups.{ordered_control, ready_data}
use Rattle.vd_play.proofs.command_attach.attach_commands.Given.{Over}
use Rattle.vd_play.proofs.command_attach.attach_commands.Goals as goal
use Rattle.vd_play.proofs.command_attach.attach_commands.Goals.{After-settings, After-order-1, In-Ok}

lawful : (g : Over)
    → IsLawful (setting_of g.L.Driver.DriverEnd.driver g.L.Device.DeviceEnd.device g.L.Layout.layout g.G.Guest.party g.V.Device.party)
lawful g = record { layout = g.met.L.Layout.lawful; guest = g.met.G.Guest.lawful; party = g.met.V.Device.lawful }

-- the lane is still
stands : (g : Over) (c : After-settings g) → (guest : _)
    → CommandRenewed
    (setting_of g.L.Driver.DriverEnd.driver g.L.Device.DeviceEnd.device g.L.Layout.layout g.G.Guest.party g.V.Device.party)
    (view c.args.m.now) c.args.epoch c.args.lane.now guest c.args.device.now
    → StandsStill
    (setting_of g.L.Driver.DriverEnd.driver g.L.Device.DeviceEnd.device g.L.Layout.layout g.G.Guest.party g.V.Device.party)
    (view c.args.m.now) c.args.epoch c.args.lane.now c.in-Some.still guest c.args.device.now
stands g c guest p = stands_still _ (view c.args.m.now) c.args.epoch c.args.lane.now c.in-Some.still guest c.args.device.now
    (sym c.take.ensures.value ∙ c.in-Some.is) p

some_stands : (g : Over) (c : After-settings g) → StandsStill
    (setting_of g.L.Driver.DriverEnd.driver g.L.Device.DeviceEnd.device g.L.Layout.layout g.G.Guest.party g.V.Device.party)
    (view c.args.m.now) c.args.epoch c.args.lane.now c.in-Some.still c.requires.lane.0 c.args.device.now
some_stands g c = stands g c c.requires.lane.0 c.requires.lane.1

-- its next shadow ring
next_ring : (g : Over) (c : After-settings g) → IsControlRing g.L.Driver.DriverEnd.driver g.L.Device.DeviceEnd.device g.L.Layout.layout
    (view c.args.m.now) c.args.epoch c.in-Some-pop.ring
next_ring g c = ring_is g.L.Driver.DriverEnd.driver g.L.Device.DeviceEnd.device g.L.Layout.layout (view c.args.m.now) c.args.epoch
    c.args.lane.now.kits.items (some_stands g c).kits c.pop.new.self.items c.in-Some-pop.ring c.in-Some-pop.ensures.items

few : (g : Over) (c : After-settings g) → length c.args.m.now.queues ≤ control_queue
few g c = omega (arith, few_queues c.args.m.now.queues c.args.m.now.counted)

-- the bus is ready for the data queues still
still_ready : (g : Over) (c : After-settings g) → (lanes : List (Lane g.row.L.Denot g.row.L-Driver.Denot g.row.L-Device.Denot))
    → IsReady g.L.Device.DeviceEnd.device g.L.Layout.layout.fresh_base (view c.args.m.now) (mode_at (view c.args.m.now) c.args.epoch)
    c.args.epoch lanes c.args.bus.now
    → IsReady g.L.Device.DeviceEnd.device g.L.Layout.layout.fresh_base (view c.args.m.now) (mode_at (view c.args.m.now) c.args.epoch)
    c.args.epoch lanes c.enable.new.bus
still_ready g c lanes r =
    let e = g.L.Device.DeviceEnd.device in
    let plan : Plan = view c.args.m.now in
    subst (λ (b : BusState). IsReady e g.L.Layout.layout.fresh_base plan (mode_at plan c.args.epoch) c.args.epoch lanes b)
    (sym c.enable.ensures)
    (ready_data e g.L.Layout.layout.fresh_base plan (mode_at plan c.args.epoch) c.args.epoch lanes c.args.bus.now r (few g c)
    c.requires.control)

-- the order is the machine's
ordered : (g : Over) (c : After-order-1 g) → c.order-order.result
    ≡ control_order g.L.Layout.layout (view c.args.m.now) (mode_at (view c.args.m.now) c.args.epoch) c.args.epoch
    c.command_count-count.result
ordered g c =
    let plan : Plan = view c.args.m.now in
    let count : ℕ = c.command_count-count.result in
    c.order-order.ensures ∙ ap (λ (b : BusState). terms b 15 count) c.enable.ensures
    ∙ ordered_control g.L.Device.DeviceEnd.device g.L.Layout.layout.fresh_base plan (mode_at plan c.args.epoch) c.args.epoch
    c.requires.ready.0 c.args.bus.now c.requires.ready.1 (omega (arith, few_queues c.args.m.now.queues c.args.m.now.counted))
    c.requires.control g.L.Layout.layout refl count

-- what the attach asks of the device
asks : (g : Over) (c : After-order-1 g) → AsksCommands g.V.Device.party c.args.device.now c.command_count-count.result
asks g c =
    let plan : Plan = view c.args.m.now in
    let s = setting_of g.L.Driver.DriverEnd.driver g.L.Device.DeviceEnd.device g.L.Layout.layout g.G.Guest.party g.V.Device.party in
    let lane = c.args.lane.now in
    let still = c.in-Some.still in
    let b = stands_still s plan c.args.epoch lane still c.requires.lane.0 c.args.device.now (sym c.take.ensures.value ∙ c.in-Some.is)
    c.requires.lane.1 in
    asks_commands s plan c.args.epoch 0 lane.words still.end still.control still.settings lane.relayed c.requires.lane.0 b.before b.stopped
    c.requires.epoch c.args.device.now c.command_count-count.result b.renewed c.command_count-count.ensures.value

-- ---- a relay

attached : (g : Over) (c : After-order-1 g) (end : g.row.L-Device.Denot) (device : g.row.V.Denot)
    → IsAttach g.L.Device.DeviceEnd.device g.V.Device.party c.order-order.result None end c.args.device.now device
    → IsAttach g.L.Device.DeviceEnd.device g.V.Device.party
    (control_order g.L.Layout.layout (view c.args.m.now) (mode_at (view c.args.m.now) c.args.epoch) c.args.epoch
    c.command_count-count.result) None end c.args.device.now device
attached g c end device a = subst
    (λ (t : Terms). IsAttach g.L.Device.DeviceEnd.device g.V.Device.party t None end c.args.device.now device) (ordered g c) a

relay_made : (g : Over) (c : In-Ok g) → c.in-Some.still.control ≡ true → IsSomeAnd c.in-Ok.shadowing.relay.control (λ y. Replays g.L.Layout.layout
    g.L.Device.DeviceEnd.device g.L.Driver.DriverEnd.driver (renewed_at (view c.args.m.now) c.args.epoch) c.in-Some.still.settings
    c.in-Some.still.end c.in-Some-pop.ring.kit.driver c.in-Some-pop.ring.kit.table c.in-Ok.shadowing.relay.state y
    c.in-Ok.shadowing.relay.counts)
relay_made g c of_control =
    let relay = c.in-Ok.shadowing.relay in
    subst
    (λ (z : Bool). IsSomeAnd relay.control (λ y. Replays g.L.Layout.layout g.L.Device.DeviceEnd.device g.L.Driver.DriverEnd.driver z
    c.in-Some.still.settings c.in-Some.still.end c.in-Some-pop.ring.kit.driver c.in-Some-pop.ring.kit.table relay.state y relay.counts))
    c.is_renewed.ensures (c.in-Ok.ensures.1 of_control)

-- ---- what the calls ask

pub command_count-count-requires-clause-pairs : goal.command_count-count-requires-clause-pairs
command_count-count-requires-clause-pairs g c =
    let at = (goal.at.command_count-count-requires-clause-pairs g c).After-settings in
    subst HasPairs (sym c.settings.ensures)
    (still_pairs _ (view c.args.m.now) c.args.epoch c.args.lane.now c.in-Some.still c.requires.lane.0 c.args.device.now (some_stands g at))

pub to_shadow-requires-clause-pairs : goal.to_shadow-requires-clause-pairs
to_shadow-requires-clause-pairs g c =
    let at = (goal.at.to_shadow-requires-clause-pairs g c).After-settings in
    still_pairs _ (view c.args.m.now) c.args.epoch c.args.lane.now c.in-Some.still c.requires.lane.0 c.args.device.now (some_stands g at)

pub to_shadow-requires-clause-shadow : goal.to_shadow-requires-clause-shadow
to_shadow-requires-clause-shadow g c =
    omega (arith, ap (λ (t : Terms). t.ring) (ordered g (goal.at.to_shadow-requires-clause-shadow g c).After-order-1))

pub to_shadow-requires-clause-kit : goal.to_shadow-requires-clause-kit
to_shadow-requires-clause-kit g c =
    let plan : Plan = view c.args.m.now in
    let at = (goal.at.to_shadow-requires-clause-kit g c).After-settings in
    let b = some_stands g at in
    let still = c.in-Some.still in
    let kit = c.in-Some-pop.ring.kit in (
      plan.size,
      plan.features,
      subst (λ (z : Bool). IsKit g.L.Driver.DriverEnd.driver g.L.Device.DeviceEnd.device g.L.Layout.layout plan.size plan.features z
          kit.driver kit.device kit.table) (sym b.stopped.rests.of_control) (next_ring g at).kit,
      end_sized _ (lawful g) plan c.args.epoch c.args.lane.now.words still.end still.control still.settings c.args.lane.now.relayed
          c.requires.lane.0 b.before b.stopped,
    )

pub to_shadow-requires-clause-stands : goal.to_shadow-requires-clause-stands
to_shadow-requires-clause-stands g c =
    let b = some_stands g (goal.at.to_shadow-requires-clause-stands g c).After-settings in
    (b.stopped.device_view, b.stopped.rests.stands)

pub to_shadow-requires-clause-base : goal.to_shadow-requires-clause-base
to_shadow-requires-clause-base g c =
    let at = goal.at.to_shadow-requires-clause-base g c in
    control_kit_base g.L.Driver.DriverEnd.driver g.L.Device.DeviceEnd.device g.L.Layout.layout (view c.args.m.now) c.args.epoch
    c.in-Some-pop.ring g.met.L.Layout.lawful (next_ring g at.After-settings)
    ∙ sym (ap (λ (t : Terms). t.base.0) (ordered g at.After-order-1))

pub to_shadow-requires-clause-events : goal.to_shadow-requires-clause-events
to_shadow-requires-clause-events g c = (asks g (goal.at.to_shadow-requires-clause-events g c).After-order-1).events

pub to_shadow-requires-clause-chains : goal.to_shadow-requires-clause-chains
to_shadow-requires-clause-chains g c =
    let at = (goal.at.to_shadow-requires-clause-chains g c).After-order-1 in
    omega (arith, (asks g at).chains, ap (λ (t : Terms). t.count) (ordered g at))

pub to_shadow-requires-clause-few : goal.to_shadow-requires-clause-few
to_shadow-requires-clause-few g c =
    let at = (goal.at.to_shadow-requires-clause-few g c).After-order-1 in
    omega (arith, (asks g at).few, ap (λ (t : Terms). t.count) (ordered g at))

pub returns-in-Ok-clause-ready : goal.returns-in-Ok-clause-ready
returns-in-Ok-clause-ready g c = still_ready g (goal.at.returns-in-Ok-clause-ready g c).After-settings

pub returns-in-Ok-clause-ok : goal.returns-in-Ok-clause-ok
returns-in-Ok-clause-ok g c guest p =
    let s = setting_of g.L.Driver.DriverEnd.driver g.L.Device.DeviceEnd.device g.L.Layout.layout g.G.Guest.party g.V.Device.party in
    let plan : Plan = view c.args.m.now in
    let k : ℕ = c.args.epoch in
    let at = goal.at.returns-in-Ok-clause-ok g c in
    let b = stands g at.After-settings guest p in
    let lane = c.args.lane.now in
    let still = c.in-Some.still in
    let ring = c.in-Some-pop.ring in
    let relay = c.in-Ok.shadowing.relay in
    let device' = c.to_shadow.new.device in
    let made = c.in-Ok.ensures in
    let relays = begins_by s (lawful g) plan k lane.words still.end still.control still.settings lane.relayed guest b.before
    c.args.device.now device' ring relay.state relay.counts c.command_count-count.result c.requires.epoch b.stopped b.renewed b.set
    c.command_count-count.ensures.value (next_ring g at.After-settings) made.2 (attached g at.After-order-1 ring.kit.device device' made.4) relay.control
    (relay_made g at.In-Ok b.stopped.rests.of_control) in (
      record {
        held = round_of s plan k 0 lane.words lane.relayed guest device' guests true c.take.new.self
            (record { lane = c.in-Ok.shadowing; words = ring.words }) refl c.take.ensures.after
            (subst (λ (z : Settings). CommandRelayingBy relay.control relay.state.winding s plan guests k 0 lane.words ring.words.words
            relay.state z relay.counts lane.relayed guest device') (sym made.3) relays);
        kits = rings_left g.L.Driver.DriverEnd.driver g.L.Device.DeviceEnd.device g.L.Layout.layout plan k lane.kits.items b.kits
            c.pop.new.self.items ring c.in-Some-pop.ensures.items;
      },
      omega (arith, made.4.noted.counts.0),
    )

pub returns-in-Ok-clause-replayed : goal.returns-in-Ok-clause-replayed
returns-in-Ok-clause-replayed g c =
    let s = setting_of g.L.Driver.DriverEnd.driver g.L.Device.DeviceEnd.device g.L.Layout.layout g.G.Guest.party g.V.Device.party in
    let at = goal.at.returns-in-Ok-clause-replayed g c in
    let guest = c.requires.lane.0 in
    let b = some_stands g at.After-settings in
    let lane = c.args.lane.now in
    let still = c.in-Some.still in
    let relay = c.in-Ok.shadowing.relay in
    set_by s (lawful g) (view c.args.m.now) c.args.epoch lane.words still.end still.control still.settings lane.relayed guest b.before
    c.args.device.now c.to_shadow.new.device c.in-Some-pop.ring relay.state relay.counts c.command_count-count.result c.requires.epoch
    b.stopped b.renewed b.set c.command_count-count.ensures.value (next_ring g at.After-settings) c.in-Ok.ensures.2
    (attached g at.After-order-1 c.in-Some-pop.ring.kit.device c.to_shadow.new.device c.in-Ok.ensures.4) relay.control (relay_made g at.In-Ok b.stopped.rests.of_control)

pub returns-in-Err-clause-ready : goal.returns-in-Err-clause-ready
returns-in-Err-clause-ready g c = still_ready g (goal.at.returns-in-Err-clause-ready g c).After-settings

pub returns-in-Err-clause-cut : goal.returns-in-Err-clause-cut
returns-in-Err-clause-cut g c = λ guest p.
    let s = setting_of g.L.Driver.DriverEnd.driver g.L.Device.DeviceEnd.device g.L.Layout.layout g.G.Guest.party g.V.Device.party in
    command_cut_refused s (lawful g) (view c.args.m.now) c.args.epoch c.args.lane.now guest c.args.device.now c.to_shadow.new.device
    (omega (arith, c.requires.epoch, many_epochs (view c.args.m.now) (length (control_commands (view c.args.m.now))))) p
    c.in-Err.ensures.4
