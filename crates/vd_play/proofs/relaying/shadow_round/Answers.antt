use Rattle.std.proofs.lemmas.Bool.{false≢true}
use Rattle.std.proofs.Common.{◌≡◌, true, sym, ◌∙◌, ap, arith}
use Rattle.std.specs.Option.{option_copied_mut}
use Rattle.vd_relay.specs.Stages.{is_rested}
use Rattle.vd_play.specs.Setting.{setting_of, IsLawful}
use Rattle.vd_play.proofs.ShadowRounds.{works_by}
use Rattle.vd_play.proofs.ShadowLanes.{some_in, relaying_of}
use Rattle.vd_play.proofs.ShadowTurns.{GuestTurned, RelayTurned, DeviceTurned, is_plain, can_relay, few_relayed, holds_after, goes_rested, goes_winding, is_live, can_serve, device_holds, device_carries, goes_shadowing, goes_done}
use Rattle.vd_play.proofs.relaying.shadow_round.Given.{Over}
use Rattle.vd_play.proofs.relaying.shadow_round.Goals as goal
use Rattle.vd_play.proofs.relaying.shadow_round.Goals.{In-Some, After-relay_turn-by_relay, After-device_turn-by_device, then-done, else-done}

lawful : (g : Over)
    → IsLawful (setting_of g.L.Driver.DriverEnd.driver g.L.Device.DeviceEnd.device g.L.Layout.layout g.G.Guest.party g.V.Device.party)
lawful g = record { layout = g.met.L.Layout.lawful; guest = g.met.G.Guest.lawful; party = g.met.V.Device.lawful }

-- ---- what the three turns leave

by_guest : (g : Over) (c : In-Some g) → GuestTurned
    (setting_of g.L.Driver.DriverEnd.driver g.L.Device.DeviceEnd.device g.L.Layout.layout g.G.Guest.party g.V.Device.party)
    c.args.lane.now c.in-Some.relaying.now c.guest_turn-by_guest.new.words c.args.guest.now c.guest_turn-by_guest.new.guest
    c.guest_turn-by_guest.result
by_guest g c = record {
  is = sym c.as_mut.ensures.value ∙ ap option_copied_mut c.in-Some.is;
  few = c.guest_turn-by_guest.ensures.few;
  ring = c.guest_turn-by_guest.ensures.ring;
  turns = c.guest_turn-by_guest.ensures.turn;
}

by_relay : (g : Over) (c : After-relay_turn-by_relay g) → RelayTurned
    (setting_of g.L.Driver.DriverEnd.driver g.L.Device.DeviceEnd.device g.L.Layout.layout g.G.Guest.party g.V.Device.party)
    c.args.tree.now.mappings c.guest_turn-by_guest.new.words c.relay_turn-by_relay.new.words c.in-Some.relaying.now
    (record { lane = c.relay_turn-by_relay.new.lane; words = c.relay_turn-by_relay.new.shadow }) c.relay_turn-by_relay.result
by_relay g c = record {
  few = c.relay_turn-by_relay.ensures.few;
  ring = c.relay_turn-by_relay.ensures.ring;
  plain = c.relay_turn-by_relay.ensures.plain;
  turns = c.relay_turn-by_relay.ensures.turn;
}

by_device : (g : Over) (c : After-device_turn-by_device g) → DeviceTurned
    (setting_of g.L.Driver.DriverEnd.driver g.L.Device.DeviceEnd.device g.L.Layout.layout g.G.Guest.party g.V.Device.party)
    c.relay_turn-by_relay.new.shadow c.device_turn-by_device.new.words c.args.device.now c.device_turn-by_device.new.device
    c.device_turn-by_device.result
by_device g c = record { few = c.device_turn-by_device.ensures.few; turns = c.device_turn-by_device.ensures.turn }

-- ---- before a turn

pub guest_turn-by_guest-requires : goal.guest_turn-by_guest-requires
guest_turn-by_guest-requires g c =
    let s = setting_of g.L.Driver.DriverEnd.driver g.L.Device.DeviceEnd.device g.L.Layout.layout g.G.Guest.party g.V.Device.party in
    let q = c.requires.lane in
    let some = some_in c.args.lane.now.relaying c.requires.relayed in
    let h = relaying_of s q.0 q.1 q.3 q.4 c.args.lane.now.words some.0 c.args.lane.now.relayed c.args.guest.now c.args.device.now q.2
    c.args.lane.now.still c.args.lane.now.relaying some.1 q.6.held in
    let p = works_by s q.0 q.1 q.3 q.4 _ _ _ _ _ _ _ _ h.2 in
    record { on = (p.view, p.device_view, p.kept.driven.ring, p.kept.driven.part.holds) }

pub relay_turn-by_relay-requires-clause-on : goal.relay_turn-by_relay-requires-clause-on
relay_turn-by_relay-requires-clause-on g c =
    let at = (goal.at.relay_turn-by_relay-requires-clause-on g c).In-Some in
    can_relay (lawful g) c.requires.lane.6 c.requires.lane.5 (by_guest g at)

pub relay_turn-by_relay-requires-clause-plain : goal.relay_turn-by_relay-requires-clause-plain
relay_turn-by_relay-requires-clause-plain g c =
    let at = (goal.at.relay_turn-by_relay-requires-clause-plain g c).In-Some in
    is_plain (lawful g) c.requires.lane.6 c.requires.lane.5 (by_guest g at)

pub overflow_add-lane : goal.overflow_add-lane
overflow_add-lane g c =
    let at = goal.at.overflow_add-lane g c in
    omega (arith, few_relayed (lawful g) c.requires.lane.6 c.requires.lane.5 (by_guest g at.In-Some), c.relay_turn-by_relay.ensures.few)

pub stop-requires : goal.stop-requires
stop-requires g c =
    let at = goal.at.stop-requires g c in
    let rests : is_rested c.relay_turn-by_relay.new.lane.relay.state.stage ≡ true = sym c.rested.ensures ∙ c.if-rested.true in
    record {
      rested = (
        rests,
        c.relay_turn-by_relay.ensures.plain,
        holds_after (lawful g) c.requires.lane.6 c.requires.lane.5 (by_guest g at.In-Some) (by_relay g at.After-relay_turn-by_relay),
      );
    }

pub begin_wind_up-requires-clause-commands : goal.begin_wind_up-requires-clause-commands
begin_wind_up-requires-clause-commands g c = λ k is. absurd (cc (c.relay_turn-by_relay.ensures.plain, is))

pub device_turn-by_device-requires-clause-live : goal.device_turn-by_device-requires-clause-live
device_turn-by_device-requires-clause-live g c =
    let at = goal.at.device_turn-by_device-requires-clause-live g c in
    is_live (lawful g) c.requires.lane.6 c.requires.lane.5 (by_guest g at.In-Some) (by_relay g at.After-relay_turn-by_relay)
    (sym c.winds.ensures ∙ c.if-winds.false)

pub device_turn-by_device-requires-clause-on : goal.device_turn-by_device-requires-clause-on
device_turn-by_device-requires-clause-on g c =
    let at = goal.at.device_turn-by_device-requires-clause-on g c in
    can_serve (lawful g) c.requires.lane.6 c.requires.lane.5 (by_guest g at.In-Some) (by_relay g at.After-relay_turn-by_relay)
    (sym c.winds.ensures ∙ c.if-winds.false)

pub begin_wind_up-requires-clause-held : goal.begin_wind_up-requires-clause-held
begin_wind_up-requires-clause-held g c =
    let at = goal.at.begin_wind_up-requires-clause-held g c in
    device_holds (lawful g) c.requires.lane.6 c.requires.lane.5 (by_guest g at.In-Some) (by_relay g at.After-relay_turn-by_relay)
    (sym c.winds.ensures ∙ c.if-winds.false) (by_device g at.After-device_turn-by_device)

-- ---- the round

pub returns-then-rested-clause-goes : goal.returns-then-rested-clause-goes
returns-then-rested-clause-goes g c = λ plan is q on k n h.
    let at = goal.at.returns-then-rested-clause-goes g c in
    goes_rested (lawful g) h is (by_guest g at.In-Some) (by_relay g at.After-relay_turn-by_relay) c.stop.new.still c.stop.new.relaying
    (sym c.rested.ensures ∙ c.if-rested.true) c.stop.ensures.kept c.stop.ensures.gone

pub returns-then-winds-clause-goes : goal.returns-then-winds-clause-goes
returns-then-winds-clause-goes g c = λ plan is q on k n h.
    let at = goal.at.returns-then-winds-clause-goes g c in
    goes_winding (lawful g) h is (by_guest g at.In-Some) (by_relay g at.After-relay_turn-by_relay)
    (sym c.rested.ensures ∙ c.if-rested.false) (sym c.winds.ensures ∙ c.if-winds.true)

pub returns-clause-goes : goal.returns-clause-goes
returns-clause-goes g c = λ plan is q on k n h.
    let at = goal.at.returns-clause-goes g c in
    let guest = by_guest g at.In-Some in
    let relay = by_relay g at.After-relay_turn-by_relay in
    let device = by_device g at.After-device_turn-by_device in
    let off = sym c.winds.ensures ∙ c.if-winds.false in
    elim c.if-done.branch [
      | then-done w ↦ (
          let done = w.begin_wind_up.ensures in
          rw (w.lane-is, w.device-is) (goes_done (lawful g) h is guest relay off device w.begin_wind_up.new.self w.begin_wind_up.new.device
          (c.done.ensures.0 w.if-done.true) done.suspended
          (done.plain c.relay_turn-by_relay.ensures.plain) (done.holds c.relay_turn-by_relay.ensures.plain) done.live done.winding
          done.target done.counts)
          )
      | else-done w ↦
          rw (w.lane-is, w.device-is) (goes_shadowing (lawful g) h is guest relay off device
          (λ z. absurd (false≢true (sym w.if-done.false ∙ c.done.ensures.1 z))))
    ]

pub returns-clause-carried : goal.returns-clause-carried
returns-clause-carried g c =
    let at = goal.at.returns-clause-carried g c in
    let y = device_carries (lawful g) c.requires.lane.6 c.requires.lane.5 (by_guest g at.In-Some)
    (by_relay g at.After-relay_turn-by_relay) (sym c.winds.ensures ∙ c.if-winds.false) (by_device g at.After-device_turn-by_device) in
    elim c.if-done.branch [
      | then-done w ↦ ap g.V.Device.party.carried w.device-is ∙ w.begin_wind_up.ensures.suspended.1.noted.carried ∙ y.0
      | else-done w ↦ ap g.V.Device.party.carried w.device-is ∙ y.0
    ]

pub returns-clause-faults : goal.returns-clause-faults
returns-clause-faults g c =
    let at = goal.at.returns-clause-faults g c in
    let y = device_carries (lawful g) c.requires.lane.6 c.requires.lane.5 (by_guest g at.In-Some)
    (by_relay g at.After-relay_turn-by_relay) (sym c.winds.ensures ∙ c.if-winds.false) (by_device g at.After-device_turn-by_device) in
    elim c.if-done.branch [
      | then-done w ↦ ap g.V.Device.party.faults w.device-is ∙ w.begin_wind_up.ensures.suspended.1.noted.faults ∙ y.1
      | else-done w ↦ ap g.V.Device.party.faults w.device-is ∙ y.1
    ]
