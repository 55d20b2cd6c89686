use Rattle.std.proofs.Common.{◌≡◌, true, Some, sym, ◌∙◌, ap, arith}
use Rattle.std.specs.Option.{option_copied_mut}
use Rattle.vd_relay.specs.Stages.{is_rested}
use Rattle.vd_play.specs.Setting.{setting_of, IsLawful}
use Rattle.vd_play.proofs.CommandRelaying.{can_turn, few_relayed, holds_after, goes_on, goes_rested}
use Rattle.vd_play.proofs.CommandReplayed.{sets_rested, sets_replayed}
use Rattle.vd_play.proofs.command_rounds.command_relay.Given.{Over}
use Rattle.vd_play.proofs.command_rounds.command_relay.Goals as goal
use Rattle.vd_play.proofs.command_rounds.command_relay.Goals.{In-Some}

lawful : (g : Over)
    → IsLawful (setting_of g.L.Driver.DriverEnd.driver g.L.Device.DeviceEnd.device g.L.Layout.layout g.G.Guest.party g.V.Device.party)
lawful g = record { layout = g.met.L.Layout.lawful; guest = g.met.G.Guest.lawful; party = g.met.V.Device.lawful }

relay_is : (g : Over) (c : In-Some g) → c.args.lane.now.relaying ≡ Some c.in-Some.relaying.now
relay_is g c = sym c.as_mut.ensures.value ∙ ap option_copied_mut c.in-Some.is

pub control_turn-made-requires-clause-on : goal.control_turn-made-requires-clause-on
control_turn-made-requires-clause-on g c =
    let s = setting_of g.L.Driver.DriverEnd.driver g.L.Device.DeviceEnd.device g.L.Layout.layout g.G.Guest.party g.V.Device.party in
    let at = (goal.at.control_turn-made-requires-clause-on g c).In-Some in
    let r = c.requires.lane in
    let lane = c.args.lane.now in
    can_turn s r.0 r.2 r.3 lane.words lane.relayed r.4 r.5 r.1 lane.still c.in-Some.relaying.now lane.relaying (relay_is g at) r.6.held

pub overflow_add-lane : goal.overflow_add-lane
overflow_add-lane g c =
    let s = setting_of g.L.Driver.DriverEnd.driver g.L.Device.DeviceEnd.device g.L.Layout.layout g.G.Guest.party g.V.Device.party in
    let at = (goal.at.overflow_add-lane g c).In-Some in
    let r = c.requires.lane in
    let lane = c.args.lane.now in
    omega (
      arith,
      few_relayed s r.0 r.2 r.3 lane.words lane.relayed r.4 r.5 r.1 lane.still c.in-Some.relaying.now lane.relaying (relay_is g at) r.6.held
          (lawful g),
      c.control_turn-made.ensures.few,
    )

pub stop-requires : goal.stop-requires
stop-requires g c =
    let s = setting_of g.L.Driver.DriverEnd.driver g.L.Device.DeviceEnd.device g.L.Layout.layout g.G.Guest.party g.V.Device.party in
    let at = (goal.at.stop-requires g c).In-Some in
    let r = c.requires.lane in
    let lane = c.args.lane.now in
    let t = c.control_turn-made in
    let rests : is_rested t.new.lane.relay.state.stage ≡ true = sym c.rested.ensures ∙ c.if-rested.true in
    record {
      rested = (
        rests,
        holds_after s r.0 r.2 r.3 lane.words lane.relayed r.4 r.5 r.1 lane.still c.in-Some.relaying.now lane.relaying (relay_is g at)
            r.6.held (lawful g) t.new.words (record { lane = t.new.lane; words = t.new.shadow }) t.result t.ensures.few t.ensures.ring
            t.ensures.turn,
      );
    }

pub returns-then-rested-clause-goes : goal.returns-then-rested-clause-goes
returns-then-rested-clause-goes g c = λ plan on k n guest device h.
    let s = setting_of g.L.Driver.DriverEnd.driver g.L.Device.DeviceEnd.device g.L.Layout.layout g.G.Guest.party g.V.Device.party in
    let at = (goal.at.returns-then-rested-clause-goes g c).In-Some in
    let lane = c.args.lane.now in
    let t = c.control_turn-made in
    let y = goes_rested s (lawful g) plan k n lane.words lane.relayed guest device on lane.still c.stop.new.still c.in-Some.relaying.now
    lane.relaying c.stop.new.relaying (relay_is g at) h.held t.new.words (record { lane = t.new.lane; words = t.new.shadow }) t.result
    t.ensures.few t.ensures.ring t.ensures.turn (sym c.rested.ensures ∙ c.if-rested.true) c.stop.ensures.gone c.stop.ensures.kept in
    (record { held = y.0; kits = h.kits }, y.1)

pub returns-then-rested-clause-replayed : goal.returns-then-rested-clause-replayed
returns-then-rested-clause-replayed g c = λ plan on k n guest device h replays all.
    let s = setting_of g.L.Driver.DriverEnd.driver g.L.Device.DeviceEnd.device g.L.Layout.layout g.G.Guest.party g.V.Device.party in
    let at = (goal.at.returns-then-rested-clause-replayed g c).In-Some in
    let lane = c.args.lane.now in
    let t = c.control_turn-made in
    sets_rested s (lawful g) plan k n lane.words lane.relayed guest device on lane.still c.in-Some.relaying.now lane.relaying
    (relay_is g at) h.held t.new.words (record { lane = t.new.lane; words = t.new.shadow }) t.result t.ensures.few t.ensures.ring
    t.ensures.turn replays (sym c.rested.ensures ∙ c.if-rested.true)

pub returns-else-rested-clause-goes : goal.returns-else-rested-clause-goes
returns-else-rested-clause-goes g c = λ plan on k n guest device h.
    let s = setting_of g.L.Driver.DriverEnd.driver g.L.Device.DeviceEnd.device g.L.Layout.layout g.G.Guest.party g.V.Device.party in
    let at = (goal.at.returns-else-rested-clause-goes g c).In-Some in
    let lane = c.args.lane.now in
    let t = c.control_turn-made in
    let y = goes_on s plan k n lane.words lane.relayed guest device on lane.still c.in-Some.relaying.now lane.relaying (relay_is g at)
    h.held (lawful g) t.new.words (record { lane = t.new.lane; words = t.new.shadow }) t.result t.ensures.few t.ensures.ring
    t.ensures.turn (sym c.rested.ensures ∙ c.if-rested.false) in
    (record { held = y.0; kits = h.kits }, y.1)

pub returns-else-rested-clause-replayed : goal.returns-else-rested-clause-replayed
returns-else-rested-clause-replayed g c = λ plan on k n guest device h replays all.
    let s = setting_of g.L.Driver.DriverEnd.driver g.L.Device.DeviceEnd.device g.L.Layout.layout g.G.Guest.party g.V.Device.party in
    let at = (goal.at.returns-else-rested-clause-replayed g c).In-Some in
    let lane = c.args.lane.now in
    let t = c.control_turn-made in
    sets_replayed s (lawful g) plan k n lane.words lane.relayed guest device on lane.still c.in-Some.relaying.now lane.relaying
    (relay_is g at) h.held t.new.words (record { lane = t.new.lane; words = t.new.shadow }) t.result t.ensures.few t.ensures.ring
    t.ensures.turn replays all
