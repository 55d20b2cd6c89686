use Rattle.std.proofs.Common.{◌≡◌, None, Some, sym, ◌∙◌, subst}
use Rattle.vd_layout.specs.laws.Plain.{own_plain_driver, own_plain_device}
use Rattle.vd_turns.proofs.ControlRelaying.{control_on}
use Rattle.vd_turns.proofs.ControlWays.{some_to}
use Rattle.vd_turns.proofs.control_steps.control_access.Goals as goal

pub step-requires-clause-own : goal.step-requires-clause-own
step-requires-clause-own g c = λ none. absurd (cc (c.requires.on.4.8, none))

pub step-requires-clause-commands : goal.step-requires-clause-commands
step-requires-clause-commands g c = λ k is.
    let r = c.requires.on in
    let o = r.4 in
    let lane = o.9 in
    let d = g.L.Driver.DriverEnd.driver in
    let e = g.L.Device.DeviceEnd.device in
    let l = g.L.Layout.layout in
    let law = g.met.L.Layout.lawful in
    let same : o.0 ≡ k = cc (o.8, is) in (
      o.1.opening,
      o.5,
      o.6,
      subst (λ y. Rattle.vd_relay.specs.Modes.ControlHolds l e d o.1.opening c.args.lane.now.relay.state y c.args.lane.now.relay.settings
          c.args.lane.now.relay.counts o.5 o.6) same lane.controlling.holds,
      own_plain_device g.P.Port.port g.met.P.Port.lawful d e l law c.args.guest_port.now r.0 o.4 o.5 r.2 lane.controlling.parts.ring,
      own_plain_driver g.Q.Port.port g.met.Q.Port.lawful d e l law c.args.shadow_port.now r.1 o.6 o.7 r.3 lane.controlling.parts.shadow_ring,
    )

pub returns : goal.returns
returns g c = λ k is.
    let d = g.L.Driver.DriverEnd.driver in
    let e = g.L.Device.DeviceEnd.device in
    let l = g.L.Layout.layout in
    let law = g.met.L.Layout.lawful in
    let p = g.P.Port.port in
    let q = g.Q.Port.port in
    some_to c.step.new.self.relay.control _ _ (c.step.ensures.commands k is) (λ k' step. λ ws us x begun now v w sv sw plain shadow_plain lane.
    let own = own_plain_device p g.met.P.Port.lawful d e l law c.args.guest_port.now ws v w plain lane.controlling.parts.ring in
    let other = own_plain_driver q g.met.Q.Port.lawful d e l law c.args.shadow_port.now us sv sw shadow_plain lane.controlling.parts.shadow_ring in
    control_on p g.met.P.Port.lawful q g.met.Q.Port.lawful e d l law x begun now ws us v w sv sw c.args.lane.now.relay.state
    c.step.new.self.relay.state k k' c.args.lane.now.relay.settings c.step.new.self.relay.settings
    c.args.lane.now.relay.counts c.step.new.self.relay.counts c.args.guest_port.now c.step.new.guest_port
    c.args.shadow_port.now c.step.new.shadow_port c.step.result plain shadow_plain lane c.requires.live
    (step x.opening w sv lane.controlling.holds own other))
