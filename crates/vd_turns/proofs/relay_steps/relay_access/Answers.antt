use Rattle.vd_layout.specs.laws.Plain.{own_plain_driver, own_plain_device}
use Rattle.vd_turns.proofs.Relaying.{relay_on}
use Rattle.vd_turns.proofs.relay_steps.relay_access.Goals as goal

pub step-requires-clause-own : goal.step-requires-clause-own
step-requires-clause-own g c = λ plain.
    let r = c.requires.on in
    let o = r.4 in
    let lane = o.8 in
    let d = g.L.Driver.DriverEnd.driver in
    let e = g.L.Device.DeviceEnd.device in
    let l = g.L.Layout.layout in
    let law = g.met.L.Layout.lawful in (
      o.0,
      o.5,
      o.6,
      o.9,
      o.10,
      own_plain_device g.P.Port.port g.met.P.Port.lawful d e l law c.args.guest_port.now r.0 o.4 o.5 r.2 lane.ring,
      own_plain_driver g.Q.Port.port g.met.Q.Port.lawful d e l law c.args.shadow_port.now r.1 o.6 o.7 r.3 lane.shadow_ring,
    )

pub step-requires-clause-commands : goal.step-requires-clause-commands
step-requires-clause-commands g c = λ k is. absurd (cc (c.requires.plain, is))

pub returns-clause-step : goal.returns-clause-step
returns-clause-step g c = λ ws us z old begun by v w sv sw plain shadow_plain is lane holds.
    let d = g.L.Driver.DriverEnd.driver in
    let e = g.L.Device.DeviceEnd.device in
    let l = g.L.Layout.layout in
    let law = g.met.L.Layout.lawful in
    let p = g.P.Port.port in
    let q = g.Q.Port.port in
    let own = own_plain_device p g.met.P.Port.lawful d e l law c.args.guest_port.now ws v w plain lane.ring in
    let other = own_plain_driver q g.met.Q.Port.lawful d e l law c.args.shadow_port.now us sv sw shadow_plain lane.shadow_ring in
    relay_on p g.met.P.Port.lawful q g.met.Q.Port.lawful e d l law z old begun by ws us v w sv sw c.args.lane.now.relay.state
    c.step.new.self.relay.state c.args.lane.now.relay.counts c.step.new.self.relay.counts c.args.guest_port.now c.step.new.guest_port
    c.args.shadow_port.now c.step.new.shadow_port c.step.result plain shadow_plain lane c.requires.live
    (c.step.ensures.step c.requires.plain z w sv holds is own other)
