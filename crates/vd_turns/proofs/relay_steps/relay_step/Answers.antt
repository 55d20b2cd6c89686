use Rattle.std.proofs.Common.{rules, ap}
use Rattle.vd_turns.proofs.RelayWays.{relay_same}
use Rattle.vd_turns.proofs.relay_steps.relay_step.Goals as goal

pub returns-clause-ring : goal.returns-clause-ring
returns-clause-ring g c =
    let o = c.requires.on in
    let on = c.relay_access.ensures.step c.args.words.now.words c.args.shadow.now.words o.0 o.1 o.2 o.3 o.4 o.5 o.6 o.7
    (ap (λ x. x.words) c.port-port.ensures.words) (ap (λ x. x.words) c.port-shadow_port.ensures.words) o.10 o.8 o.9 in
    let same = on.same in
    search rules

pub returns-clause-shadow_ring : goal.returns-clause-shadow_ring
returns-clause-shadow_ring g c =
    let o = c.requires.on in
    let on = c.relay_access.ensures.step c.args.words.now.words c.args.shadow.now.words o.0 o.1 o.2 o.3 o.4 o.5 o.6 o.7
    (ap (λ x. x.words) c.port-port.ensures.words) (ap (λ x. x.words) c.port-shadow_port.ensures.words) o.10 o.8 o.9 in
    let same = on.shadow_same in
    search rules

pub returns-clause-step : goal.returns-clause-step
returns-clause-step g c = λ z old begun by v w sv sw is lane holds.
    let on = c.relay_access.ensures.step c.args.words.now.words c.args.shadow.now.words z old begun by v w sv sw
    (ap (λ x. x.words) c.port-port.ensures.words) (ap (λ x. x.words) c.port-shadow_port.ensures.words) is lane holds in
    relay_same g.L.Layout.layout g.L.Device.DeviceEnd.device g.L.Driver.DriverEnd.driver z old begun by v sw on.words on.shadow _ _ w sv
    c.args.lane.now.relay.state c.relay_access.new.lane.relay.state c.args.lane.now.relay.counts c.relay_access.new.lane.relay.counts
    c.relay_access.result (search rules) (search rules) on.stepped
