use Rattle.std.proofs.Common.{◌≡◌, rules, ap, sym, ◌∙◌, subst, Some, IsSomeAnd}
use Rattle.vd_relay.specs.declared.control.Control.{Control}
use Rattle.vd_turns.proofs.ControlWays.{control_same, some_to, some_get}
use Rattle.vd_turns.proofs.control_steps.control_step.Goals as goal

pub returns-clause-ring : goal.returns-clause-ring
returns-clause-ring g c =
    let o = c.requires.on in
    let has = some_get c.control_access.new.lane.relay.control _ (c.control_access.ensures o.0 o.8) in
    let on = has.1 c.args.words.now.words c.args.shadow.now.words o.1 o.2 o.3 o.4 o.5 o.6 o.7
    (ap (λ x. x.words) c.port-port.ensures.words) (ap (λ x. x.words) c.port-shadow_port.ensures.words) o.9 in
    let same = on.same in
    search rules

pub returns-clause-shadow_ring : goal.returns-clause-shadow_ring
returns-clause-shadow_ring g c =
    let o = c.requires.on in
    let has = some_get c.control_access.new.lane.relay.control _ (c.control_access.ensures o.0 o.8) in
    let on = has.1 c.args.words.now.words c.args.shadow.now.words o.1 o.2 o.3 o.4 o.5 o.6 o.7
    (ap (λ x. x.words) c.port-port.ensures.words) (ap (λ x. x.words) c.port-shadow_port.ensures.words) o.9 in
    let same = on.shadow_same in
    search rules

pub returns-clause-step : goal.returns-clause-step
returns-clause-step g c = λ k is. some_to c.control_access.new.lane.relay.control _ _ (c.control_access.ensures k is)
    (λ k' made. λ x begun now v w sv sw lane.
    let on = made c.args.words.now.words c.args.shadow.now.words x begun now v w sv sw
    (ap (λ x. x.words) c.port-port.ensures.words) (ap (λ x. x.words) c.port-shadow_port.ensures.words) lane in
    control_same g.L.Layout.layout g.L.Device.DeviceEnd.device g.L.Driver.DriverEnd.driver x begun now v sw on.words on.shadow _ _ w sv
    c.args.lane.now.relay.state c.control_access.new.lane.relay.state k k' c.args.lane.now.relay.settings
    c.control_access.new.lane.relay.settings c.args.lane.now.relay.counts c.control_access.new.lane.relay.counts
    c.control_access.result (search rules) (search rules) on.stepped)
