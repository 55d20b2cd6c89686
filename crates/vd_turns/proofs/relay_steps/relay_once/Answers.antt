use Rattle.vd_turns.proofs.RelayWays.{relay_starts, relay_looks, relay_ends}
use Rattle.vd_turns.proofs.relay_steps.relay_once.Goals as goal

pub returns-in-Looked-clause-turn : goal.returns-in-Looked-clause-turn
returns-in-Looked-clause-turn g c = λ z old begun by v w sv sw is lane holds.
    let l = g.L.Layout.layout in
    let e = g.L.Device.DeviceEnd.device in
    let d = g.L.Driver.DriverEnd.driver in
    let r = relay_starts l e d z old begun by v sw _ _ w sv c.args.lane.now.relay.state c.args.lane.now.relay.counts c.requires.live lane
    holds in
    relay_looks l e d z old begun by v sw _ _ _ _ w sv c.args.lane.now.relay.state c.args.lane.now.relay.state
    c.relay_step.new.lane.relay.state c.args.lane.now.relay.counts c.args.lane.now.relay.counts c.relay_step.new.lane.relay.counts 0
    c.relay_step.result r (c.relay_step.ensures.step z old begun by v r.run.view r.run.shadow_view sw is r.run.lane r.run.holds)
    c.in-Looked.is

pub returns-in-Finished-clause-turn : goal.returns-in-Finished-clause-turn
returns-in-Finished-clause-turn g c = λ z old begun by v w sv sw is lane holds.
    let l = g.L.Layout.layout in
    let e = g.L.Device.DeviceEnd.device in
    let d = g.L.Driver.DriverEnd.driver in
    let r = relay_starts l e d z old begun by v sw _ _ w sv c.args.lane.now.relay.state c.args.lane.now.relay.counts c.requires.live lane
    holds in
    relay_ends l e d z old begun by v sw _ _ _ _ w sv c.args.lane.now.relay.state c.args.lane.now.relay.state
    c.relay_step.new.lane.relay.state c.args.lane.now.relay.counts c.args.lane.now.relay.counts c.relay_step.new.lane.relay.counts 0
    c.relay_step.result r (c.relay_step.ensures.step z old begun by v r.run.view r.run.shadow_view sw is r.run.lane r.run.holds)
    (λ looked. cc (looked, c.in-Finished.is))

pub returns-in-Worked-clause-turn : goal.returns-in-Worked-clause-turn
returns-in-Worked-clause-turn g c = λ z old begun by v w sv sw is lane holds.
    let l = g.L.Layout.layout in
    let e = g.L.Device.DeviceEnd.device in
    let d = g.L.Driver.DriverEnd.driver in
    let r = relay_starts l e d z old begun by v sw _ _ w sv c.args.lane.now.relay.state c.args.lane.now.relay.counts c.requires.live lane
    holds in
    relay_ends l e d z old begun by v sw _ _ _ _ w sv c.args.lane.now.relay.state c.args.lane.now.relay.state
    c.relay_step.new.lane.relay.state c.args.lane.now.relay.counts c.args.lane.now.relay.counts c.relay_step.new.lane.relay.counts 0
    c.relay_step.result r (c.relay_step.ensures.step z old begun by v r.run.view r.run.shadow_view sw is r.run.lane r.run.holds)
    (λ looked. cc (looked, c.in-Worked.is))
