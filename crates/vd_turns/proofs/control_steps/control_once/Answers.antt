use Rattle.vd_turns.proofs.ControlWays.{control_starts, control_looks, control_ends, some_to}
use Rattle.vd_turns.proofs.control_steps.control_once.Goals as goal

pub returns-in-Looked-clause-turn : goal.returns-in-Looked-clause-turn
returns-in-Looked-clause-turn g c = λ k is.
    let l = g.L.Layout.layout in
    let e = g.L.Device.DeviceEnd.device in
    let d = g.L.Driver.DriverEnd.driver in
    some_to c.control_step.new.lane.relay.control _ _ (c.control_step.ensures.step k is) (λ k' step. λ x begun now v w sv sw lane.
    let r = control_starts l e d x begun now v sw _ _ w sv c.args.lane.now.relay.state k c.args.lane.now.relay.settings
    c.args.lane.now.relay.counts c.requires.live lane in
    control_looks l e d x begun now v sw _ _ _ _ w sv c.args.lane.now.relay.state c.args.lane.now.relay.state
    c.control_step.new.lane.relay.state k k k' c.args.lane.now.relay.settings c.args.lane.now.relay.settings
    c.control_step.new.lane.relay.settings c.args.lane.now.relay.counts c.args.lane.now.relay.counts
    c.control_step.new.lane.relay.counts 0 c.control_step.result r (step x begun now v r.run.view r.run.shadow_view sw r.run.lane)
    c.in-Looked.is)

pub returns-in-Finished-clause-turn : goal.returns-in-Finished-clause-turn
returns-in-Finished-clause-turn g c = λ k is.
    let l = g.L.Layout.layout in
    let e = g.L.Device.DeviceEnd.device in
    let d = g.L.Driver.DriverEnd.driver in
    some_to c.control_step.new.lane.relay.control _ _ (c.control_step.ensures.step k is) (λ k' step. λ x begun now v w sv sw lane.
    let r = control_starts l e d x begun now v sw _ _ w sv c.args.lane.now.relay.state k c.args.lane.now.relay.settings
    c.args.lane.now.relay.counts c.requires.live lane in
    control_ends l e d x begun now v sw _ _ _ _ w sv c.args.lane.now.relay.state c.args.lane.now.relay.state
    c.control_step.new.lane.relay.state k k k' c.args.lane.now.relay.settings c.args.lane.now.relay.settings
    c.control_step.new.lane.relay.settings c.args.lane.now.relay.counts c.args.lane.now.relay.counts
    c.control_step.new.lane.relay.counts 0 c.control_step.result r (step x begun now v r.run.view r.run.shadow_view sw r.run.lane)
    (λ looked. cc (looked, c.in-Finished.is)))

pub returns-in-Worked-clause-turn : goal.returns-in-Worked-clause-turn
returns-in-Worked-clause-turn g c = λ k is.
    let l = g.L.Layout.layout in
    let e = g.L.Device.DeviceEnd.device in
    let d = g.L.Driver.DriverEnd.driver in
    some_to c.control_step.new.lane.relay.control _ _ (c.control_step.ensures.step k is) (λ k' step. λ x begun now v w sv sw lane.
    let r = control_starts l e d x begun now v sw _ _ w sv c.args.lane.now.relay.state k c.args.lane.now.relay.settings
    c.args.lane.now.relay.counts c.requires.live lane in
    control_ends l e d x begun now v sw _ _ _ _ w sv c.args.lane.now.relay.state c.args.lane.now.relay.state
    c.control_step.new.lane.relay.state k k k' c.args.lane.now.relay.settings c.args.lane.now.relay.settings
    c.control_step.new.lane.relay.settings c.args.lane.now.relay.counts c.args.lane.now.relay.counts
    c.control_step.new.lane.relay.counts 0 c.control_step.result r (step x begun now v r.run.view r.run.shadow_view sw r.run.lane)
    (λ looked. cc (looked, c.in-Worked.is)))
