use Rattle.std.proofs.Common.{◌≡◌, ℕ, subst, arith, refl, ◌∙◌}
use Rattle.vd_turns.specs.ControlTurns.{ControlTurn}
use Rattle.vd_turns.proofs.RelayWays.{live_on}
use Rattle.vd_turns.proofs.ControlWays.{control_starts, control_goes, control_looks, control_ends, control_spent, not_finished, some_then, some_to, some_is, some_get}
use Rattle.vd_turns.proofs.control_steps.control_drawn.Goals as goal

pub loop-made-init : goal.loop-made-init
loop-made-init g c = record {
  ring = refl;
  shadow_ring = refl;
  live = c.requires.live;
  way = λ k is. some_is c.args.lane.now.relay.control k _ is (λ x begun now v w sv sw lane.
      control_starts g.L.Layout.layout g.L.Device.DeviceEnd.device g.L.Driver.DriverEnd.driver x begun now v sw _ _ w sv
      c.args.lane.now.relay.state k c.args.lane.now.relay.settings c.args.lane.now.relay.counts c.requires.live lane);
}

pub control_step-requires-clause-on : goal.control_step-requires-clause-on
control_step-requires-clause-on g c =
    let o = c.requires.on in
    let has = some_get c.loop-made.lane.relay.control _ (c.loop-made.invariant.way o.0 o.8) in
    let r = has.1 o.1 o.2 o.3 o.4 o.5 o.6 o.7 o.9 in
    (has.0.0, o.1, o.2, o.3, o.4, r.run.view, r.run.shadow_view, o.7, has.0.1, r.run.lane)

pub returns-in-Looked-clause-turn : goal.returns-in-Looked-clause-turn
returns-in-Looked-clause-turn g c = λ k is.
    let l = g.L.Layout.layout in
    let e = g.L.Device.DeviceEnd.device in
    let d = g.L.Driver.DriverEnd.driver in
    some_then c.loop-made.lane.relay.control c.control_step.new.lane.relay.control _ _ _ (c.loop-made.invariant.way k is)
    (λ m at. c.control_step.ensures.step m at) (λ m n before step. λ x begun now v w sv sw lane.
    let r = before x begun now v w sv sw lane in
    control_looks l e d x begun now v sw _ _ _ _ w sv c.args.lane.now.relay.state c.loop-made.lane.relay.state c.control_step.new.lane.relay.state
    k m n c.args.lane.now.relay.settings c.loop-made.lane.relay.settings c.control_step.new.lane.relay.settings
    c.args.lane.now.relay.counts c.loop-made.lane.relay.counts c.control_step.new.lane.relay.counts c.loop-made.made
    c.control_step.result r (step x begun now v r.run.view r.run.shadow_view sw r.run.lane) c.in-Looked.is)

pub returns-in-Finished-clause-turn : goal.returns-in-Finished-clause-turn
returns-in-Finished-clause-turn g c = λ k is.
    let l = g.L.Layout.layout in
    let e = g.L.Device.DeviceEnd.device in
    let d = g.L.Driver.DriverEnd.driver in
    some_then c.loop-made.lane.relay.control c.control_step.new.lane.relay.control _ _ _ (c.loop-made.invariant.way k is)
    (λ m at. c.control_step.ensures.step m at) (λ m n before step. λ x begun now v w sv sw lane.
    let r = before x begun now v w sv sw lane in
    control_ends l e d x begun now v sw _ _ _ _ w sv c.args.lane.now.relay.state c.loop-made.lane.relay.state c.control_step.new.lane.relay.state
    k m n c.args.lane.now.relay.settings c.loop-made.lane.relay.settings c.control_step.new.lane.relay.settings
    c.args.lane.now.relay.counts c.loop-made.lane.relay.counts c.control_step.new.lane.relay.counts c.loop-made.made
    c.control_step.result r (step x begun now v r.run.view r.run.shadow_view sw r.run.lane) (λ looked. cc (looked, c.in-Finished.is)))

pub loop-made-preserved : goal.loop-made-preserved
loop-made-preserved g c = record {
  ring = c.control_step.ensures.ring ∙ c.loop-made.invariant.ring;
  shadow_ring = c.control_step.ensures.shadow_ring ∙ c.loop-made.invariant.shadow_ring;
  live =
      let o = c.requires.on in
      let has = some_get c.loop-made.lane.relay.control _ (c.loop-made.invariant.way o.0 o.8) in
      let r = has.1 o.1 o.2 o.3 o.4 o.5 o.6 o.7 o.9 in
      let made = some_get c.control_step.new.lane.relay.control _ (c.control_step.ensures.step has.0.0 has.0.1) in
      let step = made.1 o.1 o.2 o.3 o.4 r.run.view r.run.shadow_view o.7 r.run.lane in
      live_on c.control_step.new.lane.relay.state.stage (λ rests. not_finished c.control_step.result c.in-Worked.is
      (step.finished.1 rests));
  way = λ k is.
      let l = g.L.Layout.layout in
      let e = g.L.Device.DeviceEnd.device in
      let d = g.L.Driver.DriverEnd.driver in
      some_then c.loop-made.lane.relay.control c.control_step.new.lane.relay.control _ _ _ (c.loop-made.invariant.way k is)
      (λ m at. c.control_step.ensures.step m at) (λ m n before step. λ x begun now v w sv sw lane.
      let r = before x begun now v w sv sw lane in
      control_goes l e d x begun now v sw _ _ _ _ w sv c.args.lane.now.relay.state c.loop-made.lane.relay.state c.control_step.new.lane.relay.state
      k m n c.args.lane.now.relay.settings c.loop-made.lane.relay.settings c.control_step.new.lane.relay.settings
      c.args.lane.now.relay.counts c.loop-made.lane.relay.counts c.control_step.new.lane.relay.counts c.loop-made.made
      c.control_step.result r (step x begun now v r.run.view r.run.shadow_view sw r.run.lane) (λ looked. cc (looked, c.in-Worked.is)));
}

pub returns-clause-turn : goal.returns-clause-turn
returns-clause-turn g c = λ k is.
    let l = g.L.Layout.layout in
    let e = g.L.Device.DeviceEnd.device in
    let d = g.L.Driver.DriverEnd.driver in
    let all : c.loop-made.made ≡ c.steps-most.result = omega arith in
    some_to c.loop-made.lane.relay.control _ _ (c.loop-made.invariant.way k is) (λ k' before. λ x begun now v w sv sw lane.
    subst (λ (n : ℕ). ControlTurn l e d x begun now c.loop-made.words.words c.loop-made.shadow.words v w sv sw c.args.lane.now.relay.state
    c.loop-made.lane.relay.state k k' c.args.lane.now.relay.settings c.loop-made.lane.relay.settings
    c.args.lane.now.relay.counts c.loop-made.lane.relay.counts n) all
    (control_spent l e d x begun now v sw _ _ w sv c.args.lane.now.relay.state c.loop-made.lane.relay.state k k'
    c.args.lane.now.relay.settings c.loop-made.lane.relay.settings c.args.lane.now.relay.counts c.loop-made.lane.relay.counts _
    (before x begun now v w sv sw lane) (omega arith)))
