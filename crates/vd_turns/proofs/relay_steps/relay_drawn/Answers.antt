use Rattle.std.proofs.Common.{◌≡◌, ℕ, subst, arith, refl, ◌∙◌}
use Rattle.vd_turns.specs.RelayTurns.{RelayTurn}
use Rattle.vd_turns.proofs.RelayWays.{relay_starts, relay_goes, relay_looks, relay_ends, relay_spent, live_on}
use Rattle.vd_turns.proofs.relay_steps.relay_drawn.Goals as goal

pub loop-made-init : goal.loop-made-init
loop-made-init g c = record {
  ring = refl;
  shadow_ring = refl;
  live = c.requires.live;
  plain = c.requires.plain;
  way = λ z old begun by v w sv sw is lane holds.
      relay_starts g.L.Layout.layout g.L.Device.DeviceEnd.device g.L.Driver.DriverEnd.driver z old begun by v sw _ _ w sv
      c.args.lane.now.relay.state c.args.lane.now.relay.counts c.requires.live lane holds;
}

pub relay_step-requires-clause-on : goal.relay_step-requires-clause-on
relay_step-requires-clause-on g c =
    let o = c.requires.on in
    let r = c.loop-made.invariant.way o.0 o.1 o.2 o.3 o.4 o.5 o.6 o.7 o.10 o.8 o.9 in
    (o.0, o.1, o.2, o.3, o.4, r.run.view, r.run.shadow_view, o.7, r.run.lane, r.run.holds, o.10)

pub returns-in-Looked-clause-turn : goal.returns-in-Looked-clause-turn
returns-in-Looked-clause-turn g c = λ z old begun by v w sv sw is lane holds.
    let r = c.loop-made.invariant.way z old begun by v w sv sw is lane holds in
    relay_looks g.L.Layout.layout g.L.Device.DeviceEnd.device g.L.Driver.DriverEnd.driver z old begun by v sw _ _ _ _ w sv
    c.args.lane.now.relay.state c.loop-made.lane.relay.state c.relay_step.new.lane.relay.state c.args.lane.now.relay.counts
    c.loop-made.lane.relay.counts c.relay_step.new.lane.relay.counts c.loop-made.made c.relay_step.result r
    (c.relay_step.ensures.step z old begun by v r.run.view r.run.shadow_view sw is r.run.lane r.run.holds) c.in-Looked.is

pub returns-in-Finished-clause-turn : goal.returns-in-Finished-clause-turn
returns-in-Finished-clause-turn g c = λ z old begun by v w sv sw is lane holds.
    let r = c.loop-made.invariant.way z old begun by v w sv sw is lane holds in
    relay_ends g.L.Layout.layout g.L.Device.DeviceEnd.device g.L.Driver.DriverEnd.driver z old begun by v sw _ _ _ _ w sv
    c.args.lane.now.relay.state c.loop-made.lane.relay.state c.relay_step.new.lane.relay.state c.args.lane.now.relay.counts
    c.loop-made.lane.relay.counts c.relay_step.new.lane.relay.counts c.loop-made.made c.relay_step.result r
    (c.relay_step.ensures.step z old begun by v r.run.view r.run.shadow_view sw is r.run.lane r.run.holds)
    (λ looked. cc (looked, c.in-Finished.is))

pub loop-made-preserved : goal.loop-made-preserved
loop-made-preserved g c = record {
  ring = c.relay_step.ensures.ring ∙ c.loop-made.invariant.ring;
  shadow_ring = c.relay_step.ensures.shadow_ring ∙ c.loop-made.invariant.shadow_ring;
  live =
      let o = c.requires.on in
      let r = c.loop-made.invariant.way o.0 o.1 o.2 o.3 o.4 o.5 o.6 o.7 o.10 o.8 o.9 in
      let step = c.relay_step.ensures.step o.0 o.1 o.2 o.3 o.4 r.run.view r.run.shadow_view o.7 o.10 r.run.lane r.run.holds in
      live_on c.relay_step.new.lane.relay.state.stage (λ rests. cc (step.finished.1 rests, c.in-Worked.is));
  plain = c.relay_step.ensures.plain;
  way = λ z old begun by v w sv sw is lane holds.
      let r = c.loop-made.invariant.way z old begun by v w sv sw is lane holds in
      relay_goes g.L.Layout.layout g.L.Device.DeviceEnd.device g.L.Driver.DriverEnd.driver z old begun by v sw _ _ _ _ w sv
      c.args.lane.now.relay.state c.loop-made.lane.relay.state c.relay_step.new.lane.relay.state c.args.lane.now.relay.counts
      c.loop-made.lane.relay.counts c.relay_step.new.lane.relay.counts c.loop-made.made c.relay_step.result r
      (c.relay_step.ensures.step z old begun by v r.run.view r.run.shadow_view sw is r.run.lane r.run.holds)
      (λ looked. cc (looked, c.in-Worked.is));
}

pub returns-clause-turn : goal.returns-clause-turn
returns-clause-turn g c = λ z old begun by v w sv sw is lane holds.
    let all : c.loop-made.made ≡ c.steps-most.result = omega arith in
    subst (λ (n : ℕ). RelayTurn g.L.Layout.layout g.L.Device.DeviceEnd.device g.L.Driver.DriverEnd.driver z old begun by
    c.loop-made.words.words c.loop-made.shadow.words v w sv sw c.args.lane.now.relay.state c.loop-made.lane.relay.state
    c.args.lane.now.relay.counts c.loop-made.lane.relay.counts n) all
    (relay_spent g.L.Layout.layout g.L.Device.DeviceEnd.device g.L.Driver.DriverEnd.driver z old begun by v sw _ _ w sv
    c.args.lane.now.relay.state c.loop-made.lane.relay.state c.args.lane.now.relay.counts c.loop-made.lane.relay.counts _
    (c.loop-made.invariant.way z old begun by v w sv sw is lane holds) (omega arith))
