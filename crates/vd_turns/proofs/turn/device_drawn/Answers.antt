use Rattle.std.proofs.Common.{refl, ◌∙◌}
use Rattle.vd_turns.proofs.Turning.{device_starts, device_goes, device_looks, device_ends}
use Rattle.vd_turns.proofs.turn.device_drawn.Goals as goal

pub loop-made-init : goal.loop-made-init
loop-made-init g c = record {
  ring = refl;
  live = c.requires.live;
  way = λ v w ring holds. device_starts g.L.Layout.layout g.V.Device.party v _ w c.args.device.now ring holds;
}

pub returns-in-Looked-clause-turn : goal.returns-in-Looked-clause-turn
returns-in-Looked-clause-turn g c = λ v w ring holds.
    let r = c.loop-made.invariant.way v w ring holds in
    device_looks g.L.Layout.layout g.V.Device.party v _ _ w c.args.device.now c.loop-made.device c.device_step.new.device
    c.loop-made.made c.device_step.result r c.in-Looked.is (c.device_step.ensures.step v r.run.view r.run.ring r.run.holds)

pub returns-in-Finished-clause-turn : goal.returns-in-Finished-clause-turn
returns-in-Finished-clause-turn g c = λ v w ring holds.
    let r = c.loop-made.invariant.way v w ring holds in
    device_ends g.L.Layout.layout g.V.Device.party v _ _ w c.args.device.now c.loop-made.device c.device_step.new.device
    c.loop-made.made c.device_step.result r c.in-Finished.is (c.device_step.ensures.step v r.run.view r.run.ring r.run.holds)

pub loop-made-preserved : goal.loop-made-preserved
loop-made-preserved g c = record {
  ring = c.device_step.ensures.ring ∙ c.loop-made.invariant.ring;
  live = λ done.
      let o = c.requires.on in
      let r = c.loop-made.invariant.way o.0 o.1 o.2 o.3 in
      let step = c.device_step.ensures.step o.0 r.run.view r.run.ring r.run.holds in
      cc (step.finished.1 done, c.in-Worked.is);
  way = λ v w ring holds.
      let r = c.loop-made.invariant.way v w ring holds in
      device_goes g.L.Layout.layout g.V.Device.party v _ _ w c.args.device.now c.loop-made.device c.device_step.new.device
      c.loop-made.made c.device_step.result r (λ looked. cc (looked, c.in-Worked.is))
      (c.device_step.ensures.step v r.run.view r.run.ring r.run.holds);
}
