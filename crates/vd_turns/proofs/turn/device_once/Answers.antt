use Rattle.std.proofs.Common.{arith}
use Rattle.vd_turns.proofs.Turning.{device_starts, device_goes, device_looks, device_ends, device_spent}
use Rattle.vd_turns.proofs.turn.device_once.Goals as goal

pub returns-in-Looked-clause-turn : goal.returns-in-Looked-clause-turn
returns-in-Looked-clause-turn g c = λ v w ring holds.
    let r = device_starts g.L.Layout.layout g.V.Device.party v _ w c.args.device.now ring holds in
    device_looks g.L.Layout.layout g.V.Device.party v _ _ w c.args.device.now c.args.device.now c.device_step.new.device 0
    c.device_step.result r c.in-Looked.is (c.device_step.ensures.step v r.run.view r.run.ring r.run.holds)

pub returns-in-Finished-clause-turn : goal.returns-in-Finished-clause-turn
returns-in-Finished-clause-turn g c = λ v w ring holds.
    let r = device_starts g.L.Layout.layout g.V.Device.party v _ w c.args.device.now ring holds in
    device_ends g.L.Layout.layout g.V.Device.party v _ _ w c.args.device.now c.args.device.now c.device_step.new.device 0
    c.device_step.result r c.in-Finished.is (c.device_step.ensures.step v r.run.view r.run.ring r.run.holds)

pub returns-in-Worked-clause-turn : goal.returns-in-Worked-clause-turn
returns-in-Worked-clause-turn g c = λ v w ring holds.
    let r = device_starts g.L.Layout.layout g.V.Device.party v _ w c.args.device.now ring holds in
    device_spent g.L.Layout.layout g.V.Device.party v _ w c.args.device.now c.device_step.new.device 1
    (device_goes g.L.Layout.layout g.V.Device.party v _ _ w c.args.device.now c.args.device.now c.device_step.new.device 0
    c.device_step.result r (λ looked. cc (looked, c.in-Worked.is)) (c.device_step.ensures.step v r.run.view r.run.ring r.run.holds))
    (omega arith)
