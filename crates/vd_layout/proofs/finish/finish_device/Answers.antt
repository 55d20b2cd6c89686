use Rattle.std.proofs.Common.{rules, ◌≡◌, sym, subst}
use Rattle.vd_ring.specs.declared.device.DeviceView.{DeviceView}
use Rattle.vd_layout.specs.Begun.{DeviceOp}
use Rattle.vd_layout.specs.laws.Run.{own_run}
use Rattle.vd_layout.specs.DeviceFinish.{DeviceGoing}
use Rattle.vd_layout.specs.laws.DeviceFinish.{device_starts, device_goes, device_ends}
use Rattle.vd_layout.proofs.finish.finish_device.Goals as goal

-- the port is the end's own at the view to which it came
pub step_device-requires-clause-own : goal.step_device-requires-clause-own
step_device-requires-clause-own g c =
    let v : DeviceView = c.requires.own.0 in
    let at = c.loop-end.invariant v c.requires.own.1 c.requires.own.2 in (
      at.view,
      at.stands,
      own_run g.P.Port.port g.E.DeviceEnd.device.side at.made c.args.port.now c.loop-end.port v at.view
          c.requires.own.2 at.run,
    )

pub loop-end-init : goal.loop-end-init
loop-end-init g c = λ v stands own.
    device_starts g.P.Port.port g.E.DeviceEnd.device c.args.port.now v c.args.end.now stands

pub loop-end-smaller : goal.loop-end-smaller
loop-end-smaller g c =
    let v : DeviceView = c.requires.own.0 in
    let at = c.loop-end.invariant v c.requires.own.1 c.requires.own.2 in
    (c.step_device.ensures at.view at.stands
    (own_run g.P.Port.port g.E.DeviceEnd.device.side at.made c.args.port.now c.loop-end.port v at.view c.requires.own.2 at.run)).1.left

pub loop-end-preserved : goal.loop-end-preserved
loop-end-preserved g c = λ v stands own.
    let at = c.loop-end.invariant v stands own in
    let busy : g.E.DeviceEnd.device.begun c.loop-end.end ≡ DeviceOp.idle → ⊥ = search rules in
    let s = c.step_device.ensures at.view at.stands
    (own_run g.P.Port.port g.E.DeviceEnd.device.side at.made c.args.port.now c.loop-end.port v at.view own at.run) in
    subst (λ x. DeviceGoing g.P.Port.port g.E.DeviceEnd.device (g.E.DeviceEnd.device.begun c.args.end.now) c.args.port.now v
    c.step_device.new.port c.step_device.new.end x) (sym s.2)
    (device_goes g.P.Port.port g.E.DeviceEnd.device g.met.E.DeviceEnd.device_lawful (g.E.DeviceEnd.device.begun c.args.end.now)
    c.args.port.now c.loop-end.port c.step_device.new.port v c.loop-end.end c.step_device.new.end c.loop-end.answer s.0
    c.requires.begun at busy s.1)

pub returns : goal.returns
returns g c = λ v stands own.
    let idle : g.E.DeviceEnd.device.begun c.loop-end.end ≡ DeviceOp.idle = search rules in
    device_ends g.P.Port.port g.E.DeviceEnd.device c.args.port.now c.loop-end.port v c.args.end.now c.loop-end.end c.loop-end.answer
    c.requires.begun (c.loop-end.invariant v stands own) idle
