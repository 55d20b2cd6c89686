use Rattle.std.proofs.Common.{rules, ◌≡◌, sym, subst}
use Rattle.vd_ring.specs.declared.driver.DriverView.{DriverView}
use Rattle.vd_layout.specs.Begun.{DriverOp}
use Rattle.vd_layout.specs.laws.Run.{own_run}
use Rattle.vd_layout.specs.DriverFinish.{DriverGoing}
use Rattle.vd_layout.specs.laws.DriverFinish.{driver_starts, driver_goes, driver_ends}
use Rattle.vd_layout.proofs.finish.finish_driver.Goals as goal

-- the port is the end's own at the view to which it came
pub step_driver-requires-clause-own : goal.step_driver-requires-clause-own
step_driver-requires-clause-own g c =
    let v : DriverView = c.requires.own.0 in
    let at = c.loop-end.invariant v c.requires.own.1 c.requires.own.2 in (
      at.view,
      at.stands,
      own_run g.P.Port.port g.E.DriverEnd.driver.side at.made c.args.port.now c.loop-end.port v at.view
          c.requires.own.2 at.run,
    )

pub loop-end-init : goal.loop-end-init
loop-end-init g c = λ v stands own.
    driver_starts g.P.Port.port g.E.DriverEnd.driver c.args.port.now v c.args.end.now stands

pub loop-end-smaller : goal.loop-end-smaller
loop-end-smaller g c =
    let v : DriverView = c.requires.own.0 in
    let at = c.loop-end.invariant v c.requires.own.1 c.requires.own.2 in
    (c.step_driver.ensures at.view at.stands
    (own_run g.P.Port.port g.E.DriverEnd.driver.side at.made c.args.port.now c.loop-end.port v at.view c.requires.own.2 at.run)).1.left

pub loop-end-preserved : goal.loop-end-preserved
loop-end-preserved g c = λ v stands own.
    let at = c.loop-end.invariant v stands own in
    let busy : g.E.DriverEnd.driver.begun c.loop-end.end ≡ DriverOp.idle → ⊥ = search rules in
    let s = c.step_driver.ensures at.view at.stands
    (own_run g.P.Port.port g.E.DriverEnd.driver.side at.made c.args.port.now c.loop-end.port v at.view own at.run) in
    subst (λ x. DriverGoing g.P.Port.port g.E.DriverEnd.driver (g.E.DriverEnd.driver.begun c.args.end.now) c.args.port.now v
    c.step_driver.new.port c.step_driver.new.end x) (sym s.2)
    (driver_goes g.P.Port.port g.E.DriverEnd.driver g.met.E.DriverEnd.driver_lawful (g.E.DriverEnd.driver.begun c.args.end.now)
    c.args.port.now c.loop-end.port c.step_driver.new.port v c.loop-end.end c.step_driver.new.end c.loop-end.answer s.0
    c.requires.begun at busy s.1)

pub returns : goal.returns
returns g c = λ v stands own.
    let idle : g.E.DriverEnd.driver.begun c.loop-end.end ≡ DriverOp.idle = search rules in
    driver_ends g.P.Port.port g.E.DriverEnd.driver c.args.port.now c.loop-end.port v c.args.end.now c.loop-end.end c.loop-end.answer
    c.requires.begun (c.loop-end.invariant v stands own) idle
