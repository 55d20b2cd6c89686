use Rattle.std.proofs.Common.{sym, subst}
use Rattle.vd_seats.specs.Open.{IsOpen}
use Rattle.vd_layout.specs.laws.Runs.{driver_on}
use Rattle.vd_seats.proofs.tests.run.drive.Goals as goal

pub turn_driver-requires : goal.turn_driver-requires
turn_driver-requires g c = let at = c.loop.invariant.2 c.requires.0 c.requires.1 c.requires.2 in
    (at.view, at.on, subst IsOpen (sym at.framed) c.requires.2)

pub loop-preserved-in-Some-turn_driver : goal.loop-preserved-in-Some-turn_driver
loop-preserved-in-Some-turn_driver g c = (
  tt,
  tt,
  λ v on bare.
      let at = c.loop.invariant.2 v on bare in
      driver_on _ _ _ _ _ _ _ _ at (c.turn_driver.ensures at.view at.on (subst IsOpen (sym at.framed) bare)),
)

pub loop-preserved : goal.loop-preserved
loop-preserved g c = (
  tt,
  tt,
  λ v on bare.
      let at = c.loop.invariant.2 v on bare in
      driver_on _ _ _ _ _ _ _ _ at (c.turn_driver.ensures at.view at.on (subst IsOpen (sym at.framed) bare)),
)
