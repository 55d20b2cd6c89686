use Rattle.vd_layout.specs.laws.Runs.{device_on}
use Rattle.vd_seats.proofs.tests.run.serve.Goals as goal

pub turn_device-requires : goal.turn_device-requires
turn_device-requires g c = let at = c.loop.invariant.2 c.requires.0 c.requires.1 in (at.view, at.on)

pub loop-preserved-in-Some-turn_device : goal.loop-preserved-in-Some-turn_device
loop-preserved-in-Some-turn_device g c = (
  tt,
  tt,
  λ w on.
      let at = c.loop.invariant.2 w on in
      device_on _ _ _ _ _ _ _ _ at (c.turn_device.ensures at.view at.on),
)

pub loop-preserved : goal.loop-preserved
loop-preserved g c = (
  tt,
  tt,
  λ w on.
      let at = c.loop.invariant.2 w on in
      device_on _ _ _ _ _ _ _ _ at (c.turn_device.ensures at.view at.on),
)
