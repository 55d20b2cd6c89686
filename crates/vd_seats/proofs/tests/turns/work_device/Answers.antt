use Rattle.vd_layout.specs.laws.Runs.{device_on}
use Rattle.vd_seats.proofs.tests.turns.work_device.Goals as goal

pub arm_device-requires : goal.arm_device-requires
arm_device-requires g c = let t = c.take_one.ensures c.requires.0 c.requires.1 in (t.view, t.on)

pub give_one-requires : goal.give_one-requires
give_one-requires g c = let t = c.take_one.ensures c.requires.0 c.requires.1 in (t.view, t.on)

pub returns-in_default : goal.returns-in_default
returns-in_default g c = λ w on.
    let t = c.take_one.ensures w on in
    device_on _ _ _ _ _ _ _ _ t (c.arm_device.ensures t.view t.on)

pub returns : goal.returns
returns g c = λ w on.
    let t = c.take_one.ensures w on in
    device_on _ _ _ _ _ _ _ _ t (c.give_one.ensures t.view t.on)
