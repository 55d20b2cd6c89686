use Rattle.vd_layout.specs.laws.Runs.{driver_on}
use Rattle.vd_seats.proofs.tests.turns.work_driver.Goals as goal

pub collect_one-requires : goal.collect_one-requires
collect_one-requires g c = let o = c.offer_one-offered.ensures c.requires.0 c.requires.1 c.requires.2 in (o.view, o.on)

pub arm_driver-requires : goal.arm_driver-requires
arm_driver-requires g c = let o = c.offer_one-offered.ensures c.requires.0 c.requires.1 c.requires.2 in let k =
    c.collect_one.ensures o.view o.on in (k.view, k.on)

pub returns : goal.returns
returns g c = λ v on bare.
    let o = c.offer_one-offered.ensures v on bare in let k = c.collect_one.ensures o.view o.on in
    driver_on _ _ _ _ _ _ _ _ o (driver_on _ _ _ _ _ _ _ _ k (c.arm_driver.ensures k.view k.on))
