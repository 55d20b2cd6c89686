use Rattle.vd_layout.specs.laws.Runs.{driver_ran}
use Rattle.vd_seats.proofs.tests.turns.hear_driver.Goals as goal

pub returns : goal.returns
returns g c = λ v on.
    driver_ran g.P.Port.port g.E.DriverEnd.driver g.met.E.DriverEnd.driver_lawful c.args.port.now c.finish_driver.new.port v
    c.args.end.now c.begin_hear.new.self c.finish_driver.new.end c.finish_driver.result on
    (c.finish_driver.ensures v (c.begin_hear.ensures.stands v on.stands) on.own)
