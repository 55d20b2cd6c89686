use Rattle.std.proofs.Common.{refl}
use Rattle.vd_split.specs.laws.Opening.{driver_fresh}
use Rattle.vd_split.specs.laws.DriverBells.{kick_is}
use Rattle.vd_split.proofs.driver.SplitDriver.make.Goals as goal

pub returns-clause-stands : goal.returns-clause-stands
returns-clause-stands c = λ f made same. driver_fresh _ f made refl refl refl refl c.in_ok-free.ensures.0 c.in_ok-free.ensures.1
    c.in_ok-slots.ensures c.in_ok-area.ensures refl refl
    (kick_is c.args.size c.kick_place.result c.args.features c.args.control f made.sized made.featured same c.kick_place.ensures) refl
    refl refl
