use Rattle.std.proofs.Common.{refl}
use Rattle.vd_packed.specs.laws.Opening.{driver_fresh, kick_is}
use Rattle.vd_packed.proofs.driver.PackedDriver.make.Goals as goal

pub returns-clause-stands : goal.returns-clause-stands
returns-clause-stands c = λ f made same. driver_fresh _ f made refl refl c.first_ring_position.ensures c.first_ring_position-2.ensures
    refl refl refl c.in_ok-free.ensures.0 c.in_ok-free.ensures.1 c.in_ok-slots.ensures
    (kick_is c.args.size c.kick_place.result c.args.features c.args.control f made.sized made.featured same c.kick_place.ensures) refl
    refl refl refl
