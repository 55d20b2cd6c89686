use Rattle.vd_words.specs.declared.access.Access.TheVariants.{Load}
use Rattle.vd_packed.specs.laws.PackedLayout.{packed_layout, packed_laws}
use Rattle.vd_packed.specs.DriverEnd.{packed_driver}
use Rattle.vd_packed.specs.DeviceEnd.{packed_device}
use Rattle.vd_seats.specs.laws.Seat.{drivers_own, drivers_told}
use Rattle.vd_seats.proofs.tests.told_packed.load_own_driver.Goals as goal

pub access-requires : goal.access-requires
access-requires c = (drivers_own packed_driver packed_device packed_layout packed_laws c.args.port.now c.requires.0 c.requires.1).may
    c.args.op (Load c.args.place) c.requires.2

pub returns : goal.returns
returns c = λ w at is. (drivers_told packed_driver packed_device packed_layout packed_laws c.args.port.now c.access.new.self w c.args.op
    (Load c.args.place) c.access.result at c.access.ensures).0 is
