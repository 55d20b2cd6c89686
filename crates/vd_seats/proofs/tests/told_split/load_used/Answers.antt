use Rattle.vd_words.specs.declared.access.Access.TheVariants.{Load}
use Rattle.vd_words.specs.declared.access.Op.TheVariants as op
use Rattle.vd_split.specs.laws.SplitLayout.{split_layout, split_laws}
use Rattle.vd_split.specs.DriverEnd.{split_driver}
use Rattle.vd_split.specs.DeviceEnd.{split_device}
use Rattle.std.proofs.Common.{subst}
use Rattle.vd_ring.specs.declared.driver.DriverNow.{DriverNow}
use Rattle.vd_split_ring.specs.SplitDriver.{DriverTellsAt}
use Rattle.vd_seats.specs.laws.Seat.{drivers_own, drivers_told}
use Rattle.vd_seats.proofs.tests.told_split.load_used.Goals as goal

pub access-requires : goal.access-requires
access-requires c = (drivers_own split_driver split_device split_layout split_laws c.args.port.now c.requires.0 c.requires.2).may
    op.Collect (Load c.args.place) c.requires.4

pub returns : goal.returns
returns c = λ w r at is. subst (λ (x : DriverNow). DriverTellsAt x w op.Collect (Load c.args.place) c.access.result) is
    (drivers_told split_driver split_device split_layout split_laws c.args.port.now c.access.new.self w op.Collect
    (Load c.args.place) c.access.result at c.access.ensures).1
