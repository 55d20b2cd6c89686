use Rattle.vd_words.specs.declared.access.Access.TheVariants.{Load}
use Rattle.vd_words.specs.declared.access.Op.TheVariants as op
use Rattle.vd_split.specs.laws.SplitLayout.{split_layout, split_laws}
use Rattle.vd_split.specs.DriverEnd.{split_driver}
use Rattle.vd_split.specs.DeviceEnd.{split_device}
use Rattle.vd_seats.proofs.Around.{driver_stepped}
use Rattle.vd_seats.specs.laws.Seat.{drivers_own}
use Rattle.vd_seats.proofs.tests.told_split.look_published.Goals as goal

pub access-requires : goal.access-requires
access-requires c = (drivers_own split_driver split_device split_layout split_laws c.args.port.now c.requires.0 c.requires.1).may
    op.Collect (Load c.args.place) c.requires.2

pub returns : goal.returns
returns c = λ v at next.
    let h = driver_stepped split_driver split_device split_layout split_laws c.args.port.now c.access.new.self v op.Collect
    (Load c.args.place) c.access.result at next c.access.ensures in
    (h.words, h.other, h.before, h.after.driver_seen)
