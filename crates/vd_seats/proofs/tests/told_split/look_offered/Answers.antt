use Rattle.vd_words.specs.declared.access.Access.TheVariants.{Load}
use Rattle.vd_words.specs.declared.access.Op.TheVariants as op
use Rattle.vd_split.specs.laws.SplitLayout.{split_layout, split_laws}
use Rattle.vd_split.specs.DriverEnd.{split_driver}
use Rattle.vd_split.specs.DeviceEnd.{split_device}
use Rattle.vd_seats.proofs.Around.{device_stepped}
use Rattle.vd_seats.specs.laws.Seat.{devices_own}
use Rattle.vd_seats.proofs.tests.told_split.look_offered.Goals as goal

pub access-requires : goal.access-requires
access-requires c = (devices_own split_driver split_device split_layout split_laws c.args.port.now c.requires.0 c.requires.1).may
    op.Take (Load c.args.place) c.requires.2

pub returns : goal.returns
returns c = λ v at next.
    let h = device_stepped split_driver split_device split_layout split_laws c.args.port.now c.access.new.self v op.Take
    (Load c.args.place) c.access.result at next c.access.ensures in
    (h.words, h.other, h.before, h.after.device_seen)
