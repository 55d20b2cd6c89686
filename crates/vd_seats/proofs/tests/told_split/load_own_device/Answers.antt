use Rattle.vd_words.specs.declared.access.Access.TheVariants.{Load}
use Rattle.vd_split.specs.laws.SplitLayout.{split_layout, split_laws}
use Rattle.vd_split.specs.DriverEnd.{split_driver}
use Rattle.vd_split.specs.DeviceEnd.{split_device}
use Rattle.vd_seats.specs.laws.Seat.{devices_own, devices_told}
use Rattle.vd_seats.proofs.tests.told_split.load_own_device.Goals as goal

pub access-requires : goal.access-requires
access-requires c = (devices_own split_driver split_device split_layout split_laws c.args.port.now c.requires.0 c.requires.1).may
    c.args.op (Load c.args.place) c.requires.2

pub returns : goal.returns
returns c = λ w at is. (devices_told split_driver split_device split_layout split_laws c.args.port.now c.access.new.self w c.args.op
    (Load c.args.place) c.access.result at c.access.ensures).0 is
