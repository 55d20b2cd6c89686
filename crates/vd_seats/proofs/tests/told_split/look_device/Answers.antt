use Rattle.vd_words.specs.declared.access.Access.TheVariants.{Load}
use Rattle.vd_words.specs.declared.access.Op.TheVariants as op
use Rattle.vd_split.specs.laws.SplitLayout.{split_layout, split_laws}
use Rattle.vd_split.specs.DriverEnd.{split_driver}
use Rattle.vd_split.specs.DeviceEnd.{split_device}
use Rattle.std.proofs.Common.{subst}
use Rattle.vd_ring.specs.declared.device.DeviceNow.{DeviceNow}
use Rattle.vd_split_ring.specs.SplitDevice.{DeviceTellsAt}
use Rattle.vd_seats.specs.laws.Seat.{devices_own, devices_told}
use Rattle.vd_seats.proofs.tests.told_split.look_device.Goals as goal

pub access-requires : goal.access-requires
access-requires c = (devices_own split_driver split_device split_layout split_laws c.args.port.now c.requires.0 c.requires.1).may
    op.Take (Load c.args.place) c.requires.3

pub returns : goal.returns
returns c = λ w at is. subst (λ (x : DeviceNow). DeviceTellsAt x w op.Take (Load c.args.place) c.access.result) is
    (devices_told split_driver split_device split_layout split_laws c.args.port.now c.access.new.self w op.Take
    (Load c.args.place) c.access.result at c.access.ensures).1
