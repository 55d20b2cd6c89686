use Rattle.vd_words.specs.declared.access.Access.TheVariants.{Load}
use Rattle.vd_words.specs.declared.access.Op.TheVariants as op
use Rattle.vd_packed.specs.laws.PackedLayout.{packed_layout, packed_laws}
use Rattle.vd_packed.specs.DriverEnd.{packed_driver}
use Rattle.vd_packed.specs.DeviceEnd.{packed_device}
use Rattle.std.proofs.Common.{subst}
use Rattle.vd_ring.specs.declared.device.DeviceNow.{DeviceNow}
use Rattle.vd_packed_ring.specs.PackedDevice.{DeviceTellsAt}
use Rattle.vd_seats.specs.laws.Seat.{devices_own, devices_told}
use Rattle.vd_seats.proofs.tests.told_packed.look_device.Goals as goal

pub access-requires : goal.access-requires
access-requires c = (devices_own packed_driver packed_device packed_layout packed_laws c.args.port.now c.requires.0 c.requires.1).may
    op.Take (Load c.args.place) c.requires.3

pub returns : goal.returns
returns c = λ w at is. subst (λ (x : DeviceNow). DeviceTellsAt x w op.Take (Load c.args.place) c.access.result) is
    (devices_told packed_driver packed_device packed_layout packed_laws c.args.port.now c.access.new.self w op.Take
    (Load c.args.place) c.access.result at c.access.ensures).1
