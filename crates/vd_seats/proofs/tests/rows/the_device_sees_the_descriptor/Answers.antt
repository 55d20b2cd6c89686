use Rattle.std.proofs.Common.{refl}
use Rattle.vd_packed.specs.laws.PackedLayout.{packed_layout, packed_laws}
use Rattle.vd_packed.specs.DriverEnd.{packed_driver}
use Rattle.vd_packed.specs.DeviceEnd.{packed_device}
use Rattle.vd_seats.specs.laws.Fresh.{starts}
use Rattle.vd_seats.proofs.tests.rows.the_device_sees_the_descriptor.Goals as goal

pub offer_one-requires : goal.offer_one-requires
offer_one-requires g c = (
  _,
  starts packed_driver packed_device packed_layout packed_laws c.in_ok-driver.ensures
      (record { packed = refl; size = refl; features = refl; control = refl }) c.in_ok-_table.ensures,
  record { unbounded = refl; uncontrolled = refl },
)
