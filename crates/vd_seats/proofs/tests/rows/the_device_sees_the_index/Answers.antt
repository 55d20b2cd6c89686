use Rattle.std.proofs.Common.{refl}
use Rattle.vd_split.specs.laws.SplitLayout.{split_layout, split_laws}
use Rattle.vd_split.specs.DriverEnd.{split_driver}
use Rattle.vd_split.specs.DeviceEnd.{split_device}
use Rattle.vd_seats.specs.laws.Fresh.{starts}
use Rattle.vd_seats.proofs.tests.rows.the_device_sees_the_index.Goals as goal

pub offer_one-requires : goal.offer_one-requires
offer_one-requires g c = (
  _,
  starts split_driver split_device split_layout split_laws c.in_ok-driver.ensures
      (record { packed = refl; size = refl; features = refl; control = refl }) c.in_ok-_table.ensures,
  record { unbounded = refl; uncontrolled = refl },
)
