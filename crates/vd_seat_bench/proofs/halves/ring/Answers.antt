use Rattle.std.proofs.Common.{refl}
use Rattle.vd_seats.specs.laws.Fresh.{starts, waits}
use Rattle.vd_seat_bench.proofs.halves.ring.Goals as goal

pub invariant_of-driver : goal.invariant_of-driver
invariant_of-driver g c =
    let d = g.L.Driver.DriverEnd.driver in let e = g.L.Device.DeviceEnd.device in let l = g.L.Layout.layout in let law =
    g.met.L.Layout.lawful in
    record {
      view = _;
      at = c.in_ok-table.ensures.drives;
      on = starts d e l law c.in_ok-driver.ensures (record { packed = refl; size = refl; features = refl; control = refl })
          c.in_ok-table.ensures;
      bare = record { unbounded = refl; uncontrolled = refl };
    }

pub invariant_of-device : goal.invariant_of-device
invariant_of-device g c =
    let d = g.L.Driver.DriverEnd.driver in let e = g.L.Device.DeviceEnd.device in let l = g.L.Layout.layout in let law =
    g.met.L.Layout.lawful in
    record {
      view = _;
      at = c.in_ok-table.ensures.serves;
      on = waits d e l law c.in_ok-driver.ensures (record { packed = refl; size = refl; features = refl; control = refl })
          c.in_ok-table.ensures;
    }
