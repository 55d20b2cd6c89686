use Rattle.std.proofs.Common.{refl}
use Rattle.vd_seats.specs.laws.Fresh.{starts, waits, driven, served}
use Rattle.vd_seats.proofs.tests.run.move_all.Goals as goal

pub run_two-driver-requires-clause-drives : goal.run_two-driver-requires-clause-drives
run_two-driver-requires-clause-drives g c κs within =
    let d = g.L.Driver.DriverEnd.driver in let e = g.L.Device.DeviceEnd.device in let l = g.L.Layout.layout in let law =
    (g.met.L.Layout g.world.𝓛 g.world.𝓜 g.world.𝓡 ((λ s x. x), (λ x. x), (λ x. x), λ x. x)).lawful in
    let fresh = c.in_ok-driver.ensures in let seats = c.in_ok-table.ensures in (
      _,
      starts d e l law fresh (record { packed = refl; size = refl; features = refl; control = refl }) seats,
      record { unbounded = refl; uncontrolled = refl },
    )

pub run_two-driver-requires-clause-serves : goal.run_two-driver-requires-clause-serves
run_two-driver-requires-clause-serves g c κs within =
    let d = g.L.Driver.DriverEnd.driver in let e = g.L.Device.DeviceEnd.device in let l = g.L.Layout.layout in let law =
    (g.met.L.Layout g.world.𝓛 g.world.𝓜 g.world.𝓡 ((λ s x. x), (λ x. x), (λ x. x), λ x. x)).lawful in
    let fresh = c.in_ok-driver.ensures in let seats = c.in_ok-table.ensures in
    (_, waits d e l law fresh (record { packed = refl; size = refl; features = refl; control = refl }) seats)

pub close-counts-requires-clause-table : goal.close-counts-requires-clause-table
close-counts-requires-clause-table g c =
    let d = g.L.Driver.DriverEnd.driver in let e = g.L.Device.DeviceEnd.device in let l = g.L.Layout.layout in let law =
    (g.met.L.Layout g.world.𝓛 g.world.𝓜 g.world.𝓡 ((λ s x. x), (λ x. x), (λ x. x), λ x. x)).lawful in
    let fresh = c.in_ok-driver.ensures in let seats = c.in_ok-table.ensures in (
      (driven d e l law seats (c.run_two-driver.ensures.drives _
          (starts d e l law fresh (record { packed = refl; size = refl; features = refl; control = refl }) seats)
          (record { unbounded = refl; uncontrolled = refl }))).1,
      (served d e l law seats (c.run_two-driver.ensures.serves _
          (waits d e l law fresh (record { packed = refl; size = refl; features = refl; control = refl }) seats))).1,
    )

pub close-counts-requires-clause-drives : goal.close-counts-requires-clause-drives
close-counts-requires-clause-drives g c =
    let d = g.L.Driver.DriverEnd.driver in let e = g.L.Device.DeviceEnd.device in let l = g.L.Layout.layout in let law =
    (g.met.L.Layout g.world.𝓛 g.world.𝓜 g.world.𝓡 ((λ s x. x), (λ x. x), (λ x. x), λ x. x)).lawful in
    let fresh = c.in_ok-driver.ensures in let seats = c.in_ok-table.ensures in
    (driven d e l law seats (c.run_two-driver.ensures.drives _
    (starts d e l law fresh (record { packed = refl; size = refl; features = refl; control = refl }) seats)
    (record { unbounded = refl; uncontrolled = refl }))).0

pub close-counts-requires-clause-serves : goal.close-counts-requires-clause-serves
close-counts-requires-clause-serves g c =
    let d = g.L.Driver.DriverEnd.driver in let e = g.L.Device.DeviceEnd.device in let l = g.L.Layout.layout in let law =
    (g.met.L.Layout g.world.𝓛 g.world.𝓜 g.world.𝓡 ((λ s x. x), (λ x. x), (λ x. x), λ x. x)).lawful in
    let fresh = c.in_ok-driver.ensures in let seats = c.in_ok-table.ensures in
    (served d e l law seats (c.run_two-driver.ensures.serves _
    (waits d e l law fresh (record { packed = refl; size = refl; features = refl; control = refl }) seats))).0
