-- Both ends of a fresh ring on its two seats, and the same ends after their runs.
use Rattle.std.proofs.Common.{◌≡◌, ℕ, Bool, sym, ◌∙◌}
use Rattle.atomic_table.specs.Seated.{TableId}
use Rattle.vd_model.specs.declared.features.Features.{Features}
use Rattle.vd_ring.specs.declared.device.DeviceView.{DeviceView}
use Rattle.vd_ring.specs.declared.driver.DriverView.{DriverView}
use Rattle.vd_ring.specs.declared.frame.Frame.{Frame}
use Rattle.vd_ring.specs.Fresh.{fresh_driver, fresh_device}
use Rattle.vd_layout.specs.Driver.{DriverModel}
use Rattle.vd_layout.specs.Device.{DeviceModel}
use Rattle.vd_layout.specs.Runs.{DriverOn, DeviceOn, DriverRan, DeviceRan}
use Rattle.vd_layout.specs.Layout.{LayoutModel, IsMadeWith, IsFresh, IsLawfulLayout}
use Rattle.vd_seats.specs.declared.view.View.TheVariants.{Driver, Device}
use Rattle.vd_seats.specs.Seat.{SeatState, AreSeats, port_of}
use Rattle.vd_seats.specs.laws.Seat.{drivers_own, devices_own, drives_run, serves_run}

module _ {D E : Type 0} (d : DriverModel D) (e : DeviceModel E) (l : LayoutModel) (law : IsLawfulLayout d e l) where
  pub starts : {size : ℕ} {f : Features} {control : Bool} {x : D} {y : E} {g : Frame} {table : TableId} {first second : SeatState}
      → IsFresh d e l size f control x y → IsMadeWith l size f control g → AreSeats l g table first second
      → DriverOn (port_of d e l) d first (fresh_driver g (l.width g)) x
  starts {g = g} {first = first} fresh made seats = record {
    stands = fresh.drives g made;
    idle = fresh.driver_idle;
    own = drivers_own d e l law first (fresh_driver g (l.width g)) seats.drives;
  }

  pub waits : {size : ℕ} {f : Features} {control : Bool} {x : D} {y : E} {g : Frame} {table : TableId} {first second : SeatState}
      → IsFresh d e l size f control x y → IsMadeWith l size f control g → AreSeats l g table first second
      → DeviceOn (port_of d e l) e second (fresh_device g (l.width g)) y
  waits {g = g} {second = second} fresh made seats = record {
    stands = fresh.serves g made;
    idle = fresh.device_idle;
    own = devices_own d e l law second (fresh_device g (l.width g)) seats.serves;
    awake = fresh.awake;
  }

  -- after its run each seat is still the table's, with a view for which its end stands
  pub driven : {g : Frame} {table : TableId} {first second t : SeatState} {x : D} → AreSeats l g table first second
      → DriverRan (port_of d e l) d first (fresh_driver g (l.width g)) t x → ((v : DriverView) × (t.view ≡ Driver v) × d.stands x v)
      × (t.table ≡ table)
  driven {g = g} {first = first} {t = t} seats ran =
      let run = drives_run d e l law ran.made first t (fresh_driver g (l.width g)) ran.view seats.drives ran.run in
      ((ran.view, run.0.view, ran.on.stands), sym run.1.table ∙ seats.tables.0)

  pub served : {g : Frame} {table : TableId} {first second t : SeatState} {y : E} → AreSeats l g table first second
      → DeviceRan (port_of d e l) e second (fresh_device g (l.width g)) t y → ((w : DeviceView) × (t.view ≡ Device w) × e.stands y w)
      × (t.table ≡ table)
  served {g = g} {second = second} {t = t} seats ran =
      let run = serves_run d e l law ran.made second t (fresh_device g (l.width g)) ran.view seats.serves ran.run in
      ((ran.view, run.0.view, ran.on.stands), sym run.1.table ∙ seats.tables.1)
