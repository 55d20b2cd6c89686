-- Lemmas: an idle end and the seat's port on which it works.
use Rattle.std.proofs.Common.{◌≡◌, sym, subst}
use Rattle.vd_ring.specs.declared.act.DriverAct.{DriverAct}
use Rattle.vd_ring.specs.declared.act.DeviceAct.{DeviceAct}
use Rattle.vd_layout.specs.Begun.{DeviceOp}
use Rattle.vd_layout.specs.Driver.{DriverModel}
use Rattle.vd_layout.specs.Device.{DeviceModel}
use Rattle.vd_layout.specs.DriverFinish.{IsDriverFinish}
use Rattle.vd_layout.specs.DeviceFinish.{IsDeviceFinish}
use Rattle.vd_layout.specs.Layout.{LayoutModel, IsLawfulLayout}
use Rattle.vd_layout.specs.laws.Runs.{driver_ran, device_ran}
use Rattle.vd_seats.specs.Open.{IsOpen}
use Rattle.vd_seats.specs.Seat.{SeatState, port_of}
use Rattle.vd_seats.specs.laws.Seat.{drives_run, serves_run}
use Rattle.vd_seat_bench.specs.Halves.{IsDriverHalf, IsDeviceHalf}

-- an operation was finished
pub finished_driver : {D E : Type 0} (d : DriverModel D) (e : DeviceModel E) (l : LayoutModel) (law : IsLawfulLayout d e l)
    (x x' x'' : D) (s t : SeatState) (answer : DriverAct) → (h : IsDriverHalf d e l x s)
    → IsDriverFinish (port_of d e l) d s t h.view x' x'' answer → IsDriverHalf d e l x'' t × (t.table ≡ s.table)
finished_driver d e l law x x' x'' s t answer h f =
    let ran = driver_ran (port_of d e l) d law.driver_end s t h.view x x' x'' answer h.on f in
    let run = drives_run d e l law ran.made s t h.view ran.view h.at ran.run in
    (record { view = ran.view; at = run.0; on = ran.on; bare = subst IsOpen (sym ran.framed) h.bare }, sym run.1.table)

pub finished_device : {D E : Type 0} (d : DriverModel D) (e : DeviceModel E) (l : LayoutModel) (law : IsLawfulLayout d e l)
    (y y' y'' : E) (s t : SeatState) (answer : DeviceAct) → (h : IsDeviceHalf d e l y s) → (e.begun y' ≡ DeviceOp.rest → ⊥)
    → IsDeviceFinish (port_of d e l) e s t h.view y' y'' answer → IsDeviceHalf d e l y'' t × (t.table ≡ s.table)
finished_device d e l law y y' y'' s t answer h ne f =
    let ran = device_ran (port_of d e l) e law.device_end s t h.view y y' y'' answer h.on ne f in
    let run = serves_run d e l law ran.made s t h.view ran.view h.at ran.run in
    (record { view = ran.view; at = run.0; on = ran.on }, sym run.1.table)
