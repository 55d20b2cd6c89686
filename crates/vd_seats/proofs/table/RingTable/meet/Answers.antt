use Rattle.std.proofs.Common.{ap, ◌∙◌}
use Rattle.vd_seats.specs.Seat.{SeatState}
use Rattle.vd_seats.specs.laws.Closing.{meets, meets_at}
use Rattle.vd_seats.proofs.table.RingTable.meet.Goals as goal

pub returns : goal.returns
returns g c = λ v w is is'.
    meets g.L.Driver.DriverEnd.driver g.L.Device.DeviceEnd.device g.L.Layout.layout g.met.L.Layout.lawful v w
    (meets_at g.L.Layout.layout.ring c.driver.inside.seat.me.0 c.device.inside.seat.me.0 v w
    (ap (λ (s : SeatState). s.view) c.driver.view_is ∙ is) (ap (λ (s : SeatState). s.view) c.device.view_is ∙ is') c.join_seats.ensures)
