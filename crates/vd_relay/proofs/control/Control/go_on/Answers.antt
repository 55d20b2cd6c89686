use Rattle.std.proofs.Common.{◌≡◌, true, length, arith}
use Rattle.vd_ring.specs.History.{offers, collects}
use Rattle.vd_relay.specs.Replays.{is_over}
use Rattle.vd_relay.proofs.ModeOver.{over_now}
use Rattle.vd_relay.proofs.Modes.{carries_on}
use Rattle.vd_relay.proofs.control.Control.go_on.Goals as goal

pub returns-then-offered-collected-clause-holds : goal.returns-then-offered-collected-clause-holds
returns-then-offered-collected-clause-holds g c = λ z s n w v same h.
    let law = g.met.L.Layout.lawful in
    let over : is_over c.args.self.now.replay.stage ≡ true = grind (arith, c.over.ensures, c.if-not-over.false) in
    let even : length (offers v.done) ≡ length (collects v.done) = omega (
      arith,
      c.if-offered-collected.true,
      c.offered.ensures v h.replays.replays.drives,
      c.collected.ensures v h.replays.replays.drives,
    ) in
    carries_on g.L.Layout.layout g.L.Device.DeviceEnd.device g.L.Driver.DriverEnd.driver law.device_end law.driver_end z c.args.state.now
    c.args.self.now s n w v h same over even

pub returns-then-offered-collected-clause-over : goal.returns-then-offered-collected-clause-over
returns-then-offered-collected-clause-over g c = λ z v same h on.
    let law = g.met.L.Layout.lawful in
    let over : is_over c.args.self.now.replay.stage ≡ true = grind (arith, c.over.ensures, c.if-not-over.false) in
    let even : length (offers v.done) ≡ length (collects v.done) = omega (
      arith,
      c.if-offered-collected.true,
      c.offered.ensures v h.drives,
      c.collected.ensures v h.drives,
    ) in
    over_now g.L.Layout.layout g.L.Device.DeviceEnd.device g.L.Driver.DriverEnd.driver law.device_end law.driver_end
    c.args.self.now.replay c.args.state.now.shadow v h z same over even
