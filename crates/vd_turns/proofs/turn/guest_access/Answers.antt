use Rattle.vd_layout.specs.laws.Plain.{own_plain_driver}
use Rattle.vd_turns.proofs.Turning.{guest_on}
use Rattle.vd_turns.proofs.turn.guest_access.Goals as goal

pub step-requires-clause-own : goal.step-requires-clause-own
step-requires-clause-own g c =
    let h = c.requires.on in
    let o = h.2 in (
      o.0,
      o.3,
      own_plain_driver g.P.Port.port g.met.P.Port.lawful g.L.Driver.DriverEnd.driver g.L.Device.DeviceEnd.device
          g.L.Layout.layout g.met.L.Layout.lawful c.args.port.now h.0 o.0 o.1 h.1 o.2,
    )

pub returns : goal.returns
returns g c = λ ws v w plain ring holds.
    guest_on g.P.Port.port g.met.P.Port.lawful g.L.Driver.DriverEnd.driver g.L.Device.DeviceEnd.device g.L.Layout.layout g.G.Guest.party
    g.met.L.Layout.lawful c.args.port.now c.step.new.port ws v w c.args.guest.now c.step.new.self c.step.result plain ring
    (c.step.ensures v holds (own_plain_driver g.P.Port.port g.met.P.Port.lawful g.L.Driver.DriverEnd.driver g.L.Device.DeviceEnd.device
    g.L.Layout.layout g.met.L.Layout.lawful c.args.port.now ws v w plain ring))
