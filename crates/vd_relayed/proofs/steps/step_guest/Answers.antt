use Rattle.vd_words.specs.Step.{written}
use Rattle.vd_layout.specs.laws.Plain.{plain_step, own_plain_driver}
use Rattle.vd_relayed.proofs.steps.step_guest.Goals as goal

pub step-requires-clause-own : goal.step-requires-clause-own
step-requires-clause-own g c =
    let r = c.requires.on in (
      r.1,
      r.5,
      own_plain_driver g.P.Port.port g.met.P.Port.lawful g.L.Driver.DriverEnd.driver g.L.Device.DeviceEnd.device
          g.L.Layout.layout g.met.L.Layout.lawful c.args.port.now r.0 r.1 r.2 r.3 r.4,
    )

pub returns : goal.returns
returns g c = λ ws v w plain ring holds.
    let law = g.met.L.Layout.lawful in
    let side = g.L.Driver.DriverEnd.driver.side in
    let own = own_plain_driver g.P.Port.port g.met.P.Port.lawful g.L.Driver.DriverEnd.driver g.L.Device.DeviceEnd.device
    g.L.Layout.layout law c.args.port.now ws v w plain ring in
    let s = c.step.ensures v holds own in
    let m = plain_step g.P.Port.port g.met.P.Port.lawful side
    (λ us u. g.L.Layout.layout.ring us u w) c.args.port.now c.step.new.port ws v s.op s.access s.got
    (law.driver_keeps ws v w s.op s.access ring s.was_next) plain s.moved in
    record {
      words = written ws s.access;
      same = m.same;
      plain = m.plain;
      made = s;
      ring = m.meets;
    }
