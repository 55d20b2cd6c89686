use Rattle.std.proofs.Common.{sym, subst}
use Rattle.vd_relay.specs.declared.control.Mode.{Mode}
use Rattle.vd_relay.specs.Modes.{Does, carries_from}
use Rattle.vd_relay.proofs.Modes.{carrying_of}
use Rattle.vd_relay.proofs.winding.wind_up_control.Goals as goal

pub returns-in-Carrying-clause-holds : goal.returns-in-Carrying-clause-holds
returns-in-Carrying-clause-holds g c = λ z s n w v h.
    let l = g.L.Layout.layout in
    let e = g.L.Device.DeviceEnd.device in
    let d = g.L.Driver.DriverEnd.driver in
    let k = c.args.control.now in
    record {
      again = h.again;
      done = h.done;
      does = subst (λ (m : Mode). Does m l e d z c.wind_up.new.state k s n w v) (sym c.in-Carrying.is)
          (c.wind_up.ensures.commands (carries_from z k.replay.next) k.commander s n w v
          (carrying_of l e d z c.args.state.now k s n w v h c.in-Carrying.is));
    }
