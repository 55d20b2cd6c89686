use Rattle.vd_relay.specs.Tie.{guests}
use Rattle.vd_relay.specs.Commanding.{carries}
use Rattle.vd_relay.proofs.CarryFinds.{finds_ack}
use Rattle.vd_relay.proofs.CarryTurns.{on_store_ack}
use Rattle.vd_relay.proofs.command.store_answer.Goals as goal

pub store_ack-requires : goal.store_ack-requires
store_ack-requires g c =
    let o = c.requires in
    let k = o.4 in (
      o.2,
      guests (carries k.from) k.commands.in_hand.0,
      finds_ack g.L.Layout.layout g.L.Device.DeviceEnd.device
          g.L.Driver.DriverEnd.driver k.from c.args.state.now o.0 o.1 o.2 o.3 c.args.place c.args.ack k.commands,
      o.5,
    )

pub returns : goal.returns
returns g c = λ z t s w v h.
    let l = g.L.Layout.layout in
    let e = g.L.Device.DeviceEnd.device in
    let d = g.L.Driver.DriverEnd.driver in
    on_store_ack g.P.Port.port l e d z c.args.port.now c.store_ack.new.port c.args.state.now t s w v c.args.place c.args.ack h
    (c.store_ack.ensures w (guests (carries z) h.in_hand.0) (finds_ack l e d z c.args.state.now t s w v c.args.place c.args.ack h))
