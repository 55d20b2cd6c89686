use Rattle.std.proofs.Common.{◌+◌, arith}
use Rattle.vd_relay.proofs.CarryFinds.{second_free, finds_next}
use Rattle.vd_relay.proofs.CarryTurns.{on_store_second}
use Rattle.vd_relay.proofs.command.store_second.Goals as goal

pub next_word-place-requires : goal.next_word-place-requires
next_word-place-requires g c =
    let o = c.requires in
    let k = o.4 in (
      o.3,
      second_free g.L.Layout.layout g.L.Device.DeviceEnd.device g.L.Driver.DriverEnd.driver k.from c.args.state.now o.0 o.1 o.2 o.3
          c.args.command k.commands,
      k.commands.still.1,
    )

pub store_command-requires : goal.store_command-requires
store_command-requires g c =
    let o = c.requires in
    let k = o.4 in
    let l = g.L.Layout.layout in
    let d = g.L.Driver.DriverEnd.driver in
    let free = second_free l g.L.Device.DeviceEnd.device d k.from c.args.state.now o.0 o.1 o.2 o.3 c.args.command k.commands in (
      o.3,
      1,
      finds_next l d c.args.state.now.shadow o.3 1 (c.next_word-place.result + 1) (omega arith)
          (omega (arith, c.next_word-place.ensures.value o.3 free)) free k.commands.still.1,
      o.5,
    )

pub returns : goal.returns
returns g c = λ z t s w v h.
    let l = g.L.Layout.layout in
    let e = g.L.Device.DeviceEnd.device in
    let d = g.L.Driver.DriverEnd.driver in
    let free = second_free l e d z c.args.state.now t s w v c.args.command h in
    on_store_second g.Q.Port.port l e d z c.args.port.now c.store_command.new.port c.args.state.now t s w v c.args.command (c.next_word-place.result + 1) h
    (c.store_command.ensures v 1 (finds_next l d c.args.state.now.shadow v 1 (c.next_word-place.result + 1) (omega arith)
    (omega (arith, c.next_word-place.ensures.value v free)) free h.still.1))
