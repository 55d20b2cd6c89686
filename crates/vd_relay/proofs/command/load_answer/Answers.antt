use Rattle.vd_relay.specs.Tie.{guests}
use Rattle.vd_relay.specs.Commanding.{carries}
use Rattle.vd_relay.proofs.CarryMarks.{rows_few}
use Rattle.vd_relay.proofs.CarryFinds.{has_collected}
use Rattle.vd_relay.proofs.CarryTurns.{on_load_ack}
use Rattle.vd_relay.proofs.command.load_answer.Goals as goal

pub load_ack-ack-requires : goal.load_ack-ack-requires
load_ack-ack-requires g c =
    let o = c.requires in
    let k = o.2 in (
      o.1,
      k.commands.in_hand.0,
      has_collected g.L.Layout.layout g.L.Device.DeviceEnd.device g.L.Driver.DriverEnd.driver k.from
          c.args.state.now c.args.commands.now c.args.settings.now o.0 o.1 c.args.head c.args.command k.commands,
      o.3,
    )

pub acknowledge-requires-clause-few : goal.acknowledge-requires-clause-few
acknowledge-requires-clause-few g c = c.requires.2.commands.in_hand.5.few

pub acknowledge-requires-clause-each_few : goal.acknowledge-requires-clause-each_few
acknowledge-requires-clause-each_few g c =
    let k = c.requires.2 in
    rows_few (guests (carries k.from)) c.args.commands.now _ _ _ _ k.commands.carried.keeps

pub returns-clause-load : goal.returns-clause-load
returns-clause-load g c = λ z w v h.
    let l = g.L.Layout.layout in
    let e = g.L.Device.DeviceEnd.device in
    let d = g.L.Driver.DriverEnd.driver in
    let t = c.args.commands.now in
    on_load_ack g.Q.Port.port l e d z c.args.port.now c.load_ack-ack.new.port c.args.state.now t c.args.settings.now w v
    g.met.L.Layout.lawful.device_end g.met.L.Layout.lawful.driver_end c.args.head c.args.command c.load_ack-ack.result
    c.acknowledge.new.commands c.acknowledge.new.settings c.acknowledge.ensures.marked c.acknowledge.ensures.value h
    (c.load_ack-ack.ensures v h.in_hand.0
    (has_collected l e d z c.args.state.now t c.args.settings.now w v c.args.head c.args.command h))
