use Rattle.std.proofs.Common.{sym, ◌∙◌}
use Rattle.vd_relay.proofs.Begins.{wound_awake}
use Rattle.vd_relay.proofs.CommandWinds.{command_wound, command_roused}
use Rattle.vd_relay.proofs.winding.wind_up.Goals as goal
use Rattle.vd_relay.proofs.winding.wind_up.Goals.{else-is_hearing-via-then-is_hearing+then-idle+else-idle-2, else-is_hearing-via-then-is_hearing+else-idle, else-is_hearing-via-else-is_hearing}

pub returns-then-idle-2-clause-holds : goal.returns-then-idle-2-clause-holds
returns-then-idle-2-clause-holds g c = λ z n w v h.
    let law = g.met.L.Layout.lawful in
    wound_awake g.L.Device.DeviceEnd.device g.L.Driver.DriverEnd.driver law.device_end law.driver_end z c.args.state.now n c.args.given
    c.after_sleep-state.result w v c.requires.once (sym c.is_hearing.ensures ∙ c.if-is_hearing.true)
    (c.idle.ensures.0 c.if-idle.true) (c.idle-then-idle.ensures.0 c.if-idle-2.true)
    (c.after_sleep-state.ensures.roused w v h.stands.serves h.stands.drives) h

pub returns-then-idle-2-clause-commands : goal.returns-then-idle-2-clause-commands
returns-then-idle-2-clause-commands g c = λ z x s n w v h.
    command_roused g.L.Layout.layout g.L.Device.DeviceEnd.device g.L.Driver.DriverEnd.driver g.met.L.Layout.lawful z c.args.state.now x s n
    c.args.given w v c.requires.once c.requires.live h c.after_sleep-state.result (sym c.is_hearing.ensures ∙ c.if-is_hearing.true)
    (c.idle.ensures.0 c.if-idle.true) (c.idle-then-idle.ensures.0 c.if-idle-2.true)
    (c.after_sleep-state.ensures.roused w v h.commands.stands.serves h.commands.stands.drives)

pub returns-else-is_hearing-clause-commands : goal.returns-else-is_hearing-clause-commands
returns-else-is_hearing-clause-commands g c = λ z x s n w v h.
    command_wound g.L.Layout.layout g.L.Device.DeviceEnd.device g.L.Driver.DriverEnd.driver g.met.L.Layout.lawful z c.args.state.now x s n
    c.args.given w v c.requires.once c.requires.live h
    (λ hears gi si. elim c.else-is_hearing.branch [
      | else-is_hearing-via-then-is_hearing+then-idle+else-idle-2 b ↦ cc (b.idle-then-idle.ensures.1 si, b.if-idle-2.false)
      | else-is_hearing-via-then-is_hearing+else-idle b ↦ cc (b.idle.ensures.1 gi, b.if-idle.false)
      | else-is_hearing-via-else-is_hearing b ↦ cc (hears, c.is_hearing.ensures, b.if-is_hearing.false)
    ])
