use Rattle.std.proofs.Common.{sym, subst}
use Rattle.vd_relay.specs.declared.counts.Counts.{Counts}
use Rattle.vd_relay.specs.declared.state.State.{State}
use Rattle.vd_relay.specs.Modes.{ControlHolds}
use Rattle.vd_relay.specs.ModeEnds.{IsControlOpen, opening}
use Rattle.vd_relay.proofs.Begins.{opened}
use Rattle.vd_relay.proofs.relay.Relay.new.Goals as goal

pub returns-clause-holds : goal.returns-clause-holds
returns-clause-holds g c = λ plain ms w v o.
    let law = g.met.L.Layout.lawful in
    rw (c.new-2.ensures, c.first_state-state.ensures)
    (opened g.L.Device.DeviceEnd.device g.L.Driver.DriverEnd.driver law.device_end law.driver_end _ _ _ ms w v c.requires.idle
    c.requires.awake c.requires.unarmed c.requires.fresh c.requires.apart o)

pub returns-then-control-clause-commands : goal.returns-then-control-clause-commands
returns-then-control-clause-commands g c = λ on w v o.
    let l = g.L.Layout.layout in
    let e = g.L.Device.DeviceEnd.device in
    let d = g.L.Driver.DriverEnd.driver in
    let r = c.first_state-state.result in
    let k = c.first_control-first.result in
    let s = c.args.settings in
    let table = c.args.table in
    subst (λ (n : Counts). ControlHolds l e d (opening s c.args.replay w) r k s n w v) (sym c.new.ensures)
    (c.first_control-first.ensures.holds w v
    (subst (λ (x : State g.row.L-Device.Denot g.row.L-Driver.Denot). IsControlOpen l e d x.guest x.shadow x.table table.commands w v)
    (sym c.first_state-state.ensures) o))

pub returns-then-control-clause-over : goal.returns-then-control-clause-over
returns-then-control-clause-over g c = λ on w v o.
    let l = g.L.Layout.layout in
    let e = g.L.Device.DeviceEnd.device in
    let d = g.L.Driver.DriverEnd.driver in
    let table = c.args.table in
    c.first_control-first.ensures.over w v
    (subst (λ (x : State g.row.L-Device.Denot g.row.L-Driver.Denot). IsControlOpen l e d x.guest x.shadow x.table table.commands w v)
    (sym c.first_state-state.ensures) o)
