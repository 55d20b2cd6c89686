use Rattle.std.proofs.Common.{sym, ◌∙◌}
use Rattle.vd_relay.specs.declared.counts.Turn.TheVariants.{Worked}
use Rattle.vd_relay.specs.declared.stage.Stage.TheVariants.{Rested}
use Rattle.vd_relay.proofs.Steps.{Noted}
use Rattle.vd_relay.proofs.Modes.{leaving_of}
use Rattle.vd_relay.proofs.ModeLeaves.{leave_made}
use Rattle.vd_relay.proofs.control_step.leave_step.Goals as goal

pub returns-then-leave-clause-made : goal.returns-then-leave-clause-made
returns-then-leave-clause-made g c = λ z w v h own.
    let l = g.L.Layout.layout in
    let e = g.L.Device.DeviceEnd.device in
    let d = g.L.Driver.DriverEnd.driver in
    let r = c.args.state.now in
    let k = c.args.control.now in
    let s = c.args.settings.now in
    let n : Noted c.args.counts.now c.note.new.self Worked = record {
      accesses = c.note.ensures.accesses;
      handled = c.note.ensures.handled;
      heard = c.note.ensures.heard;
    } in
    leave_made g.P.Port.port l e d g.met.L.Layout.lawful.device_end z c.args.port.now c.leave.new.port r c.leave.new.guest Rested k s
    c.args.counts.now c.note.new.self w v c.leave.result _ h c.requires.mode (λ i. cc i) (sym c.if-leave.true) n
    (c.leave.ensures.leave w (leaving_of l e d z r k s c.args.counts.now w v h c.requires.mode).left own)

pub returns-clause-made : goal.returns-clause-made
returns-clause-made g c = λ z w v h own.
    let l = g.L.Layout.layout in
    let e = g.L.Device.DeviceEnd.device in
    let d = g.L.Driver.DriverEnd.driver in
    let r = c.args.state.now in
    let k = c.args.control.now in
    let s = c.args.settings.now in
    let n : Noted c.args.counts.now c.note.new.self Worked = record {
      accesses = c.note.ensures.accesses;
      handled = c.note.ensures.handled;
      heard = c.note.ensures.heard;
    } in
    leave_made g.P.Port.port l e d g.met.L.Layout.lawful.device_end z c.args.port.now c.leave.new.port r c.leave.new.guest r.stage k s
    c.args.counts.now c.note.new.self w v c.leave.result _ h c.requires.mode (λ i. cc i) (c.requires.live ∙ sym c.if-leave.false) n
    (c.leave.ensures.leave w (leaving_of l e d z r k s c.args.counts.now w v h c.requires.mode).left own)
