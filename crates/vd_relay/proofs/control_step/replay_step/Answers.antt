use Rattle.std.proofs.Common.{◌≡◌, ◌≤◌, ℕ, length, sym, ◌∙◌, ap, subst, arith, inl, inr}
use Rattle.vd_ring.specs.History.{offers, collects}
use Rattle.vd_relay.specs.declared.control.Control.{Control}
use Rattle.vd_relay.specs.declared.replay.Replay.{Replay}
use Rattle.vd_relay.specs.Modes.{IsOver}
use Rattle.vd_relay.specs.Replays.{ReplayTurn}
use Rattle.vd_relay.proofs.ModeOver.{few_open}
use Rattle.vd_relay.proofs.Steps.{Noted}
use Rattle.vd_relay.proofs.Modes.{replaying_of}
use Rattle.vd_relay.proofs.ModeReplays.{replay_made}
use Rattle.vd_relay.proofs.control_step.replay_step.Goals as goal

pub returns-clause-made : goal.returns-clause-made
returns-clause-made g c = λ z w v h own.
    let l = g.L.Layout.layout in
    let e = g.L.Device.DeviceEnd.device in
    let d = g.L.Driver.DriverEnd.driver in
    let r = c.args.state.now in
    let k = c.args.control.now in
    let s = c.args.settings.now in
    let n : Noted c.args.counts.now c.note.new.self c.step-turn.result = record {
      accesses = c.note.ensures.accesses;
      handled = c.note.ensures.handled;
      heard = c.note.ensures.heard;
    } in
    let i = (replaying_of l e d z r k s c.args.counts.now w v h c.requires.mode).1 in
    replay_made g.Q.Port.port l e d g.met.L.Layout.lawful.driver_end z c.args.port.now c.step-turn.new.port r c.step-turn.new.shadow k
    c.go_on.new.self c.step-turn.new.self s c.args.counts.now c.note.new.self w v c.step-turn.result c.move_of.result h c.requires.mode
    c.move_of.ensures n c.step-turn.ensures.same c.go_on.ensures.replay (c.step-turn.ensures.turn v i.replays own)
    (λ u j. c.go_on.ensures.holds z s c.note.new.self w u (c.step-turn.ensures.same.0 ∙ h.again) j)

pub returns-clause-over : goal.returns-clause-over
returns-clause-over g c = λ z w v h own at on.
    let l = g.L.Layout.layout in
    let e = g.L.Device.DeviceEnd.device in
    let d = g.L.Driver.DriverEnd.driver in
    let law = g.met.L.Layout.lawful in
    let r = c.args.state.now in
    let k = c.args.control.now in
    let i = (replaying_of l e d z r k c.args.settings.now c.args.counts.now w v h c.requires.mode).1 in
    let y : Replay = c.step-turn.new.self in
    let t : ReplayTurn g.Q.Port.port l d c.args.port.now c.step-turn.new.port k.replay y r.shadow c.step-turn.new.shadow v
    c.step-turn.result = c.step-turn.ensures.turn v i.replays own in
    let same = c.step-turn.ensures.same in
    let kept : c.go_on.new.self.replay ≡ y = c.go_on.ensures.replay in
    let next : c.go_on.new.self.replay.next ≡ y.next = ap (λ (x : Replay). x.next) kept in
    let few = few_open l e d law.device_end law.driver_end k.replay r.shadow v i.replays.replays in
    elim (c.go_on.ensures.over z (d.side.after v t.op t.access t.got) (same.0 ∙ h.again) t.holds.replays on) [
      | inl all ↦ inl (next ∙ all)
      | inr cut ↦ inr (i.winding ∙ sym same.2 ∙ cut.0, omega (arith, next, cut.1.offered, cut.1.collected, t.grown, few))
    ]
