use Rattle.std.proofs.Common.{refl, inl, inr}
use Rattle.vd_relay.specs.Commanding.{carries}
use Rattle.vd_relay.proofs.Steps.{Noted, looked_is, finished_at, pace_less}
use Rattle.vd_relay.proofs.CommandTold.{may_tell}
use Rattle.vd_relay.proofs.CommandTurns.{guest_leaves, shadow_leaves}
use Rattle.vd_relay.proofs.CommandPlain.{on_guest_command, on_shadow_command}
use Rattle.vd_relay.proofs.command_step.ring_step.Goals as goal

pub make_turn-turn-requires-clause-own : goal.make_turn-turn-requires-clause-own
make_turn-turn-requires-clause-own g c =
    let o = c.requires.own in
    let k = o.3 in
    let h = k.holds.commands in (
      carries k.from,
      o.1,
      o.2,
      h.stands,
      (k.from.replayed, refl, h.ring.size),
      may_tell g.L.Layout.layout g.L.Device.DeviceEnd.device g.L.Driver.DriverEnd.driver g.met.L.Layout.lawful k.from c.args.state.now
          c.args.commander.now o.0 o.1 o.2 h c.requires.due,
      o.4,
      o.5,
    )

pub returns : goal.returns
returns g c = λ z s w v h own other.
    let l = g.L.Layout.layout in
    let e = g.L.Device.DeviceEnd.device in
    let d = g.L.Driver.DriverEnd.driver in
    let lay = g.met.L.Layout.lawful in
    let m = c.make_turn-turn in
    let t = m.result in
    let said = c.move_of.ensures in
    let b = c.is_rested.result in
    let r = c.args.state.now in
    let x = c.args.commander.now in
    let n : Noted c.args.counts.now c.note.new.self t = record {
      accesses = c.note.ensures.accesses;
      handled = c.note.ensures.handled;
      heard = c.note.ensures.heard;
    } in
    elim (m.ensures.made (carries z) w v h.commands.stands (z.replayed, refl, h.commands.ring.size) own other) [
      | inl o ↦ (
          let a = on_guest_command l e d z r x s c.args.counts.now w v h g.P.Port.port lay c.args.guest_port.now m.new.guest_port
          m.new.state m.new.carrier c.note.new.self t c.move_of.result b c.requires.live c.requires.due said n m.ensures.kept o.1 o.2 in
          let u = guest_leaves g.P.Port.port l e d lay z c.args.guest_port.now m.new.guest_port r m.new.state x m.new.carrier s w v t
          h.commands c.requires.live c.requires.due o.1 o.2 in
          record {
            made = inl (o.0, refl, a);
            kept = m.ensures.kept;
            quiet = m.ensures.quiet;
            finished = finished_at c.move_of.result t b _ said c.is_rested.ensures o.2.0.live;
            still = λ i.
                let asleep = (looked_is c.move_of.result t b said).0 i in
                (c.note.ensures.slept asleep, u.still asleep, refl);
            pace = pace_less c.note.new.self _ a.1.pace;
          }
          )
      | inr o ↦ (
          let a = on_shadow_command l e d z r x s c.args.counts.now w v h g.Q.Port.port lay c.args.shadow_port.now m.new.shadow_port
          m.new.state m.new.carrier c.note.new.self t c.move_of.result b c.requires.live c.requires.due said n m.ensures.kept o.1 o.2 in
          let u = shadow_leaves g.Q.Port.port l e d lay z c.args.shadow_port.now m.new.shadow_port r m.new.state x m.new.carrier s w v t
          h.commands c.requires.live c.requires.due o.1 o.2 in
          record {
            made = inr (o.0, a);
            kept = m.ensures.kept;
            quiet = m.ensures.quiet;
            finished = finished_at c.move_of.result t b _ said c.is_rested.ensures (λ i. o.2.0.live);
            still = λ i.
                let asleep = (looked_is c.move_of.result t b said).0 i in
                (c.note.ensures.slept asleep, u.still asleep, refl);
            pace = pace_less c.note.new.self _ a.1.pace;
          }
          )
    ]
