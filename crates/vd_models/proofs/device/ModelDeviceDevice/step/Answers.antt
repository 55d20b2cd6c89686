use Rattle.std.proofs.Common.{◌≡◌, arith, refl, sym, ap, ◌∙◌, subst, Some}
use Rattle.vd_ring.proofs.ListSteps.{some_same}
use Rattle.vd_bus.specs.declared.device.Attached.{Attached}
use Rattle.vd_bus.specs.DeviceCommands.{set_since}
use Rattle.vd_bus.specs.Orders.{IsData, IsControl}
use Rattle.vd_bus.specs.Pace.{raised, attaches}
use Rattle.vd_bus.specs.laws.Settings.{set_through}
use Rattle.vd_models.specs.declared.serving.Phase.TheVariants as phase
use Rattle.vd_models.specs.declared.serving.Phase.{Phase}
use Rattle.vd_models.specs.Holding.{capacity_of}
use Rattle.vd_models.specs.Phases.{attached_of, is_done_of, settings_of}
use Rattle.vd_models.specs.Serving.{state}
use Rattle.vd_models.proofs.Attaching.{opened_commands, command_pays, seen_lawful}
use Rattle.vd_models.proofs.Parties.{opened, still_live, not_done, finished_at, looked_at, counted_at, pays, room_most, room_all}
use Rattle.vd_models.proofs.Stages.{window_some}
use Rattle.vd_models.proofs.device.ModelDeviceDevice.step.Goals as goal

pub returns-in-Serving : goal.returns-in-Serving
returns-in-Serving g c = λ w holds own.
    let e = g.L.Device.DeviceEnd.device in
    let m = c.args.self.now in
    let s = c.in-Serving.session in
    let s' = c.serve-turn.new.session in
    let o = opened e m.phase s m.journal m.counts m.settings w holds c.in-Serving.is in
    let t = c.serve-turn.ensures.turn w (record { serves = o.serves; live = not_done m.phase s c.in-Serving.is c.requires.live }) own in
    let room = room_all (phase.Serving s') m.journal.events.room (window_some s'.stage _ s'.held.capacity t.3.serves.window) in
    let same = ap Some c.serve-turn.ensures.by ∙ sym (ap attached_of c.in-Serving.is) in
    let paid = pays g.P.Port.port e c.args.port.now c.serve-turn.new.port w (state s m.journal.begun)
    (state s' c.serve-turn.new.begun) c.serve-turn.result s.by s'.by
    (attaches m.journal.events.items) m.counts c.note.new.self c.serve-turn.ensures.by t c.note.ensures.accesses c.note.ensures.heard
    o.serves.serving.before t.3.serves.serving.before o.paid in
    record {
      op = t.0;
      access = t.1;
      got = t.2;
      was_next = t.3.was_next;
      moved = t.3.moved;
      holds = record {
        serves = t.3.serves;
        paid = paid;
        event = o.event;
        for_data = subst (λ (b : Attached). IsData b.queue) (sym c.serve-turn.ensures.by) o.for_data;
      };
      served = record {
        events = refl;
        grows = t.3.begun;
        settings = λ b i d. refl;
        set = λ b i d. absurd (o.for_data (ap (λ (z : Attached). z.queue) (some_same _ _ (sym (ap attached_of c.in-Serving.is) ∙ i)) ∙ d));
        attached_with = sym (ap (λ (z : Phase _). settings_of z m.settings) c.in-Serving.is);
        faults = refl;
        window = refl;
        carried = refl;
        attached = same;
        room = (omega (arith, room, room_most m.phase m.journal.events.room), t.3.room);
      };
      grows = t.3.grows;
      acts = t.3.acts;
      finished = finished_at c.move_of.result c.serve-turn.result c.is_done-done.result _ c.move_of.ensures c.is_done-done.ensures
          t.3.slept;
      looked = looked_at c.move_of.result c.serve-turn.result c.is_done-done.result _ c.move_of.ensures t.3.looked;
      rested = t.3.rested;
      accesses = c.note.ensures.accesses ∙ ap (λ k. raised k m.counts.accesses)
          (counted_at c.move_of.result c.serve-turn.result c.is_done-done.result c.move_of.ensures);
      heard = c.note.ensures.heard ∙ ap (λ k. raised k m.counts.heard) t.3.woken;
    }

pub returns-in-Commanding : goal.returns-in-Commanding
returns-in-Commanding g c = λ w holds own.
    let e = g.L.Device.DeviceEnd.device in
    let m = c.args.self.now in
    let k = c.in-Commanding.commanding in
    let s = k.session in
    let s' = c.command-turn.new.session in
    let hand' = c.command-turn.new.hand in
    let o = opened_commands e m.phase k m.journal m.counts m.settings w holds c.in-Commanding.is in
    let t = c.command-turn.ensures.turn w (record {
      commands = o.commands;
      live = still_live s.stage (λ d. c.requires.live (ap is_done_of c.in-Commanding.is ∙ d));
    }) own in
    let room = room_all (phase.Commanding (record { session = s'; hand = hand'; at_attach = k.at_attach })) m.journal.events.room
    (window_some s'.stage _ s'.held.capacity t.commands.serves.window) in
    let same = ap Some c.command-turn.ensures.by ∙ sym (ap attached_of c.in-Commanding.is) in
    let paid = command_pays g.P.Port.port e c.args.port.now c.command-turn.new.port w s s' k.hand hand' m.journal.begun
    c.command-turn.new.begun c.command-turn.result (attaches m.journal.events.items) m.counts c.note-in-Commanding.new.self
    c.command-turn.ensures.by t c.note-in-Commanding.ensures.accesses c.note-in-Commanding.ensures.heard
    o.commands.serves.serving.before t.commands.serves.serving.before o.paid in
    record {
      op = t.op;
      access = t.access;
      got = t.got;
      was_next = t.was_next;
      moved = t.moved;
      holds = record {
        commands = t.commands;
        paid = paid;
        event = o.event;
        for_control = subst (λ (b : Attached). IsControl b.queue) (sym c.command-turn.ensures.by) o.for_control;
        set = subst (λ (b : Attached). c.command-turn.new.settings ≡ set_since b.at c.command-turn.new.begun.items k.at_attach)
            (sym c.command-turn.ensures.by) (set_through s.by.at m.journal.begun.items c.command-turn.new.begun.items k.at_attach m.settings
            c.command-turn.new.settings o.commands.executes.after t.begun o.set c.command-turn.ensures.settings);
      };
      served = record {
        events = refl;
        grows = t.begun;
        settings = λ b i d. absurd (d (sym (ap (λ (z : Attached). z.queue) (some_same _ _ (sym (ap attached_of c.in-Commanding.is) ∙ i)))
            ∙ o.for_control));
        set = λ b i d. c.command-turn.ensures.settings;
        attached_with = sym (ap (λ (z : Phase _). settings_of z m.settings) c.in-Commanding.is);
        faults = refl;
        window = refl;
        carried = refl;
        attached = same;
        room = (omega (arith, room, room_most m.phase m.journal.events.room), t.room);
      };
      grows = t.grows;
      acts = t.acts;
      finished = finished_at c.move_of-in-Commanding.result c.command-turn.result c.is_done-done-in-Commanding.result _
          c.move_of-in-Commanding.ensures c.is_done-done-in-Commanding.ensures t.slept;
      looked = looked_at c.move_of-in-Commanding.result c.command-turn.result c.is_done-done-in-Commanding.result _
          c.move_of-in-Commanding.ensures t.looked;
      rested = t.rested;
      accesses = c.note-in-Commanding.ensures.accesses ∙ ap (λ n. raised n m.counts.accesses)
          (counted_at c.move_of-in-Commanding.result c.command-turn.result c.is_done-done-in-Commanding.result
          c.move_of-in-Commanding.ensures);
      heard = c.note-in-Commanding.ensures.heard ∙ ap (λ n. raised n m.counts.heard) t.woken;
    }

pub invariant_of-self-in-Commanding : goal.invariant_of-self-in-Commanding
invariant_of-self-in-Commanding g c =
    let m = c.args.self.now in
    let k = c.in-Commanding.commanding in
    let r = c.requires.own in
    let o = opened_commands g.L.Device.DeviceEnd.device m.phase k m.journal m.counts m.settings r.0 r.1 c.in-Commanding.is in
    let t = c.command-turn.ensures.turn r.0 (record {
      commands = o.commands;
      live = still_live k.session.stage (λ d. c.requires.live (ap is_done_of c.in-Commanding.is ∙ d));
    }) r.2 in
    record {
      some = m.some;
      sized = omega (arith, t.capacity, m.sized, ap capacity_of c.in-Commanding.is);
      lens = seen_lawful c.command-turn.new.begun.items c.command-turn.new.hand t.commands.serves.lens;
      paced = λ none few fewer. absurd (cc none);
    }
