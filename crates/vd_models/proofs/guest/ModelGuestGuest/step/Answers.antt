use Rattle.std.proofs.Common.{sym, ap, ◌∙◌, Some}
use Rattle.vd_bus.specs.Pace.{raised}
use Rattle.vd_models.specs.Driving.{drive, loaded_of, script_of}
use Rattle.vd_models.proofs.Parties.{finished_at, looked_at, counted_at}
use Rattle.vd_models.proofs.GuestParties.{opened, not_done, pays, less_paid}
use Rattle.vd_models.proofs.guest.ModelGuestGuest.step.Goals as goal

pub invariant_of-self : goal.invariant_of-self
invariant_of-self g c =
    let d = g.L.Driver.DriverEnd.driver in
    let m = c.args.self.now in
    let r = c.requires.own in
    let b = c.in-Booted.booted in
    let o = opened d g.L.Layout.layout m.phase b m.counts r.0 r.1 c.in-Booted.is in
    let t = c.drive-turn.ensures.turn r.0 (record { drives = o.drives; live = not_done m.phase b c.in-Booted.is c.requires.live }) r.2 in
    let n = c.drive-turn.new in
    record {
      fresh = λ e. absurd (cc e);
      paced = less_paid c.note.new.self _ _ (pays g.P.Port.port d g.L.Layout.layout c.args.port.now n.port r.0 (drive b.end b.loaded)
          (drive n.booted.end n.booted.loaded) c.drive-turn.result
          m.counts c.note.new.self t c.note.ensures.accesses c.note.ensures.heard o.paid);
    }

pub returns : goal.returns
returns g c = λ v holds own.
    let d = g.L.Driver.DriverEnd.driver in
    let m = c.args.self.now in
    let b = c.in-Booted.booted in
    let o = opened d g.L.Layout.layout m.phase b m.counts v holds c.in-Booted.is in
    let t = c.drive-turn.ensures.turn v (record { drives = o.drives; live = not_done m.phase b c.in-Booted.is c.requires.live }) own in
    let n = c.drive-turn.new in
    let kept = c.drive-turn.ensures.kept in
    let u = c.drive-turn.result in
    let done = c.is_done-done.result in
    record {
      op = t.op;
      access = t.access;
      got = t.got;
      was_next = t.was_next;
      moved = t.moved;
      holds = record {
        plan = kept.plan;
        drives = t.drives;
        paid = pays g.P.Port.port d g.L.Layout.layout c.args.port.now n.port v (drive b.end b.loaded)
            (drive n.booted.end n.booted.loaded) u m.counts c.note.new.self t
            c.note.ensures.accesses c.note.ensures.heard o.paid;
      };
      script = ap Some kept.script ∙ sym (ap (λ p. script_of (loaded_of p)) c.in-Booted.is);
      grows = t.grows;
      acts = t.acts;
      finished = finished_at c.move_of.result u done _ c.move_of.ensures c.is_done-done.ensures t.slept;
      looked = looked_at c.move_of.result u done _ c.move_of.ensures t.looked;
      accesses = c.note.ensures.accesses ∙ ap (λ k. raised k m.counts.accesses) (counted_at c.move_of.result u done c.move_of.ensures);
      heard = c.note.ensures.heard ∙ ap (λ k. raised k m.counts.heard) t.woken;
    }
