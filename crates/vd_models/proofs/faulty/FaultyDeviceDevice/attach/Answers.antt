use Rattle.std.proofs.Common.{rules, arith, ap, ◌≢◌, drop}
use Rattle.vd_bus.specs.Pace.{attaches}
use Rattle.vd_models.specs.Faulty.{was_refused}
use Rattle.vd_models.proofs.Faults.{asked_push, after_push, one_more, accepted}
use Rattle.vd_models.proofs.faulty.FaultyDeviceDevice.attach.Goals as goal

pub invariant_of-self-2 : goal.invariant_of-self-2
invariant_of-self-2 g c =
    let m = c.args.self.now in
    let next : m.left ≢ 1 = search rules in
    let is = (accepted c.attach.result _ _ c.attach.ensures (λ r h. absurd (omega (arith, h.1.rose)))).1 in
    let es = is.noted.events in
    let more = asked_push m.refusal m.inner.journal.events.items c.attach.new.self.journal.events.items _ 0 m.after es in
    record {
      after = after_push m.refusal m.inner.journal.events.items c.attach.new.self.journal.events.items _ m.after es;
      counted = omega (
        arith,
        more,
        c.saturating_sub-self.ensures,
        ap
            (was_refused m.refusal.number) c.saturating_sub-self.ensures,
        one_more m.refusal.number m.left (attaches
            (drop m.refusal.after m.inner.journal.events.items)) next m.counted,
      );
    }
