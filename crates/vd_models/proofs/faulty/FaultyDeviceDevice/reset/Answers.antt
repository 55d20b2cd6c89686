use Rattle.std.proofs.Common.{arith}
use Rattle.vd_models.specs.Faulty.{was_refused}
use Rattle.vd_models.proofs.Faults.{asked_push, after_push}
use Rattle.vd_models.proofs.faulty.FaultyDeviceDevice.reset.Goals as goal

pub invariant_of-self : goal.invariant_of-self
invariant_of-self g c =
    let m = c.args.self.now in
    let es = c.reset.ensures.noted.events in
    record {
      after = after_push m.refusal m.inner.journal.events.items c.reset.new.self.journal.events.items _ m.after es;
      counted = omega (
        arith,
        m.counted,
        asked_push m.refusal m.inner.journal.events.items c.reset.new.self.journal.events.items _
            (was_refused m.refusal.number m.left) m.after es,
      );
    }
