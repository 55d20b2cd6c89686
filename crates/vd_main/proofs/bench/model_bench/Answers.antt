use Rattle.std.proofs.Common.{◌≡◌, ◌+◌, [], None, ◌∙◌, ap, length}
use Rattle.std.proofs.lemmas.List.{length_push}
use Rattle.std.proofs.lemmas.List.Elements.{All-push}
use Rattle.vd_models.specs.Driving.{loaded_of, script_of}
use Rattle.vd_models.specs.Phases.{attached_of}
use Rattle.vd_main.proofs.Empty.{empty_guests, empty_devices}
use Rattle.vd_main.proofs.bench.model_bench.Goals as goal

pub returns-clause-empty : goal.returns-clause-empty
returns-clause-empty g c = record {
  guests = empty_guests _ c.loop-made.guests.items c.loop-made.invariant.guests;
  devices = empty_devices _ c.loop-made.devices.items c.loop-made.invariant.devices;
}

pub loop-made-preserved : goal.loop-made-preserved
loop-made-preserved g c = record {
  guests = rw c.in_ok-push.ensures.items
      (All-push (λ m. (script_of (loaded_of m.phase) ≡ None) × (m.counts.accesses ≡ 0) × (m.counts.heard ≡ 0)) c.loop-made.guests.items
      c.new.result c.loop-made.invariant.guests (
        c.new.ensures.unloaded.script,
        c.new.ensures.unloaded.counts.0,
        c.new.ensures.unloaded.counts.1,
      ));
  devices = rw c.in_ok-push-2.ensures.items
      (All-push (λ m. (attached_of m.phase ≡ None) × (m.journal.events.items ≡ []) × (m.journal.begun.items ≡ [])
      × (m.counts.accesses ≡ 0) × (m.counts.heard ≡ 0)) c.loop-made.devices.items c.new-in-loop-made.result
      c.loop-made.invariant.devices (
        c.new-in-loop-made.ensures.unused.attached,
        c.new-in-loop-made.ensures.unused.events,
        c.new-in-loop-made.ensures.unused.begun,
        c.new-in-loop-made.ensures.unused.counts.0,
        c.new-in-loop-made.ensures.unused.counts.1,
      ));
  many = (
    ap length c.in_ok-push.ensures.items ∙ length_push c.loop-made.guests.items c.new.result ∙ ap (λ k. k + 1) c.loop-made.invariant.many.0,
    ap length c.in_ok-push-2.ensures.items ∙ length_push c.loop-made.devices.items c.new-in-loop-made.result
        ∙ ap (λ k. k + 1) c.loop-made.invariant.many.1,
  );
}
