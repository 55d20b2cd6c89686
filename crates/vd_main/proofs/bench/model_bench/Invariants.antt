use Rattle.std.proofs.Common.{◌≡◌, [], None, length}
use Rattle.std.specs.List.{All}
use Rattle.vd_models.specs.Driving.{loaded_of, script_of}
use Rattle.vd_models.specs.Phases.{attached_of}
use Rattle.vd_main.proofs.bench.model_bench.Given as goal

abbrev pub invariant-loop-made : goal.invariant-loop-made
invariant-loop-made g l = record {
  guests : All (λ m. (script_of (loaded_of m.phase) ≡ None) × (m.counts.accesses ≡ 0) × (m.counts.heard ≡ 0)) l.guests.items;
  devices : All (λ m. (attached_of m.phase ≡ None) × (m.journal.events.items ≡ []) × (m.journal.begun.items ≡ [])
      × (m.counts.accesses ≡ 0) × (m.counts.heard ≡ 0)) l.devices.items;
  many : (length l.guests.items ≡ l.made) × (length l.devices.items ≡ l.made);
}
