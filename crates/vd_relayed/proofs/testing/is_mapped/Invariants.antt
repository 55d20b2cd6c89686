use Rattle.std.proofs.Common.{◌≡◌, ℕ, ◌<◌, true, length, slice_index_or}
use Rattle.vd_model.specs.Chains.{blank}
use Rattle.vd_model.specs.Maps.{lies_in}
use Rattle.vd_relayed.proofs.testing.is_mapped.Given as goal

abbrev pub invariant-loop-i : goal.invariant-loop-i
invariant-loop-i l = record {
  all : (k : ℕ) → k < l.i → lies_in l.tree.mappings (slice_index_or l.chain k blank) ≡ true;
  many : l.many ≡ length l.chain;
}
