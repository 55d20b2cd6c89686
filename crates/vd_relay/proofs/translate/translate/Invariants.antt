use Rattle.std.proofs.Common.{◌≡◌, length}
use Rattle.vd_model.specs.Chains.{IsChain}
use Rattle.vd_relay.proofs.Translation.{moved_to}
use Rattle.vd_relay.proofs.translate.translate.Given as goal

abbrev pub invariant-loop-i : goal.invariant-loop-i
invariant-loop-i l = record {
  moved : l.chain ≡ moved_to l.tree.mappings l.i l.fn.chain;
  many : l.many ≡ length l.fn.chain;
  lawful : IsChain
      l.chain;
}
