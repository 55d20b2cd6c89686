use Rattle.std.proofs.Common.{◌≡◌, false, length}
use Rattle.vd_text.specs.Grammar.{pieces}
use Rattle.vd_text.proofs.Order.{text_goes_on}
use Rattle.vd_text.proofs.chains.writes_chain.Given as goal

abbrev pub decreases-loop-word : goal.decreases-loop-word
decreases-loop-word l = length l.rest

abbrev pub invariant-loop-word : goal.invariant-loop-word
invariant-loop-word l = text_goes_on l.written (pieces l.rest) ≡ text_goes_on false (pieces l.text)
