use Rattle.std.proofs.Common.{ℕ, ◌∷◌, ◌++◌, [], slice_index, ap, ◌∙◌, arith}
use Rattle.std.proofs.lemmas.Nat.{and_mask}
use Rattle.hex.specs.Hex.{lower_digits}
use Rattle.vd_text.proofs.CommandTexts.{more_command, no_more}
use Rattle.vd_text.proofs.commands.print_command.Goals as goal

pub loop-byte-preserved : goal.loop-byte-preserved
loop-byte-preserved c =
    let mid = c.push.new.self.items in
    let byte : ℕ = slice_index c.args.command.now c.loop-byte.byte-index in
    more_command c.loop-byte.out.items mid c.push-in-loop-byte.new.self.items c.args.command.now c.loop-byte.byte-index
    c.loop-byte-test.true c.in_ok-push.ensures.items
    (c.in_ok-push-2.ensures.items ∙ ap (λ (k : ℕ). mid ++ slice_index lower_digits k ∷ []) (and_mask byte 4)) ∙ c.loop-byte.invariant

pub returns : goal.returns
returns c = no_more c.loop-byte.out.items c.args.command.now c.loop-byte.byte-index (omega arith) ∙ c.loop-byte.invariant
