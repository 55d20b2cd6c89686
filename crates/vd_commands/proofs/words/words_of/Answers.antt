use Rattle.std.proofs.Common.{◌≡◌, ◌-◌, ℕ, ◌++◌, length, take, replicate, arith, ap, sym, ◌∙◌}
use Rattle.std.proofs.Math.Seq.{take-length}
use Rattle.vd_commands.proofs.Filled.{command_word_at}
use Rattle.vd_commands.proofs.words.words_of.Goals as goal
use Rattle.vd_commands.proofs.words.words_of.Goals.{After-from_le_bytes-2}

-- after the loop the bytes stand in the sixteen, and zeros behind them
all_filled : (c : After-from_le_bytes-2) → c.loop-place.all ≡ c.args.bytes.now ++ replicate (16 - length c.args.bytes.now) 0
all_filled c =
    let ended : c.loop-place.place ≡ length c.args.bytes.now = omega (arith, c.loop-place-test.false, c.loop-place.auto.place-end) in
    c.loop-place.invariant ∙ ap (λ (n : ℕ). take n c.args.bytes.now ++ replicate (16 - n) 0) ended
    ∙ ap (λ l. l ++ replicate (16 - length c.args.bytes.now) 0) (take-length c.args.bytes.now)

pub returns-clause-first : goal.returns-clause-first
returns-clause-first c =
    c.from_le_bytes.ensures ∙ sym (command_word_at c.args.bytes.now c.loop-place.all 0 (omega arith) (omega arith) (all_filled c))

pub returns-clause-second : goal.returns-clause-second
returns-clause-second c =
    c.from_le_bytes-2.ensures ∙ sym (command_word_at c.args.bytes.now c.loop-place.all 1 (omega arith) (omega arith) (all_filled c))
