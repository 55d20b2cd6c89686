use Rattle.std.proofs.Common.{◌≡◌}
use Rattle.vd_commands.specs.Words.{word_bytes}
use Rattle.vd_commands.proofs.words.bytes_of.Given as goal

abbrev pub invariant-loop-place : goal.invariant-loop-place
invariant-loop-place l = l.bytes.items ≡ word_bytes l.place l.fn.words.first l.fn.words.second
