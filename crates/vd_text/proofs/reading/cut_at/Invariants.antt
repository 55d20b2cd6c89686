use Rattle.std.proofs.Common.{◌≡◌, take, drop}
use Rattle.vd_text.specs.Grammar.{cut}
use Rattle.vd_text.proofs.Cutting.{prefixed}
use Rattle.vd_text.proofs.reading.cut_at.Given as goal

abbrev pub invariant-loop-i : goal.invariant-loop-i
invariant-loop-i l = cut l.at l.bytes ≡ prefixed (take l.i l.bytes) (cut l.at (drop l.i l.bytes))
