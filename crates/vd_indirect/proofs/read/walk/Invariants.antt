use Rattle.std.proofs.Common.{◌/◌, length}
use Rattle.vd_indirect.proofs.Walk.{IsWalking}
use Rattle.vd_indirect.proofs.read.walk.Given as goal

abbrev pub invariant-loop-count : goal.invariant-loop-count
invariant-loop-count l = IsWalking l.kind l.words (length l.words / 2) l.count l.place l.chain
