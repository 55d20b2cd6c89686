use Rattle.std.proofs.Common.{◌≡◌, ◌<◌, ℕ, Some, slice_get}
use Rattle.vd_play.proofs.rounds.all_done.Given as goal

abbrev pub invariant-loop-i : goal.invariant-loop-i
invariant-loop-i g l = (q : ℕ) (guest : _) → q < l.i → slice_get l.bench.guests.items q ≡ Some guest → g.G.Guest.party.is_done guest
