use Rattle.vd_packed_ring.proofs.Agreement.{greatest}
use Rattle.vd_packed_ring.proofs.laws.position_law.Goals as goal

pub returns : goal.returns
returns c = greatest
