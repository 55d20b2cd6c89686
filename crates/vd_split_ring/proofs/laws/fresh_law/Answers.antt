use Rattle.vd_split_ring.proofs.Opens.{opens}
use Rattle.vd_split_ring.proofs.laws.fresh_law.Goals as goal

pub returns : goal.returns
returns c = opens
