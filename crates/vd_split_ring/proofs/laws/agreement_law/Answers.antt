use Rattle.vd_split_ring.proofs.Agreement.{agree}
use Rattle.vd_split_ring.proofs.laws.agreement_law.Goals as goal

pub returns : goal.returns
returns c = agree
