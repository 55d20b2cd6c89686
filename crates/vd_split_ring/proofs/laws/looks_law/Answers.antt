use Rattle.vd_split_ring.proofs.Agreement.{looks_show}
use Rattle.vd_split_ring.proofs.laws.looks_law.Goals as goal

pub returns : goal.returns
returns c = looks_show
