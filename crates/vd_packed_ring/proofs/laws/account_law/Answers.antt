use Rattle.vd_packed_ring.proofs.Agreement.{account}
use Rattle.vd_packed_ring.proofs.laws.account_law.Goals as goal

pub returns : goal.returns
returns c = account
