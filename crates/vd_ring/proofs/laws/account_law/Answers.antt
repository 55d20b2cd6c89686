use Rattle.vd_ring.proofs.Accounting.{accounts}
use Rattle.vd_ring.proofs.laws.account_law.Goals as goal

pub returns : goal.returns
returns c = accounts
