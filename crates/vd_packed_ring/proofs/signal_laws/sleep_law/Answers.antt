use Rattle.vd_packed_ring.proofs.Sleeping.{signals}
use Rattle.vd_packed_ring.proofs.signal_laws.sleep_law.Goals as goal

pub returns : goal.returns
returns c = signals
