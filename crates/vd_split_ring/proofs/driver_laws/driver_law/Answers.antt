use Rattle.vd_split_ring.proofs.DriverKeeps.{driver_keeps}
use Rattle.vd_split_ring.proofs.driver_laws.driver_law.Goals as goal

pub returns : goal.returns
returns c = driver_keeps
