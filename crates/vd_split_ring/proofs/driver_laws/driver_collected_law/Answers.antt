use Rattle.vd_split_ring.proofs.DriverAnswers.{driver_collected}
use Rattle.vd_split_ring.proofs.driver_laws.driver_collected_law.Goals as goal

pub returns : goal.returns
returns c = driver_collected
