use Rattle.vd_split_ring.proofs.DriverAnswers.{driver_offered}
use Rattle.vd_split_ring.proofs.driver_laws.driver_offered_law.Goals as goal

pub returns : goal.returns
returns c = driver_offered
