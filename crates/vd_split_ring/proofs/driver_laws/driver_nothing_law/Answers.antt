use Rattle.vd_split_ring.proofs.DriverAnswers.{collects_nothing}
use Rattle.vd_split_ring.proofs.driver_laws.driver_nothing_law.Goals as goal

pub returns : goal.returns
returns c = collects_nothing
