use Rattle.vd_split_ring.proofs.DriverAnswers.{driver_bags}
use Rattle.vd_split_ring.proofs.driver_laws.driver_bag_law.Goals as goal

pub returns : goal.returns
returns c = driver_bags
