use Rattle.vd_split_ring.proofs.DeviceBagSteps.{bags}
use Rattle.vd_split_ring.proofs.device_laws.device_bag_law.Goals as goal

pub returns : goal.returns
returns c = bags
