use Rattle.vd_ring.proofs.Quiet.{quiet_device, quiet_driver}
use Rattle.vd_ring.proofs.laws.quiet_law.Goals as goal

pub returns-clause-device : goal.returns-clause-device
returns-clause-device c = quiet_device

pub returns-clause-driver : goal.returns-clause-driver
returns-clause-driver c = quiet_driver
