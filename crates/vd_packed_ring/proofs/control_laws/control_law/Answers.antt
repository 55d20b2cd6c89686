use Rattle.vd_packed_ring.proofs.ControlFacts.{driver_controls, device_controls}
use Rattle.vd_packed_ring.proofs.control_laws.control_law.Goals as goal

pub returns-clause-driver : goal.returns-clause-driver
returns-clause-driver c = driver_controls

pub returns-clause-device : goal.returns-clause-device
returns-clause-device c = device_controls
