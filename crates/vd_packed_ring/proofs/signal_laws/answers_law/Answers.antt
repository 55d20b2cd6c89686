use Rattle.vd_packed_ring.proofs.DriverLooking.{driver_looks}
use Rattle.vd_packed_ring.proofs.DeviceLooking.{device_looks}
use Rattle.vd_packed_ring.proofs.signal_laws.answers_law.Goals as goal

pub returns-clause-driver : goal.returns-clause-driver
returns-clause-driver c = driver_looks

pub returns-clause-device : goal.returns-clause-device
returns-clause-device c = device_looks
