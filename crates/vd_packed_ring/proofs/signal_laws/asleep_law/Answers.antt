use Rattle.vd_packed_ring.proofs.Sleeping.{driver_asleep}
use Rattle.vd_packed_ring.proofs.DeviceSleeping.{device_asleep}
use Rattle.vd_packed_ring.proofs.signal_laws.asleep_law.Goals as goal

pub returns-clause-driver : goal.returns-clause-driver
returns-clause-driver c = driver_asleep

pub returns-clause-device : goal.returns-clause-device
returns-clause-device c = device_asleep
