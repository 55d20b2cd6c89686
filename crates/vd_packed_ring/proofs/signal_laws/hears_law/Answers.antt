use Rattle.vd_packed_ring.proofs.Sleeping.{driver_hears}
use Rattle.vd_packed_ring.proofs.DeviceSleeping.{device_hears}
use Rattle.vd_packed_ring.proofs.signal_laws.hears_law.Goals as goal

pub returns-clause-driver : goal.returns-clause-driver
returns-clause-driver c = driver_hears

pub returns-clause-device : goal.returns-clause-device
returns-clause-device c = device_hears
