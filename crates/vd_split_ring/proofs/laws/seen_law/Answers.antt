use Rattle.vd_split_ring.proofs.Seen.{driver_forward, device_forward}
use Rattle.vd_split_ring.proofs.laws.seen_law.Goals as goal

pub returns-clause-driver : goal.returns-clause-driver
returns-clause-driver c = driver_forward

pub returns-clause-device : goal.returns-clause-device
returns-clause-device c = device_forward
