use Rattle.vd_packed_ring.proofs.Signalling.{driver_unarmed, device_unarmed, rested_unarmed}
use Rattle.vd_packed_ring.proofs.signal_laws.unarmed_law.Goals as goal

pub returns-clause-rested : goal.returns-clause-rested
returns-clause-rested c = rested_unarmed

pub returns-clause-driver : goal.returns-clause-driver
returns-clause-driver c = driver_unarmed

pub returns-clause-device : goal.returns-clause-device
returns-clause-device c = device_unarmed
