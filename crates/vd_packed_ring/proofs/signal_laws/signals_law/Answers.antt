use Rattle.vd_packed_ring.proofs.Signalling.{driver_signals, device_signals}
use Rattle.vd_packed_ring.proofs.signal_laws.signals_law.Goals as goal

pub returns-clause-driver : goal.returns-clause-driver
returns-clause-driver c = driver_signals

pub returns-clause-device : goal.returns-clause-device
returns-clause-device c = device_signals
