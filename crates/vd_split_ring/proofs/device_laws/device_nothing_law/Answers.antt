use Rattle.vd_split_ring.proofs.DeviceAnswers.{looks_nothing}
use Rattle.vd_split_ring.proofs.device_laws.device_nothing_law.Goals as goal

pub returns : goal.returns
returns c = looks_nothing
