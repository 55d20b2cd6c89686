use Rattle.vd_split_ring.proofs.DeviceAnswers.{is_taken}
use Rattle.vd_split_ring.proofs.device_laws.device_taken_law.Goals as goal

pub returns : goal.returns
returns c = is_taken
