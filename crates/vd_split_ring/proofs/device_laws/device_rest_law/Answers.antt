use Rattle.vd_split_ring.proofs.DeviceAnswers.{has_rested, rests}
use Rattle.vd_split_ring.proofs.device_laws.device_rest_law.Goals as goal

pub returns-clause-resting : goal.returns-clause-resting
returns-clause-resting c = has_rested

pub returns-clause-rests : goal.returns-clause-rests
returns-clause-rests c = rests
