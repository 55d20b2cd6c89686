use Rattle.vd_split_ring.proofs.DeviceAnswers.{is_given, has_last_used}
use Rattle.vd_split_ring.proofs.device_laws.device_given_law.Goals as goal

pub returns-clause-given : goal.returns-clause-given
returns-clause-given c = is_given

pub returns-clause-last : goal.returns-clause-last
returns-clause-last c = has_last_used
