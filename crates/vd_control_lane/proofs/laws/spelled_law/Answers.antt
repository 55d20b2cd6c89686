use Rattle.vd_control_lane.proofs.Spelled.{folds_spelled}
use Rattle.vd_control_lane.proofs.laws.spelled_law.Goals as goal

pub returns : goal.returns
returns c = folds_spelled
