use Rattle.vd_switch.proofs.Wound.{tree_undone}
use Rattle.vd_switch.proofs.laws.undone_law.Goals as goal

pub returns : goal.returns
returns c = λ t kept. tree_undone t kept
