use Rattle.vd_split_ring.proofs.ControlFacts.{controls_stand}
use Rattle.vd_split_ring.proofs.control_laws.control_words_law.Goals as goal

pub returns : goal.returns
returns c = controls_stand
