use Rattle.vd_split_ring.proofs.Spelling.{spells}
use Rattle.vd_split_ring.proofs.laws.spelling_law.Goals as goal

pub returns : goal.returns
returns c = spells
