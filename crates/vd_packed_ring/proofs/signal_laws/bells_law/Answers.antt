use Rattle.vd_packed_ring.proofs.Bells.{kick_stands, call_stands}
use Rattle.vd_packed_ring.proofs.signal_laws.bells_law.Goals as goal

pub returns-clause-kick : goal.returns-clause-kick
returns-clause-kick c = kick_stands

pub returns-clause-call : goal.returns-clause-call
returns-clause-call c = call_stands
