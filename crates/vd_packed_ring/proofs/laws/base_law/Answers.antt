use Rattle.vd_packed_ring.proofs.Bases.{lawful_base, fresh_base}
use Rattle.vd_packed_ring.proofs.laws.base_law.Goals as goal

pub returns-clause-lawful : goal.returns-clause-lawful
returns-clause-lawful c = lawful_base

pub returns-clause-fresh : goal.returns-clause-fresh
returns-clause-fresh c = fresh_base
