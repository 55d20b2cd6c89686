use Rattle.vd_packed_ring.proofs.TableReads.{head_read, named_read}
use Rattle.vd_packed_ring.proofs.table_laws.table_law.Goals as goal

pub returns-clause-head : goal.returns-clause-head
returns-clause-head c = head_read

pub returns-clause-named : goal.returns-clause-named
returns-clause-named c = named_read
