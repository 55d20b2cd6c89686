use Rattle.vd_split_ring.proofs.TableReads.{table_read}
use Rattle.vd_split_ring.proofs.table_laws.table_law.Goals as goal

pub returns : goal.returns
returns c = table_read
