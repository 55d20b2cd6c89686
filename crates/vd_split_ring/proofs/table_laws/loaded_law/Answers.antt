use Rattle.vd_split_ring.proofs.TableReads.{chain_loaded, loaded_read}
use Rattle.vd_split_ring.proofs.table_laws.loaded_law.Goals as goal

pub returns-clause-chain : goal.returns-clause-chain
returns-clause-chain c = chain_loaded

pub returns-clause-table : goal.returns-clause-table
returns-clause-table c = loaded_read
