use Rattle.std.proofs.Common.{◌∙◌}
use Rattle.vd_machine.specs.Queues.{queue_writes_chains, all_write_chains}
use Rattle.vd_machine.proofs.Lists.{all_viewed}
use Rattle.vd_machine.proofs.queues.all_write_chains.Goals as goal

pub returns : goal.returns
unfolding all_write_chains
returns c = c.each_queue_writes_chains.ensures ∙ all_viewed queue_writes_chains _ _ c.items_at.ensures
