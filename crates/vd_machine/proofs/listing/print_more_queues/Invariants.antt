use Rattle.std.proofs.Common.{◌≡◌, ◌++◌, drop, map}
use Rattle.vd_machine.specs.Canon.{more_items, queue_text}
use Rattle.vd_machine.proofs.listing.print_more_queues.Given as goal

abbrev pub invariant-loop-queue : goal.invariant-loop-queue
invariant-loop-queue l =
    l.out.items ++ more_items (map queue_text (drop l.queue-index l.queues)) ≡ l.fn.out.items ++ more_items (map queue_text l.queues)
