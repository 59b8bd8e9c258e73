use Rattle.tm_hist.specs.Queues.{AreNew}
use Rattle.tm_hist.proofs.store_buffers.first_queues.Given as goal

abbrev pub invariant-loop : goal.invariant-loop
invariant-loop l = AreNew l.stores l.counter l.queues.items
