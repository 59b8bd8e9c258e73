use Rattle.std.proofs.Common.{◌+◌, subst, sym}
use Rattle.tm_hist.specs.Queues.{AreNew}
use Rattle.tm_hist.proofs.QueueRuns.{are_new, none_new}
use Rattle.tm_hist.proofs.store_buffers.first_queues.Goals as goal

pub loop-init : goal.loop-init
loop-init c = none_new c.args.stores c.in_ok-queues.queues.items c.in_ok-queues.ensures.items

pub loop-preserved : goal.loop-preserved
loop-preserved c =
    subst (AreNew c.args.stores (c.loop.counter + 1)) (sym c.in_ok-push.ensures.items)
    (are_new c.args.stores c.loop.counter c.loop.queues.items c.in_ok-queue.queue c.loop.invariant
    c.in_ok-queue.ensures.items c.in_ok-queue.ensures.exact)
