use Rattle.tm_hist.proofs.QueueSteps.{result_lies}
use Rattle.tm_hist.proofs.queued.store_queued.Goals as goal

pub returns-clause-queue : goal.returns-clause-queue
returns-clause-queue c had =
    c.pend.ensures.queue c.args.size had
    (result_lies c.args.code.now.bytes.now c.args.code.now.base c.args.size c.args.regs.now c.args.value
    c.outside.result c.outside.ensures)
