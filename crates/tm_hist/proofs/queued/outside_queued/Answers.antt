use Rattle.std.proofs.Common.{sym, subst}
use Rattle.std.specs.Prelude.{IfSome}
use Rattle.tm_model.specs.Steps.{store_of}
use Rattle.tm_hist.specs.Queues.{IsStorable}
use Rattle.tm_hist.proofs.QueueSteps.{result_lies}
use Rattle.tm_hist.proofs.queued.outside_queued.Goals as goal

pub returns-clause-lies : goal.returns-clause-lies
returns-clause-lies c =
    subst (λ n. IfSome (store_of c.outside.result) (IsStorable n)) (sym c.requires.size)
    (result_lies c.args.code.now.bytes.now c.args.code.now.base c.args.size c.args.regs.now c.value_queued.result
    c.outside.result c.outside.ensures)
