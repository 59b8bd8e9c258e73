use Rattle.std.proofs.Common.{Some, ap, sym, ◌∙◌}
use Rattle.tm_model.specs.State.{Closed, Opened}
use Rattle.tm_hist.specs.Queues.{after_queued, queue_setting}
use Rattle.tm_hist.proofs.queued.open_queued.Goals as goal

pub returns-in-Aborted-clause-step : goal.returns-in-Aborted-clause-step
returns-in-Aborted-clause-step c =
    let k = queue_setting c.args.listing.now.code c.args.size c.args.stores in
    let m = c.args.memory.now in
    let p = c.args.queue.now.items in
    ap (λ o. after_queued k m p (Opened c.args.regs.now c.args.steps) o) c.in-Aborted.is
    ∙ ap (λ r. Some (m, (p, Closed r))) (sym (c.registers_after_abort.ensures c.args.size))

pub returns-in-AbortedBy-clause-step : goal.returns-in-AbortedBy-clause-step
returns-in-AbortedBy-clause-step c =
    let k = queue_setting c.args.listing.now.code c.args.size c.args.stores in
    let m = c.args.memory.now in
    let p = c.args.queue.now.items in
    ap (λ o. after_queued k m p (Opened c.args.regs.now c.args.steps) o) c.in-AbortedBy.is
    ∙ ap (λ r. Some (m, (p, Closed r))) (sym (c.registers_after_abort-in-AbortedBy.ensures c.args.size))
