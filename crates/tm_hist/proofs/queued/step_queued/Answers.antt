use Rattle.std.proofs.Common.{◌∙◌, ap, get_or, refl}
use Rattle.tm_hist.specs.Queues.{behind_queue, queue_setting}
use Rattle.tm_hist.specs.Serial.{core_of}
use Rattle.tm_hist.proofs.QueueRuns.{queue_step_none, queue_step_some}
use Rattle.tm_hist.proofs.QueueSteps.{queued_is}
use Rattle.tm_hist.proofs.Runs.{growth_none, growth_some, no_core}
use Rattle.tm_hist.proofs.queued.step_queued.Goals as goal

pub returns-in-Some-clause-step : goal.returns-in-Some-clause-step
returns-in-Some-clause-step c =
    let k = queue_setting c.args.listing.now.code c.args.size c.args.stores in
    let i = c.from-index.result in
    let here = c.index-queues-index.result in
    let queue = get_or c.args.queues.now i here in
    let left = c.core_queued.new.queue in
    let x = get_or c.args.cores.now i no_core in
    queue_step_some k c.args.memory.now c.core_queued.new.memory c.args.queues.now c.args.cores.now i c.args.core
    c.args.outcome queue left here x no_core c.from-index.ensures c.if-index-cores.false c.requires.count
    refl refl c.in-Some.next
    (queued_is k c.requires.some c.args.memory.now queue.items (core_of x) c.args.outcome
    ∙ c.core_queued.ensures.step ∙ ap (behind_queue c.core_queued.new.memory left.items) c.in-Some.is)

pub returns-in-Some-clause-growth : goal.returns-in-Some-clause-growth
returns-in-Some-clause-growth c most h =
    let i = c.from-index.result in
    let x = get_or c.args.cores.now i no_core in
    growth_some c.args.cores.now i most x no_core c.in-Some.next c.if-index-cores.false refl
    c.in-Some.ensures.growth h

pub returns-in-None-clause-step : goal.returns-in-None-clause-step
returns-in-None-clause-step c =
    let k = queue_setting c.args.listing.now.code c.args.size c.args.stores in
    let i = c.from-index.result in
    let here = c.index-queues-index.result in
    let queue = get_or c.args.queues.now i here in
    let left = c.core_queued.new.queue in
    let x = get_or c.args.cores.now i no_core in
    queue_step_none k c.args.memory.now c.core_queued.new.memory c.args.queues.now c.args.cores.now i c.args.core
    c.args.outcome queue left here x no_core c.from-index.ensures c.if-index-cores.false c.requires.count
    refl refl
    (queued_is k c.requires.some c.args.memory.now queue.items (core_of x) c.args.outcome
    ∙ c.core_queued.ensures.step ∙ ap (behind_queue c.core_queued.new.memory left.items) c.in-None.is)

pub returns-in-None-clause-growth : goal.returns-in-None-clause-growth
returns-in-None-clause-growth c most h = growth_none c.args.cores.now most h
