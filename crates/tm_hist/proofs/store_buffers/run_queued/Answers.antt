use Rattle.std.proofs.Common.{◌∙◌, sym}
use Rattle.std.proofs.lemmas.Option.{slice_get_within}
use Rattle.tm_hist.specs.History.{pairs_of}
use Rattle.tm_hist.specs.Queues.{queue_setting, queued_in}
use Rattle.tm_hist.proofs.QueueRuns.{queue_next}
use Rattle.tm_hist.proofs.store_buffers.run_queued.Goals as goal

pub returns-then-not-step_queued-clause-err : goal.returns-then-not-step_queued-clause-err
returns-then-not-step_queued-clause-err c =
    let k = queue_setting c.args.listing.now.code c.args.size c.args.stores in
    let start = queued_in c.args.memory.now c.args.queues.now c.args.cores.now in
    let now = queued_in c.pairs.memory c.pairs.queues c.pairs.cores in
    let at = sym c.get.ensures ∙ c.unwrap-core.ensures in
    record {
      within = slice_get_within (pairs_of c.args.history) c.pairs.index c.unwrap-core.result at;
      before = now;
      ran = c.pairs.invariant.ran;
      stuck = queue_next k start now (pairs_of c.args.history) c.pairs.index c.unwrap-core.result at
          c.pairs.invariant.ran
          ∙ c.if-not-step_queued.ensures.step;
    }

pub pairs-preserved : goal.pairs-preserved
pairs-preserved c =
    let k = queue_setting c.args.listing.now.code c.args.size c.args.stores in
    let start = queued_in c.args.memory.now c.args.queues.now c.args.cores.now in
    let now = queued_in c.pairs.memory c.pairs.queues c.pairs.cores in
    record {
      ran = queue_next k start now (pairs_of c.args.history) c.pairs.index c.unwrap-core.result
          (sym c.get.ensures ∙ c.unwrap-core.ensures) c.pairs.invariant.ran
          ∙ c.if-not-step_queued.ensures.step;
      few = c.step_queued.ensures.growth c.pairs.index c.pairs.invariant.few;
      queues = c.step_queued.ensures.queues;
    }
