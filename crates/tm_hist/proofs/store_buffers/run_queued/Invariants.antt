use Rattle.std.proofs.Common.{◌≡◌, ◌≤◌, Some, take}
use Rattle.std.specs.List.{AllByRecursion}
use Rattle.tm_hist.specs.History.{pairs_of}
use Rattle.tm_hist.specs.Queues.{IsQueue, queue_run, queue_setting, queued_in}
use Rattle.tm_hist.specs.Serial.{steps_of}
use Rattle.tm_hist.proofs.store_buffers.run_queued.Given as goal

-- the pairs before this index have run, no core has made more steps, and each core has its queue
abbrev pub invariant-pairs : goal.invariant-pairs
invariant-pairs l = record {
  ran : queue_run (queue_setting l.listing.code l.size l.stores)
      (queued_in l.initial.memory l.initial.queues l.initial.cores) (take l.index (pairs_of l.fn.history))
      ≡ Some (queued_in l.memory l.queues l.cores);
  few : AllByRecursion (λ c. steps_of c ≤ l.index) l.cores;
  queues : AllByRecursion (IsQueue l.size l.stores) l.queues;
}
