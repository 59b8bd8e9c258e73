use Rattle.std.proofs.Common.{◌≡◌, ℕ, [], get_or, length}
use Rattle.tm_stores.specs.Queues.{HaveRoom, queues_in}
use Rattle.tm_stores.proofs.queues.start_queues.Given as goal

-- the queues so far are empty, each with its room
abbrev pub invariant-loop-core : goal.invariant-loop-core
invariant-loop-core l = record {
  len : length l.rows.items ≡ l._core;
  room : HaveRoom l.most l.rows.items;
  none : (core : ℕ) → get_or (queues_in l.rows.items) core [] ≡ [];
}
